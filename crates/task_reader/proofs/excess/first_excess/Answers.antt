use Rattle.std.proofs.Common.{◌∙◌, sym, arith}
use Rattle.task_reader.proofs.Capping.{not_some}
use Rattle.task_reader.proofs.Excesses.{found, goes_on, none}
use Rattle.task_reader.proofs.excess.first_excess.Goals as goal

pub returns-in-Some : goal.returns-in-Some
returns-in-Some c =
    found c.args.task.now c.in_ok-counts.counts.tally.task.now c.in_ok-counts.ensures c.actions.number c.actions.invariant c.action.result.now c.in-Some.variable
    c.action.ensures.action c.in-Some.ensures

pub actions-preserved : goal.actions-preserved
actions-preserved c =
    goes_on c.args.task.now c.in_ok-counts.counts.tally.task.now c.in_ok-counts.ensures c.actions.number c.actions.invariant c.action.result.now
    c.action.ensures.action (sym (not_some c.past_in_action.result c.in_default.not-Some) ∙ c.past_in_action.ensures)

pub returns : goal.returns
returns c =
    c.goal_excess.ensures
    ∙ none c.args.task.now c.in_ok-counts.counts.tally.task.now c.in_ok-counts.ensures c.actions.number c.actions.invariant (omega (arith, c.actions-test.false, c.action_count-number-end.ensures.count))

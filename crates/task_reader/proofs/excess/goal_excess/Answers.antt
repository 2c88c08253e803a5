use Rattle.std.proofs.Common.{◌∙◌, ap}
use Rattle.std.specs.Option.{option_map}
use Rattle.task_reader.specs.declared.excess.Whose.TheVariants.{Goal}
use Rattle.task_reader.specs.Bindings.{all_quantifiers, excess_in, goal_excess, nothing_counted, past, variable_past, with_quantifiers}
use Rattle.task_reader.proofs.excess.goal_excess.Goals as goal

pub returns-in-Ok : goal.returns-in-Ok
unfolding goal_excess variable_past past excess_in
returns-in-Ok c =
    let task = c.args.counts.now.tally.task.now in
    ap (λ result. option_map (excess_in Goal) (past result)) (c.in-Ok.ensures ∙ ap (λ trees. with_quantifiers nothing_counted (all_quantifiers task trees)) c.requires)

pub returns-in-Err : goal.returns-in-Err
unfolding goal_excess variable_past past excess_in
returns-in-Err c =
    let task = c.args.counts.now.tally.task.now in
    ap (λ result. option_map (excess_in Goal) (past result)) (c.in-Err.ensures ∙ ap (λ trees. with_quantifiers nothing_counted (all_quantifiers task trees)) c.requires)

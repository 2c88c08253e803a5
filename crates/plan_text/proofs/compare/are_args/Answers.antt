use Rattle.std.proofs.Common.{sym, ◌∙◌}
use Rattle.strips_task.specs.StepView.{step_shown}
use Rattle.plan_text.proofs.Comparisons.{args_go_on}
use Rattle.plan_text.proofs.compare.are_args.Goals as goal

pub returns-then-not-is_folded : goal.returns-then-not-is_folded
returns-then-not-is_folded c =
    sym (args_go_on (step_shown c.args.step).args c.loop-index.index c.arg.result.now c.in-Some.word.now c.loop-index.words c.next.new.self _ c.arg.ensures c.in-Some.ensures (sym c.if-not-is_folded.true ∙ c.is_folded.ensures))
    ∙ c.loop-index.invariant

pub loop-index-preserved : goal.loop-index-preserved
loop-index-preserved c =
    sym (args_go_on (step_shown c.args.step).args c.loop-index.index c.arg.result.now c.in-Some.word.now c.loop-index.words c.next.new.self _ c.arg.ensures c.in-Some.ensures (sym c.if-not-is_folded.false ∙ c.is_folded.ensures))
    ∙ c.loop-index.invariant

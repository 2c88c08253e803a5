use Rattle.std.proofs.Common.{◌∷◌, take, ◌∙◌}
use Rattle.strips_task.proofs.steps.push_words.Goals as goal

pub returns-in_err-push_folded-2-clause-kept : goal.returns-in_err-push_folded-2-clause-kept
returns-in_err-push_folded-2-clause-kept c = record {
  more = c.args.step.now.action ∷ take c.loop-name.name-index c.as_slice-name-items.result.now;
  extends = c.in_err-push_folded-2.ensures.err ∙ c.loop-name.invariant;
}

use Rattle.std.proofs.Common.{◌∙◌, sym}
use Rattle.task_reader.proofs.Lists.{some_here}
use Rattle.task_reader.proofs.bindings.have_variables.Goals as goal

pub returns-then-not-is_empty : goal.returns-then-not-is_empty
returns-then-not-is_empty c = (
  (λ e. cc),
  (λ none. sym (c.is_empty.ensures.1
      (some_here c.args.groups.now c.loop-group.group-index c.group-item.result c.loop-group-test.true c.group-item.is (c.loop-group.invariant ∙ none)))
      ∙ c.if-not-is_empty.true),
)

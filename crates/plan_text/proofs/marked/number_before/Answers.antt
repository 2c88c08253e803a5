use Rattle.std.proofs.Common.{◌∙◌}
use Rattle.plan_text.proofs.MarkedNumbers.{ends_with_mark, ends_otherwise, no_last}
use Rattle.plan_text.proofs.marked.number_before.Goals as goal

pub returns-in-Some-clause-value : goal.returns-in-Some-clause-value
returns-in-Some-clause-value c = c.billionths.ensures.value ∙ ends_with_mark _ _ _ _ c.in-Some.ensures.cases.0 c.if-last-mark.true

pub returns-in_default-clause-value : goal.returns-in_default-clause-value
returns-in_default-clause-value c = ends_otherwise _ _ _ _ c.in-Some.ensures.cases.0 c.if-last-mark.false

pub returns-in_default-2-clause-value : goal.returns-in_default-2-clause-value
returns-in_default-2-clause-value c = no_last _ _ (rw c.in_default.is at c.split_last.ensures.cases)

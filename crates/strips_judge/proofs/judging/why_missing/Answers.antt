use Rattle.std.proofs.Common.{sym, ap, ◌∙◌}
use Rattle.strips_judge.specs.Step.{missing_why}
use Rattle.strips_judge.proofs.judging.why_missing.Goals as goal

pub returns-then-is_empty-clause-why : goal.returns-then-is_empty-clause-why
returns-then-is_empty-clause-why c = ap missing_why (sym (c.is_empty.ensures.0 c.if-is_empty.true) ∙ c.in_ok-unmet.ensures.missing)

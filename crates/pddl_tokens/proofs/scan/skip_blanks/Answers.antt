use Rattle.std.proofs.Common.{sym, ◌∙◌, arith}
use Rattle.pddl_tokens.proofs.PlainRows.{behind_blank}
use Rattle.pddl_tokens.proofs.scan.skip_blanks.Goals as goal

pub blanks-preserved : goal.blanks-preserved
blanks-preserved c = record {
  same = sym (behind_blank _ _ c.blanks-test.true (sym c.is_blank.ensures ∙ c.if-not-is_blank.false)) ∙ c.blanks.invariant.same;
  within = omega (arith, c.blanks-test.true);
}

use Rattle.std.proofs.Common.{sym, ◌∙◌, eqb-true}
use Rattle.pddl_tokens.proofs.Lemmas.{end_step}
use Rattle.pddl_tokens.proofs.scan.Cursor.is_over.Goals as goal

pub returns : goal.returns
returns c = λ over. sym c.self.view_is ∙ sym c.skip_blanks.ensures.same ∙ end_step _ _ (eqb-true _ _ over)

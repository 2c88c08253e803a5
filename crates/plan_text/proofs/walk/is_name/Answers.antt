use Rattle.std.proofs.Common.{sym, ◌∙◌}
use Rattle.pddl_words.proofs.KindLaws.{kind_of_word-name}
use Rattle.plan_text.proofs.Names.{no_name}
use Rattle.plan_text.proofs.walk.is_name.Goals as goal

pub returns-in-Name : goal.returns-in-Name
returns-in-Name c = sym ((kind_of_word-name _).0 (sym c.in-Name.ensures))

pub returns-in_default : goal.returns-in_default
returns-in_default c = sym (no_name _ (λ is. c.in_default.not-Name (c.word_kind.ensures ∙ is)))

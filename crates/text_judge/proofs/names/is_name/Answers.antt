use Rattle.std.proofs.Common.{sym, arith}
use Rattle.pddl_words.proofs.KindLaws.{kind_of_word-name}
use Rattle.text_judge.proofs.names.is_name.Goals as goal

pub returns-in-Name : goal.returns-in-Name
returns-in-Name c = sym ((kind_of_word-name _).0 (sym c.in-Name.ensures))

pub returns-in_default : goal.returns-in_default
returns-in_default c = grind (arith, kind_of_word-name c.args.word.now, c.in_default.not-Name, c.word_kind.ensures)

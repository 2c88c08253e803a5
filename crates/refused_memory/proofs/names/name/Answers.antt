use Rattle.std.proofs.Common.{sym}
use Rattle.pddl_words.proofs.KindLaws.{kind_of_word-name}
use Rattle.refused_memory.proofs.names.name.Goals as goal

pub from_word-requires : goal.from_word-requires
from_word-requires c = (kind_of_word-name _).0 (sym c.in-Name.ensures)

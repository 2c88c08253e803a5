use Rattle.reading_laws.proofs.TypedLists.{names_typed_so}
use Rattle.reading_laws.proofs.typed_names_are_groups.Goals as goal

pub returns : goal.returns
returns c = names_typed_so

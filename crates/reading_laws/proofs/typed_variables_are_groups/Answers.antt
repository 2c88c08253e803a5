use Rattle.reading_laws.proofs.VariableLists.{variables_typed_so}
use Rattle.reading_laws.proofs.typed_variables_are_groups.Goals as goal

pub returns : goal.returns
returns c = variables_typed_so

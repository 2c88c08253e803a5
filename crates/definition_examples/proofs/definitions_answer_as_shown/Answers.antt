use Rattle.definition_examples.proofs.Computed.{computed}
use Rattle.definition_examples.proofs.definitions_answer_as_shown.Goals as goal

pub returns : goal.returns
returns c = computed

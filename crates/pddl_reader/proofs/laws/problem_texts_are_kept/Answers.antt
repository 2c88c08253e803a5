use Rattle.pddl_reader.proofs.DialectTexts.{problem_kept}
use Rattle.pddl_reader.proofs.laws.problem_texts_are_kept.Goals as goal

pub returns : goal.returns
returns c = problem_kept

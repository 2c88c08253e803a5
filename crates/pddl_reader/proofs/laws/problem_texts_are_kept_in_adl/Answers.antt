use Rattle.pddl_reader.proofs.DialectTexts.{problem_kept_in_adl}
use Rattle.pddl_reader.proofs.laws.problem_texts_are_kept_in_adl.Goals as goal

pub returns : goal.returns
returns c = problem_kept_in_adl

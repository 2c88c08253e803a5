use Rattle.std.proofs.Common.{◌≡◌, Some, Ok, Err, ap, sym, ◌∙◌}
use Rattle.pddl_reader.proofs.TextLemmas.{problem_default}
use Rattle.pddl_reader.proofs.readers.read_problem.Goals as goal

pub returns-clause-task : goal.returns-clause-task
returns-clause-task c =
    problem_default c.args.domain c.args.text.now c.in_ok-costed.costed c.in_ok-costed.ensures.task ∙ ap Some (sym c.into_task.ensures)

pub returns-clause-fault : goal.returns-clause-fault
returns-clause-fault c = λ e h. let no : Ok c.in_ok-costed.costed ≡ Err e = c.in_ok-costed.ensures.fault e h in cc

use Rattle.std.proofs.lemmas.Result.{err_from_is_err_and}
use Rattle.pddl_reader.proofs.TextLemmas.{problem_fault}
use Rattle.pddl_reader.proofs.readers.read_problem_in.Goals as goal

pub returns-in_err-check_text-clause-task : goal.returns-in_err-check_text-clause-task
returns-in_err-check_text-clause-task c =
    let p = err_from_is_err_and c.from_residual.result c.from_residual.ensures.1 in
    let e = c.in_err-check_text.ensures in
    rw (p.1, p.2) (λ k. absurd (e.kind k), λ k. problem_fault c.args.dialect c.args.domain c.args.text.now _ e.first)

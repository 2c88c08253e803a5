use Rattle.std.proofs.lemmas.Result.{err_from_is_err_and}
use Rattle.plan_judge_c.proofs.inputs.bundles_from.Goals as goal

pub returns-in_err-bundle_from-clause-names : goal.returns-in_err-bundle_from-clause-names
returns-in_err-bundle_from-clause-names c =
    let p = err_from_is_err_and c.from_residual-in_err-bundle_from.result c.from_residual-in_err-bundle_from.ensures.1 in
    rw (p.1, p.2) (λ is all. c.in_err-bundle_from.ensures.name is (all c.loop-file.file-index _ c.loop-file-test.true))

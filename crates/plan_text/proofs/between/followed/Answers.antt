use Rattle.plan_text.proofs.Lemmas.{bracket_refused, stamp_follows}
use Rattle.plan_text.specs.PlanSteps.{reading}
use Rattle.plan_text.proofs.between.followed.Goals as goal

pub returns-in_err-number_before-in-Some : goal.returns-in_err-number_before-in-Some
returns-in_err-number_before-in-Some c = λ plan counted none.
    bracket_refused _ plan (reading c.args.expected plan) c.args.text.now _ c.from_residual.ensures c.in-Some.ensures.cases.0 c.in-Some.ensures.cases.1 c.in_err-number_before-in-Some.ensures.value

pub returns-in-None : goal.returns-in-None
returns-in-None c = λ plan counted none. stamp_follows _ plan (reading c.args.expected plan) c.args.text.now c.in-None.ensures.cases (c.stamped.ensures plan counted none)

use Rattle.std.proofs.Common.{◌∙◌, ap}
use Rattle.intake_rules.specs.Jobs.{AcceptedPlan}
use Rattle.judge_engine.specs.Plans.{plan_of_cut}
use Rattle.judge_engine.proofs.Submitted.{right_is_judged}
use Rattle.judge_engine.proofs.alone.judge_cut.Goals as goal

pub returns-in-Ok-clause-finding : goal.returns-in-Ok-clause-finding
returns-in-Ok-clause-finding c =
    right_is_judged c.args.judge.now c.in-Ok.finding (plan_of_cut c.args.bundles.now c.args.cut).plan c.in-Ok.ensures.right
    (ap (λ (job : AcceptedPlan). job.plan) c.in-Ok.ensures.job ∙ c.in_ok-plan.ensures)

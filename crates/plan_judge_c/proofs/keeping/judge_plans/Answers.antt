use Rattle.std.proofs.Common.{sym}
use Rattle.judge_engine.specs.declared.fault.JudgeFault.TheVariants.{TooLarge}
use Rattle.judge_engine.proofs.KeptTasks.{none_if_large}
use Rattle.plan_judge_c.specs.Inputs.{bundles_of}
use Rattle.plan_judge_c.proofs.keeping.judge_plans.Goals as goal

pub returns-in-Some-clause-refused : goal.returns-in-Some-clause-refused
returns-in-Some-clause-refused c =
    λ is. let refused = c.refuse_plans.ensures.refused is in
    (none_if_large c.args.format c.args.task.now (bundles_of c.args.plans.now) c.in-Some.large c.in-Some.ensures, TooLarge c.in-Some.large, sym c.in-Some.ensures, refused.0, refused.1, refused.2)

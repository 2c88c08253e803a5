use Rattle.std.proofs.Common.{sym}
use Rattle.judge_engine.specs.declared.fault.JudgeFault.TheVariants.{TooLarge}
use Rattle.judge_engine.proofs.RunAnswers.{none_if_large}
use Rattle.plan_judge_c.specs.Inputs.{bundles_of}
use Rattle.plan_judge_c.proofs.judging.judge_texts.Goals as goal

pub returns-in-Some-clause-refused : goal.returns-in-Some-clause-refused
returns-in-Some-clause-refused c = λ is. (
  none_if_large c.args.dialect c.args.format c.args.texts.now.domain.bytes.now c.args.texts.now.problem.bytes.now (bundles_of c.args.texts.now.plans.now) c.in-Some.large c.in-Some.ensures,
  TooLarge c.in-Some.large,
  (tt, sym c.in-Some.ensures),
  c.refuse.ensures.refused is,
)

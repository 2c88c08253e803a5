use Rattle.std.proofs.Common.{◌<◌, All, ap, length, sym, subst, arith}
use Rattle.judge_engine.proofs.Submitted.{all_of_first, count_handed}
use Rattle.judge_engine.proofs.engine.judge_together.Goals as goal

pub overflow_cast-slots : goal.overflow_cast-slots
overflow_cast-slots g c = omega (arith, c.requires.few)

pub run-requires-clause-slots : goal.run-requires-clause-slots
run-requires-clause-slots g c κs within = omega (arith, c.requires.few)

pub run-requires-clause-plans : goal.run-requires-clause-plans
run-requires-clause-plans g c κs within = omega (arith, ap length c.new-intake.ensures, count_handed c.args.input.now.bundles.now c.args.cuts.now)

pub run-requires-clause-known : goal.run-requires-clause-known
run-requires-clause-known g c κs within = subst (All (λ plan. plan.planner < 1)) (sym c.new-intake.ensures) (all_of_first c.args.input.now.bundles.now c.args.cuts.now)

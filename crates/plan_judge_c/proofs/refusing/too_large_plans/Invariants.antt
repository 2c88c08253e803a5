use Rattle.std.proofs.Common.{◌≡◌, []}
use Rattle.judge_engine.specs.Answer.{too_large}
use Rattle.judge_engine.proofs.TooLarge.{large_from}
use Rattle.plan_judge_c.specs.Inputs.{bundles_of}
use Rattle.plan_judge_c.proofs.refusing.too_large_plans.Given as goal

-- None of the files so far is over the limit.
abbrev pub invariant-loop-number : goal.invariant-loop-number
invariant-loop-number l = too_large [] [] (bundles_of l.plans) ≡ large_from l.number (bundles_of l.plans)

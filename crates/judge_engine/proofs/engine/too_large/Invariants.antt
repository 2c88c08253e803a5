use Rattle.std.proofs.Common.{◌≡◌}
use Rattle.judge_engine.specs.Answer.{too_large}
use Rattle.judge_engine.proofs.TooLarge.{large_from}
use Rattle.judge_engine.proofs.engine.too_large.Given as goal

-- None of the texts so far is over the limit.
abbrev pub invariant-loop-number : goal.invariant-loop-number
invariant-loop-number l = too_large l.domain l.problem l.bundles ≡ large_from l.number l.bundles

use Rattle.std.proofs.Common.{◌≡◌}
use Rattle.step_codes.proofs.compiling.is_never_true.Given as goal

abbrev pub invariant-loop-conjunct : goal.invariant-loop-conjunct
invariant-loop-conjunct l = l.room.bound ≡ l.fn.room.bound

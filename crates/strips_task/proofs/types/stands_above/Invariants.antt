use Rattle.std.proofs.Common.{◌≡◌, ◌-◌, length}
use Rattle.strips_task.specs.Types.{is_within}
use Rattle.strips_task.proofs.types.stands_above.Given as goal

-- What is left of the walk decides.
abbrev pub invariant-up : goal.invariant-up
invariant-up l = is_within l.parents (length l.parents) l.sub l.sup ≡ is_within l.parents (length l.parents - l.counter) l.at l.sup

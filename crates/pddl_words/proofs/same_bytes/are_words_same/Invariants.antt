use Rattle.std.proofs.Common.{◌≡◌, ◌-◌, take}
use Rattle.pddl_words.proofs.same_bytes.are_words_same.Given as goal

-- The bytes so far are the same.
abbrev pub invariant-loop-at : goal.invariant-loop-at
invariant-loop-at l = take l.at l.a ≡ take l.at l.b

abbrev pub decreases-loop-at : goal.decreases-loop-at
decreases-loop-at l = l.last - l.at

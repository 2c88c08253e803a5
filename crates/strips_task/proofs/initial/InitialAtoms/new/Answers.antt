use Rattle.std.proofs.Common.{ap, length, arith}
use Rattle.strips_task.specs.FirstOccurrences.{first_occurrences}
use Rattle.strips_task.proofs.initial.InitialAtoms.new.Goals as goal

pub invariant_of-result : goal.invariant_of-result
unfolding first_occurrences
invariant_of-result c =
    (λ k d lt. absurd (omega (arith, ap length c.new-2.ensures.items)), rw c.new-2.ensures.items c.new.ensures)

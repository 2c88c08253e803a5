use Rattle.std.proofs.Common.{◌≡◌, ◌<◌, ℕ, length}
use Rattle.strips_task.specs.KnownAtoms.{table}
use Rattle.strips_task.proofs.KnownAtoms.{place, IsPassed}
use Rattle.strips_task.proofs.known_atoms.search.Given as goal

-- The search has come to this slot, and passed those before it.
abbrev pub invariant-loop-step : goal.invariant-loop-step
invariant-loop-step l = record {
  there : l.index ≡ place (table l.objects_by l.head_by l.slots) l.key l.step;
  within : l.index < length l.slots;
  passed : (before : ℕ) → before < l.step → IsPassed (table l.objects_by l.head_by l.slots) l.key before;
}

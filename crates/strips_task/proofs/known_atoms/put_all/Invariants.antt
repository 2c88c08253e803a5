use Rattle.std.proofs.Common.{◌≢◌, ◌<◌, ℕ, All, Option, get_or}
use Rattle.strips_task.specs.declared.atom_keys.AtomKey.{AtomKey}
use Rattle.strips_task.specs.declared.known_atoms.Slot.{Slot}
use Rattle.strips_task.specs.KnownAtoms.{key_in, HasRight, IsKnown, table}
use Rattle.strips_task.proofs.known_atoms.put_all.Given as goal

-- The atoms of the slots so far are known, and those that are known have the right numbers.
abbrev pub invariant-loop-slot : goal.invariant-loop-slot
invariant-loop-slot l = record {
  placed : (k : ℕ) (d : Slot) → k < l.slot-index → (get_or l.others k d).next ≢ 0 → IsKnown (table l.objects_by l.head_by l.slots.items) (key_in (get_or l.others k d));
  right : (number_of : AtomKey → Option ℕ) → All (HasRight number_of) l.others → All (HasRight number_of) l.initial.slots.items → All (HasRight number_of) l.slots.items;
}

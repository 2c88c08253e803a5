-- A table of the numbers of atoms of few objects. The search for a key begins at the slot that its hash chooses and goes on from slot to slot, from the last
-- one to the first, up to a free one.

use Rattle.std.specs.Prelude.{◌≡◌, ◌≢◌, ◌<◌, ◌+◌, ◌-◌, ◌%◌, ℕ, List, All, Option, Some, bit_and, bit_xor, length, slice_index_or}
use Rattle.std.specs.Hash.FoldHasher.{folded_multiply}
use Rattle.strips_task.specs.declared.atom_keys.AtomKey.{AtomKey}
use Rattle.strips_task.specs.declared.known_atoms.Place.{Place}
use Rattle.strips_task.specs.declared.known_atoms.Place.TheVariants.{Has, Free, Nowhere}
use Rattle.strips_task.specs.declared.known_atoms.Slot.{Slot}

-- a table: two secret numbers that its hashes depend on, and its slots
pub record Known : Type 0 where
  pub objects_by : ℕ
  pub head_by : ℕ
  pub slots : List Slot

-- the hash of a key: both its parts are mixed with a secret number, and the halves of their product are joined
unfoldable pub hash_of : ℕ → ℕ → AtomKey → ℕ
hash_of objects_by head_by key = folded_multiply (bit_xor key.objects objects_by) (bit_xor key.head head_by)

-- the key of the atom in a slot
abbrev pub key_in : Slot → AtomKey
key_in slot = record { objects = slot.objects; head = slot.head }

-- the slot to which the search for a key comes after some steps
unfoldable pub searched : Known → AtomKey → ℕ → Slot
searched known key steps =
    slice_index_or known.slots
    ((bit_and (hash_of known.objects_by known.head_by key) (length known.slots - 1) + steps) % length known.slots)
    (record { objects = 0; head = 0; next = 0 })

-- the search for a key comes to a slot that has it, and to no free slot before
pub record IsKnown (known : Known) (key : AtomKey) : Type 0 where
  pub steps : ℕ
  pub few : steps < length known.slots
  pub here : key_in (searched known key steps) ≡ key
  pub full : (searched known key steps).next ≢ 0
  pub taken : (before : ℕ) → before < steps → (searched known key before).next ≢ 0

-- a slot that is taken has the number of its key
abbrev pub HasRight : (AtomKey → Option ℕ) → Slot → Type 0
HasRight number_of slot = slot.next ≢ 0 → number_of (key_in slot) ≡ Some (slot.next - 1)

-- each slot is free, or has the number of its key
abbrev pub AreRight : (AtomKey → Option ℕ) → Known → Type 0
AreRight number_of known = All (HasRight number_of) known.slots

-- the index of the slot, of so many, at which the search for a hash begins
abbrev pub first_slot : ℕ → ℕ → ℕ
first_slot hash count = bit_and hash (count - 1)

-- the table of some secret numbers and slots
abbrev pub table : ℕ → ℕ → List Slot → Known
table objects_by head_by slots = record { objects_by = objects_by; head_by = head_by; slots = slots }

-- the search for a key comes to the free slot at an index
pub record IsFreeFor (known : Known) (key : AtomKey) (index : ℕ) : Type 0 where
  pub steps : ℕ
  pub few : steps < length known.slots
  pub at_index : index ≡ (first_slot (hash_of known.objects_by known.head_by key) (length known.slots) + steps) % length known.slots
  pub free : (searched known key steps).next ≡ 0
  pub taken : (before : ℕ) → before < steps → (searched known key before).next ≢ 0

-- the search for a key comes to a slot that has it, with this number
pub record IsKnownAs (known : Known) (key : AtomKey) (number : ℕ) : Type 0 where
  pub found : IsKnown known key
  pub number_there : (searched known key found.steps).next ≡ number + 1

-- the search for a key comes to the free slot at an index, and the key is in no slot that it passes
pub record IsNewAt (known : Known) (key : AtomKey) (index : ℕ) : Type 0 where
  pub free : IsFreeFor known key index
  pub absent : IsKnown known key → ⊥

-- the search for a key ends at a place: at the slot that has it, at a free slot, so that the key is in none, or nowhere, and then the key is in none either
abbrev pub EndsAt : Known → AtomKey → Place → Type 0
EndsAt known key (Has number) = IsKnownAs known key number
EndsAt known key (Free index) = IsNewAt known key index
EndsAt known key Nowhere = IsKnown known key → ⊥

-- The search for a key among the slots of a table of atoms.

use Rattle.std.proofs.Common.{◌≡◌, ◌≢◌, ◌<◌, ◌+◌, ◌-◌, ◌%◌, ℕ, List, All, Option, Some, inl, inr, length, get_or, slice_index_or, set, ap, refl, sym, ◌∙◌, subst, arith}
use Rattle.std.proofs.lemmas.Bool.{cases_lt}
use Rattle.std.proofs.lemmas.List.{get_or-set_same, get_or-set_other, get_or_default, length-set}
use Rattle.std.proofs.lemmas.Nat.{mod_below}
use Rattle.std.proofs.Math.Nat.{mod-add-mod, mod-eq_of_lt}
use Rattle.strips_task.specs.declared.atom_keys.AtomKey.{AtomKey}
use Rattle.strips_task.specs.declared.known_atoms.Slot.{Slot}
use Rattle.strips_task.specs.KnownAtoms.{Known, AreRight, HasRight, IsFreeFor, IsKnown, IsKnownAs, first_slot, hash_of, key_in, searched, table}

-- the index of the slot to which the search comes
abbrev pub place : Known → AtomKey → ℕ → ℕ
place known key steps = (first_slot (hash_of known.objects_by known.head_by key) (length known.slots) + steps) % length known.slots

abbrev empty : Slot
empty = record { objects = 0; head = 0; next = 0 }

module _ (known : Known) (key : AtomKey) where
  -- it begins at the first slot of the hash
  pub place_first : (index : ℕ) → index ≡ first_slot (hash_of known.objects_by known.head_by key) (length known.slots) → index < length known.slots → index ≡ place known key 0
  place_first index is within =
      let first : ℕ = first_slot (hash_of known.objects_by known.head_by key) (length known.slots) in
      let lt : first + 0 < length known.slots = omega (arith, is, within) in
      let e : index ≡ first + 0 = omega (arith, is) in
      e ∙ sym (mod-eq_of_lt lt)

  -- it goes on from one slot to the next
  pub place_next : (steps index : ℕ) → index ≡ place known key steps → (index + 1) % length known.slots ≡ place known key (steps + 1)
  place_next steps index is =
      let first : ℕ = first_slot (hash_of known.objects_by known.head_by key) (length known.slots) in
      ap (λ i. (i + 1) % length known.slots) is
      ∙ mod-add-mod (first + steps) (length known.slots) 1
      ∙ ap (λ i. i % length known.slots) (let e : first + steps + 1 ≡ first + (steps + 1) = omega arith in e)

  -- the slot there
  pub slot_there : (steps index : ℕ) → index ≡ place known key steps → slice_index_or known.slots index empty ≡ searched known key steps
  unfolding searched
  slot_there steps index is = ap (λ i. slice_index_or known.slots i empty) is

  -- a slot that a search passes: it is taken, and has another key
  pub record IsPassed (steps : ℕ) : Type 0 where
    pub taken : (searched known key steps).next ≢ 0
    pub other : key_in (searched known key steps) ≢ key

  -- a search that comes to a free slot has not passed the key, nor will it come to it
  pub absent_at_free : (steps : ℕ) → ((before : ℕ) → before < steps → IsPassed before) → (searched known key steps).next ≡ 0 → IsKnown known key → ⊥
  absent_at_free steps passed free found =
      elim (cases_lt found.steps steps) [
        | inl lt ↦ (passed found.steps lt).other found.here
        | inr ge ↦ elim (cases_lt steps found.steps) [
          | inl lt ↦ found.taken steps lt free
          | inr le ↦
              let same : found.steps ≡ steps = omega arith in
              found.full (ap (λ k. (searched known key k).next) same ∙ free)
        ]
      ]

module _ (objects_by head_by : ℕ) (slots : List Slot) (index : ℕ) (slot : Slot) where
  abbrev before : Known
  before = table objects_by head_by slots

  abbrev after : Known
  after = table objects_by head_by (set slots index slot)

  searched_other : (key : AtomKey) (steps : ℕ) → place before key steps ≢ index → searched after key steps ≡ searched before key steps
  unfolding searched
  searched_other key steps apart =
      ap (λ n. slice_index_or (set slots index slot) ((first_slot (hash_of objects_by head_by key) n + steps) % n) empty) (length-set slots index slot)
      ∙ get_or-set_other slots index (place before key steps) slot empty apart

  searched_same : (key : AtomKey) (steps : ℕ) → index ≡ place before key steps → index < length slots → searched after key steps ≡ slot
  unfolding searched
  searched_same key steps is within =
      ap (λ n. slice_index_or (set slots index slot) ((first_slot (hash_of objects_by head_by key) n + steps) % n) empty) (length-set slots index slot)
      ∙ ap (λ i. slice_index_or (set slots index slot) i empty) (sym is)
      ∙ get_or-set_same slots index slot empty within

  module _ (key : AtomKey) (free : IsFreeFor before key index) where
    -- a slot that is taken is another one than a free one
    apart_from_free : (other : AtomKey) (steps : ℕ) → (searched before other steps).next ≢ 0 → place before other steps ≢ index
    apart_from_free other steps taken is =
        taken (ap (λ (s : Slot). s.next) (sym (slot_there before other steps index (sym is)) ∙ slot_there before key free.steps index free.at_index) ∙ free.free)

    -- a slot that is taken stays as it is when a free slot is taken
    kept : (other : AtomKey) (steps : ℕ) → (searched before other steps).next ≢ 0 → searched after other steps ≡ searched before other steps
    kept other steps taken = searched_other other steps (apart_from_free other steps taken)

    still_taken : (other : AtomKey) (steps : ℕ) → (searched before other steps).next ≢ 0 → (searched after other steps).next ≢ 0
    still_taken other steps taken none = taken (ap (λ (s : Slot). s.next) (sym (kept other steps taken)) ∙ none)

    -- what is known stays known
    pub still_known : (other : AtomKey) → IsKnown before other → IsKnown after other
    still_known other found = record {
      steps = found.steps;
      few = omega (arith, found.few, length-set slots index slot);
      here = ap (λ (s : Slot). key_in s) (kept other found.steps found.full) ∙ found.here;
      full = still_taken other found.steps found.full;
      taken = λ k lt. still_taken other k (found.taken k lt);
    }

    -- and what is put there is known
    pub put_known : key_in slot ≡ key → slot.next ≢ 0 → IsKnown after key
    put_known is full =
        let within : index < length slots = omega (arith, free.at_index, free.few) in
        let here = searched_same key free.steps free.at_index within in
        record {
          steps = free.steps;
          few = omega (arith, free.few, length-set slots index slot);
          here = ap (λ (s : Slot). key_in s) here ∙ is;
          full = λ none. full (ap (λ (s : Slot). s.next) (sym here) ∙ none);
          taken = λ k lt. still_taken key k (free.taken k lt);
        }

-- what holds of each slot holds of the one to which a search comes
at_searched : (P : Slot → Type 0) (known : Known) (key : AtomKey) (steps : ℕ) → steps < length known.slots → All P known.slots → P (searched known key steps)
at_searched P known key steps few all =
    let index : ℕ = place known key steps in
    let some : 0 < length known.slots = omega (arith, few) in
    let within : index < length known.slots = mod_below _ (length known.slots) some in
    subst P (slot_there known key steps index refl) (all index empty within)

-- what is known in a table is known in another in which the key of each taken slot is known
pub known_there : (known other : Known) → All (λ slot. slot.next ≢ 0 → IsKnown other (key_in slot)) known.slots → (key : AtomKey) → IsKnown known key → IsKnown other key
known_there known other all key found =
    subst (IsKnown other) found.here (at_searched (λ slot. slot.next ≢ 0 → IsKnown other (key_in slot)) known key found.steps found.few all found.full)

-- where each slot has the number of its key, so has the one that a search finds
pub number_found : (number_of : AtomKey → Option ℕ) (known : Known) (key : AtomKey) (number : ℕ) → IsKnownAs known key number → AreRight number_of known → number_of key ≡ Some number
number_found number_of known key number is right =
    let found : IsKnown known key = is.found in
    let there : (searched known key found.steps).next - 1 ≡ number = omega (arith, is.number_there) in
    subst (λ k. number_of k ≡ Some number) found.here (at_searched (HasRight number_of) known key found.steps found.few right found.full ∙ ap Some there)

-- what holds of the slots before one, and of that one, holds of each up to it
pub up_to : (P : Slot → Type 0) (slots : List Slot) (count : ℕ) → count < length slots → ((k : ℕ) (d : Slot) → k < count → P (get_or slots k d)) → P (get_or slots count empty)
    → (k : ℕ) (d : Slot) → k < count + 1 → P (get_or slots k d)
up_to P slots count within before here k d lt =
    elim (cases_lt k count) [
      | inl less ↦ before k d less
      | inr ge ↦
          let same : count ≡ k = omega arith in
          subst (λ i. P (get_or slots i d)) same (subst P (get_or_default slots count empty d within) here)
    ]

-- the slot of a key and its number
pub right_slot : (number_of : AtomKey → Option ℕ) (key : AtomKey) (number : ℕ) → number_of key ≡ Some number → HasRight number_of (record { objects = key.objects; head = key.head; next = number + 1 })
right_slot number_of key number is full = let e : number ≡ number + 1 - 1 = omega arith in is ∙ ap Some e

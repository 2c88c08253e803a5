-- Different atoms of one object have different cells, so the number in a cell is that of one atom.

use Rattle.std.proofs.Common.{◌≡◌, ◌≢◌, ◌<◌, ◌+◌, ◌/◌, ◌%◌, ⊎_elim, ℕ, Option, Some, length, set, slice_index, ap, sym, subst, ◌∙◌, arith, get_or-set_same, get_or-set_other}
use Rattle.std.proofs.lemmas.Bool.{cases_eq}
use Rattle.std.proofs.lemmas.Bool.Decides.{nat_tests}
use Rattle.std.proofs.lemmas.Nat.{same_from_place}
use Rattle.strips_judge.specs.SingleCells.{AreCells, Cells, Extent, cell_of, place_of}
use Rattle.strips_task.specs.declared.atom_keys.AtomKey.{AtomKey}

-- a key with a cell is that of an atom of one object
one_object : (extent : Extent) (key : AtomKey) (cell : ℕ) → cell_of extent key ≡ Some cell → key.head / 65536 ≡ 1
one_object extent key cell of = grind (arith, nat_tests)

-- the object is one of those that have cells
object_within : (extent : Extent) (key : AtomKey) (cell : ℕ) → cell_of extent key ≡ Some cell → key.objects < extent.objects
object_within extent key cell of = grind (arith, nat_tests)

-- where the cell is
place : (extent : Extent) (key : AtomKey) (cell : ℕ) → cell_of extent key ≡ Some cell → place_of extent.objects key ≡ cell
place extent key cell of = grind (arith, nat_tests)

-- keys with the same cell are the same
one_key : (extent : Extent) (a b : AtomKey) (cell : ℕ) → cell_of extent a ≡ Some cell → cell_of extent b ≡ Some cell → a ≡ b
one_key extent a b cell of_a of_b =
    let one : a.head / 65536 ≡ b.head / 65536 = one_object extent a cell of_a ∙ sym (one_object extent b cell of_b) in
    let places : place_of extent.objects a ≡ place_of extent.objects b = place extent a cell of_a ∙ sym (place extent b cell of_b) in
    let same : (a.head % 65536 ≡ b.head % 65536) × (a.objects ≡ b.objects) =
    same_from_place _ _ _ _ extent.objects (object_within extent a cell of_a) (object_within extent b cell of_b) places in
    let head : a.head ≡ b.head = omega (arith, same.0, one) in
    λ j. record { objects = same.1 j; head = head j }

-- cells that hold the same
pub cells_same : (number_of : AtomKey → Option ℕ) (old new : Cells) → new.extent ≡ old.extent
    → ((k : ℕ) → slice_index new.cells k ≡ slice_index old.cells k) → AreCells number_of old → AreCells number_of new
cells_same number_of old new extent same kept key cell number of at =
    kept key cell number (subst (λ (e : Extent). cell_of e key ≡ Some cell) extent of) (sym (same cell) ∙ at)

-- cells with a number in one of them
abbrev pub with_number : Cells → ℕ → ℕ → Cells
with_number old cell number = record { extent = old.extent; cells = set old.cells cell (number + 1) }

-- a number that is put into the cell of its atom
pub cell_put : (number_of : AtomKey → Option ℕ) (old : Cells) (key : AtomKey) (cell number : ℕ) → cell < length old.cells
    → cell_of old.extent key ≡ Some cell → number_of key ≡ Some number → AreCells number_of old → AreCells number_of (with_number old cell number)
cell_put number_of old key cell number within of is kept other k n of_other at =
    ⊎_elim
    (λ (same : k ≡ cell).
    let there : slice_index (with_number old cell number).cells cell ≡ number + 1 = get_or-set_same old.cells cell (number + 1) 0 within in
    let next : n + 1 ≡ number + 1 = sym at ∙ ap (slice_index (with_number old cell number).cells) same ∙ there in
    let value : number ≡ n = omega (arith, next) in
    let of_cell : cell_of old.extent other ≡ Some cell = of_other ∙ ap Some same in
    ap number_of (one_key old.extent other key cell of_cell of) ∙ is ∙ ap Some value)
    (λ (apart : k ≢ cell). kept other k n of_other (sym (get_or-set_other old.cells cell k (number + 1) 0 apart) ∙ at))
    (cases_eq k cell)

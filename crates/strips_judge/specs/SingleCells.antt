-- Cells for the numbers of atoms of one object.

use Rattle.std.specs.Prelude.{◌≡◌, ◌+◌, ◌*◌, ◌/◌, ◌%◌, ◌==◌, ◌&&◌, ℕ, Bool, List, Option, None, Some, if◌then◌else◌, nat_lt, slice_index}
use Rattle.strips_task.specs.declared.atom_keys.AtomKey.{AtomKey}

-- how far the cells go: how many objects each predicate has a place for, and how many cells there are at most
pub record Extent : Type 0 where
  pub objects : ℕ
  pub most : ℕ

-- how far they go, and the cells
pub record Cells : Type 0 where
  pub extent : Extent
  pub cells : List ℕ

-- the place of an atom of one object: each predicate has a place for each object
abbrev pub place_of : ℕ → AtomKey → ℕ
place_of objects key = key.head % 65536 * objects + key.objects

-- an atom has a cell if it has one object and its place is not past the last cell
abbrev pub has_cell : Extent → AtomKey → Bool
has_cell extent key = key.head / 65536 == 1 && (nat_lt key.objects extent.objects && nat_lt (place_of extent.objects key) extent.most)

-- the cell of an atom, if it has one
abbrev pub cell_of : Extent → AtomKey → Option ℕ
cell_of extent key = if has_cell extent key then Some (place_of extent.objects key) else None

-- in each cell is 0, or one more than the number of the atom whose cell it is
abbrev pub AreCells : (AtomKey → Option ℕ) → Cells → Type 0
AreCells number_of cells =
    (key : AtomKey) (cell number : ℕ) → cell_of cells.extent key ≡ Some cell → slice_index cells.cells cell ≡ number + 1 → number_of key ≡ Some number

-- Each atom that has a number is found: more atoms get numbers, and those before them stay.

use Rattle.std.proofs.Common.{◌≡◌, ◌<◌, ◌≤◌, ◌+◌, ◌*◌, ◌^◌, ℕ, Bool, true, false, List, [], ◌∷◌, ◌++◌, Option, Some, None, option_map, length, length-append, arith, refl, ap, sym, ◌∙◌, subst, append_assoc, slice_index_or}
use Rattle.formulas.specs.declared.atoms.Atom.{Atom}
use Rattle.formulas.specs.Atom.{atom_eq}
use Rattle.strips_task.proofs.AtomEquality.{atom_same}
use Rattle.strips_task.specs.declared.atom_keys.AtomKey.{AtomKey}
use Rattle.strips_task.specs.AtomKeys.{atom_of}
use Rattle.strips_task.specs.AtomNumbers.{number_in}
use Rattle.strips_task.proofs.Numbering.{index-none, number_in-first, number_in-later, number_in-lt, number_in-push_other}
use Rattle.strips_judge.specs.SingleCells.{Cells, AreCells}
use Rattle.strips_judge.specs.AtomsFound.{AreFound}
use Rattle.strips_judge.specs.NumberedState.{IsRowFor}
use Rattle.strips_judge.proofs.Growth.{row_for_pushed}

-- an atom that is not later has the number that it has among the first
pub only_first : (first later : List Atom) (atom : Atom) → number_in later atom ≡ None → number_in (first ++ later) atom ≡ number_in first atom
only_first first later atom none = by (number_in first atom) refl
  where
    by : (o : Option ℕ) → number_in first atom ≡ o → number_in (first ++ later) atom ≡ number_in first atom
    by (Some number) is = number_in-first first later atom number is ∙ sym is
    by None is = number_in-later first later atom is ∙ ap (option_map (λ n. length first + n)) none ∙ sym is

-- the number that a later atom has among all is below 2 ^ 64
pub later_fits : (first later : List Atom) (bits : List ℕ) (atom : Atom) (number : ℕ) → IsRowFor (first ++ later) bits → number_in later atom ≡ Some number
    → length first + number < 2 ^ 64
later_fits first later bits atom number row is = omega (arith, number_in-lt later atom number is, length-append first later, row.countable)

-- no atom is later
pub found_none : (first later : List Atom) (marks : List Bool) (cells : Cells) → later ≡ []
    → ((number_of : AtomKey → Option ℕ) → AreCells number_of cells) → AreFound first later marks cells
found_none first later marks cells empty right =
    record {
      apart = λ atom number at. none atom number (sym (ap (λ l. number_in l atom) empty) ∙ at);
      marked = λ atom number at. none atom number (sym (ap (λ l. number_in l atom) empty) ∙ at);
      right = right (λ key. number_in (first ++ later) (atom_of key));
    }
  where
    none : {A : Type 0} (atom : Atom) (number : ℕ) → number_in [] atom ≡ Some number → A
    none atom number at = cc

module _ (first later : List Atom) (marks : List Bool) (cells : Cells) (kept : AreFound first later marks cells) where
  -- an atom whose predicate has no mark is not later
  pub unmarked : (atom : Atom) → slice_index_or marks atom.pred false ≡ false → number_in later atom ≡ None
  unmarked atom unset = by (number_in later atom) refl
    where
      by : (o : Option ℕ) → number_in later atom ≡ o → number_in later atom ≡ None
      by None is = is
      by (Some number) is = let apart : true ≡ false = sym (kept.marked atom number is) ∙ unset in cc

  -- a later atom comes behind all of the first
  pub later_has : (atom : Atom) (number : ℕ) → number_in later atom ≡ Some number → number_in (first ++ later) atom ≡ Some (length first + number)
  later_has atom number is = number_in-later first later atom (kept.apart atom number is) ∙ ap (option_map (λ n. length first + n)) is

  -- more marks
  pub found_marked : (more : List Bool) → ((pred : ℕ) → slice_index_or marks pred false ≡ true → slice_index_or more pred false ≡ true)
      → AreFound first later more cells
  found_marked more still =
      record { apart = kept.apart; marked = λ atom number at. still atom.pred (kept.marked atom number at); right = kept.right }

  -- other cells
  pub found_cells : (new : Cells) → AreCells (λ key. number_in (first ++ later) (atom_of key)) new → AreFound first later marks new
  found_cells new right = record { apart = kept.apart; marked = kept.marked; right = right }

  -- one atom more, whose predicate has a mark
  pub found_pushed : (atom : Atom) → number_in (first ++ later) atom ≡ None → slice_index_or marks atom.pred false ≡ true
      → AreFound first (later ++ atom ∷ []) marks cells
  found_pushed atom none mark = record { apart = apart; marked = marked; right = right }
    where
      as_before : (other : Atom) → atom_eq atom other ≡ false → number_in (later ++ atom ∷ []) other ≡ number_in later other
      as_before other differs = number_in-push_other later atom atom other refl differs

      apart : (other : Atom) (number : ℕ) → number_in (later ++ atom ∷ []) other ≡ Some number → number_in first other ≡ None
      apart other number at = by (atom_eq atom other) refl
        where
          by : (b : Bool) → atom_eq atom other ≡ b → number_in first other ≡ None
          by true is = subst (λ (a : Atom). number_in first a ≡ None) (atom_same atom other is) (index-none (atom_eq atom) 0 first later none)
          by false is = kept.apart other number (sym (as_before other is) ∙ at)

      marked : (other : Atom) (number : ℕ) → number_in (later ++ atom ∷ []) other ≡ Some number → slice_index_or marks other.pred false ≡ true
      marked other number at = by (atom_eq atom other) refl
        where
          by : (b : Bool) → atom_eq atom other ≡ b → slice_index_or marks other.pred false ≡ true
          by true is = subst (λ (a : Atom). slice_index_or marks a.pred false ≡ true) (atom_same atom other is) mark
          by false is = kept.marked other number (sym (as_before other is) ∙ at)

      right : AreCells (λ key. number_in (first ++ (later ++ atom ∷ [])) (atom_of key)) cells
      right key cell number of at =
          ap (λ l. number_in l (atom_of key)) (sym (append_assoc first later (atom ∷ [])))
          ∙ number_in-first (first ++ later) (atom ∷ []) (atom_of key) number (kept.right key cell number of at)

module _ (first later new : List Atom) (marks more : List Bool) (cells : Cells) (bits : List ℕ) (row : IsRowFor (first ++ later) bits)
    (kept : AreFound first later marks cells) (still : (pred : ℕ) → slice_index_or marks pred false ≡ true → slice_index_or more pred false ≡ true) where
  -- the invariant still holds with more marks
  pub same_with_marks : new ≡ later → IsRowFor (first ++ new) bits × AreFound first new more cells
  same_with_marks same =
      subst (λ (l : List Atom). IsRowFor (first ++ l) bits × AreFound first l more cells) (sym same) (row, found_marked first later marks cells kept more still)

  -- and with more marks and an atom more, whose predicate has one of them
  pub one_with_marks : (atom : Atom) → number_in (first ++ later) atom ≡ None → slice_index_or more atom.pred false ≡ true
      → length (first ++ later) + 1 ≤ 64 * length bits → length (first ++ later) + 1 < 2 ^ 32 → new ≡ later ++ atom ∷ []
      → IsRowFor (first ++ new) bits × AreFound first new more cells
  one_with_marks atom none mark room small pushed =
      subst (λ (l : List Atom). IsRowFor (first ++ l) bits × AreFound first l more cells) (sym pushed) (
        row_for_pushed first later atom bits row room (omega arith),
        found_pushed first later more cells (found_marked first later marks cells kept more still) atom none mark,
      )

-- The numbering grows: atoms that have numbers keep them, and a new one comes behind all others.

use Rattle.std.proofs.Common.{◌≡◌, ◌≤◌, ◌<◌, ◌^◌, ◌*◌, ◌+◌, ltb, ℕ, List, [], ◌∷◌, ◌++◌, Some, None, refl, ap, sym, ◌∙◌, length, arith, append-nil, append_assoc, length-append}
use Rattle.std.proofs.lemmas.Bool.{le-ltb}
use Rattle.bit_rows.specs.Rows.{row_has}
use Rattle.formulas.specs.declared.atoms.Atom.{Atom}
use Rattle.strips_task.specs.AtomNumbers.{number_in}
use Rattle.strips_judge.specs.NumberedState.{Numbered, KeepsNumbers, Grows, IsRowFor}
use Rattle.strips_task.proofs.Numbering.{number_in-first, number_in-push_new}

pub keeps_same : (atoms new : List Atom) → new ≡ atoms → KeepsNumbers atoms new
keeps_same atoms new same atom number e = ap (λ l. number_in l atom) same ∙ e

pub keeps_more : (atoms more : List Atom) → KeepsNumbers atoms (atoms ++ more)
keeps_more atoms more atom number e = number_in-first atoms more atom number e

-- where no atom gets a number, nothing changes
pub grows_same : (old new : Numbered) → new.initial ≡ old.initial → new.atoms ≡ old.atoms → Grows old new
grows_same old new initial atoms = record { initial = initial; numbers = keeps_same old.atoms new.atoms atoms }

-- growth and growth again
pub grows_twice : (old mid new : Numbered) → Grows old mid → Grows mid new → Grows old new
grows_twice old mid new a b =
    record { initial = b.initial ∙ a.initial; numbers = λ atom number e. b.numbers atom number (a.numbers atom number e) }

-- the row of a state without later atoms
pub row_for_none : (first later : List Atom) (count : ℕ) (bits : List ℕ) → later ≡ [] → count ≡ length first → count < 2 ^ 64
    → ((k : ℕ) → row_has bits k ≡ ltb k count) → count ≤ 64 * length bits → IsRowFor (first ++ later) bits
row_for_none first later count bits empty is small of_bits room =
    let all : length (first ++ later) ≡ count = ap (λ l. length (first ++ l)) empty ∙ ap length (append-nil first) ∙ sym is in
    record {
      room = omega (arith, all, room);
      clear = λ k le. of_bits k ∙ le-ltb k count (omega (arith, all, le));
      countable = omega (arith, all, small);
    }

-- the row of a state with one atom more
pub row_for_pushed : (first later : List Atom) (atom : Atom) (bits : List ℕ) → IsRowFor (first ++ later) bits → length (first ++ later) + 1 ≤ 64 * length bits
    → length (first ++ later) + 1 < 2 ^ 64 → IsRowFor (first ++ (later ++ atom ∷ [])) bits
row_for_pushed first later atom bits kept room small =
    let one_more : length (first ++ (later ++ atom ∷ [])) ≡ length (first ++ later) + 1 =
    ap length (sym (append_assoc first later (atom ∷ []))) ∙ length-append (first ++ later) (atom ∷ [])
    in
    record {
      room = omega (arith, one_more, room);
      clear = λ k le. kept.clear k (omega (arith, le, one_more));
      countable = omega (arith, one_more, small);
    }

-- an atom more
pub grows_one : (old new : Numbered) (atom : Atom) → new.initial ≡ old.initial → new.atoms ≡ old.atoms ++ atom ∷ [] → Grows old new
grows_one old new atom initial atoms =
    record {
      initial = initial;
      numbers = λ other number e. ap (λ l. number_in l other) atoms ∙ keeps_more old.atoms (atom ∷ []) other number e;
    }

-- its number is the next one
pub number_of_one : (old new : Numbered) (atom : Atom) → number_in old.atoms atom ≡ None → new.atoms ≡ old.atoms ++ atom ∷ []
    → number_in new.atoms atom ≡ Some (length old.atoms)
number_of_one old new atom none atoms = ap (λ l. number_in l atom) atoms ∙ number_in-push_new old.atoms atom atom refl none

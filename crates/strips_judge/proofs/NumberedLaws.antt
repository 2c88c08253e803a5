-- The numbered state: one bit that changes is one atom that changes, and the initial bits are the initial atoms.

use Rattle.std.proofs.Common.{◌≡◌, ◌≢◌, ℕ, ◌≤◌, ◌++◌, ltb, Bool, true, false, not, ◌&&◌, ◌||◌, List, [], ◌∷◌, Option, Some, None, is_some, refl, ap, sym, ◌∙◌, true≢false, length, filter, arith}
use Rattle.std.proofs.Math.Path.{fun_ext}
use Rattle.std.proofs.lemmas.Bool.{lt-ltb, le-ltb}
use Rattle.std.proofs.lemmas.Map.Views.{any-filter_same}
use Rattle.std.specs.List.{list_any}
use Rattle.formulas.specs.declared.atoms.Atom.{Atom}
use Rattle.formulas.specs.Atom.{atom_eq}
use Rattle.strips_task.specs.FirstOccurrences.{first_occurrences}
use Rattle.strips_task.proofs.AtomEquality.{atom_equiv, atom_same}
use Rattle.strips_task.specs.AtomNumbers.{number_in}
use Rattle.strips_judge.specs.NumberedState.{IsRowFor, Numbered, bit_of, state_by, state_of}
use Rattle.bit_rows.specs.Rows.{row_has}
use Rattle.strips_judge.specs.State.{State, is_in, with_all, without}
use Rattle.strips_task.proofs.Numbering.{same_number, is_some-index, index-lt, index-stays, index-late}

-- the new state has this value at this atom, and at each other atom the old one's
pub record Changes (old new : State) (atom : Atom) (value : Bool) : Type 0 where
  pub at : new atom ≡ value
  pub others : (other : Atom) → atom_eq atom other ≡ false → new other ≡ old other

or_true : (b : Bool) → (b || true) ≡ true
or_true true = refl
or_true false = refl

or_false : (b : Bool) → (b || false) ≡ b
or_false true = refl
or_false false = refl

and_true : (b : Bool) → (b && true) ≡ b
and_true true = refl
and_true false = refl

and_false : (b : Bool) → (b && false) ≡ false
and_false true = refl
and_false false = refl

-- an atom more
pub with_one : (old new : State) (atom : Atom) → Changes old new atom true → new ≡ with_all old (atom ∷ [])
with_one old new atom h = fun_ext (λ other. by other (atom_eq atom other) refl)
  where
    by : (other : Atom) (b : Bool) → atom_eq atom other ≡ b → new other ≡ with_all old (atom ∷ []) other
    by other true e =
        ap new (sym (atom_same atom other e)) ∙ h.at ∙ sym (or_true (old other))
        ∙ ap (λ c. old other || (c || false)) (sym (atom_equiv.symm other atom ∙ e))
    by other false e =
        h.others other e ∙ sym (or_false (old other)) ∙ ap (λ c. old other || (c || false)) (sym (atom_equiv.symm other atom ∙ e))

-- an atom less
pub without_one : (old new : State) (atom : Atom) → Changes old new atom false → new ≡ without old (atom ∷ [])
without_one old new atom h = fun_ext (λ other. by other (atom_eq atom other) refl)
  where
    by : (other : Atom) (b : Bool) → atom_eq atom other ≡ b → new other ≡ without old (atom ∷ []) other
    by other true e =
        ap new (sym (atom_same atom other e)) ∙ h.at ∙ sym (and_false (old other))
        ∙ ap (λ c. old other && not (c || false)) (sym (atom_equiv.symm other atom ∙ e))
    by other false e =
        h.others other e ∙ sym (and_true (old other)) ∙ ap (λ c. old other && not (c || false)) (sym (atom_equiv.symm other atom ∙ e))

-- two atoms that differ have different numbers
apart_numbers : (atoms : List Atom) (a b : Atom) (m n : ℕ) → number_in atoms a ≡ Some m → number_in atoms b ≡ Some n → atom_eq a b ≡ false → n ≢ m
apart_numbers atoms a b m n e f apart same =
    true≢false (sym (atom_equiv.refl a) ∙ ap (atom_eq a) (same_number atoms a b m e (f ∙ ap Some same)) ∙ apart)

-- a bit that changes is the one atom with its number
pub bit_changes : (atoms : List Atom) (bits new_bits : List ℕ) (atom : Atom) (value : Bool) (n : ℕ) → number_in atoms atom ≡ Some n → row_has new_bits n ≡ value
    → ((k : ℕ) → k ≢ n → row_has new_bits k ≡ row_has bits k) → Changes (state_by atoms bits) (state_by atoms new_bits) atom value
bit_changes atoms bits new_bits atom value n e set others =
    record {
      at = ap (bit_of new_bits) e ∙ set;
      others = λ other apart. by other apart (number_in atoms other) refl;
    }
  where
    by : (other : Atom) → atom_eq atom other ≡ false → (o : Option ℕ) → number_in atoms other ≡ o → bit_of new_bits o ≡ bit_of bits o
    by other apart None f = refl
    by other apart (Some k) f = others k (apart_numbers atoms atom other n k e f apart)

-- an atom without a number is false already
pub no_change : (atoms : List Atom) (bits : List ℕ) (atom : Atom) → number_in atoms atom ≡ None → Changes (state_by atoms bits) (state_by atoms bits) atom false
no_change atoms bits atom none = record { at = ap (bit_of bits) none; others = λ other apart. refl }

-- an atom is among the first occurrences exactly where it is in the list
list_any-first_occurrences : (atom : Atom) (atoms : List Atom) → list_any (atom_eq atom) (first_occurrences atom_eq atoms) ≡ list_any (atom_eq atom) atoms
unfolding first_occurrences
list_any-first_occurrences atom [] = refl
list_any-first_occurrences atom (x ∷ xs) = by (atom_eq atom x) refl (list_any-first_occurrences atom xs)
  where
    by : (b : Bool) → atom_eq atom x ≡ b → list_any (atom_eq atom) (first_occurrences atom_eq xs) ≡ list_any (atom_eq atom) xs
        → (b || list_any (atom_eq atom) (filter (λ y. not (atom_eq x y)) (first_occurrences atom_eq xs))) ≡ (b || list_any (atom_eq atom) xs)
    by true e rest = refl
    by false e rest =
        any-filter_same (atom_eq atom) (λ y. not (atom_eq x y)) true
        (λ y same. ap not (ap (atom_eq x) (sym (atom_same atom y same)) ∙ atom_equiv.symm x atom ∙ e)) (first_occurrences atom_eq xs)
        ∙ rest

-- whether an atom is among those at the start
pub initial_has : (atom : Atom) (atoms : List Atom) → is_some (number_in (first_occurrences atom_eq atoms) atom) ≡ is_in atoms atom
initial_has atom atoms = is_some-index (atom_eq atom) 0 (first_occurrences atom_eq atoms) ∙ list_any-first_occurrences atom atoms

-- where the bits of the initial atoms are set and no others, the state is the initial one, whatever atoms have numbers behind theirs
pub initial_state : (atoms later : List Atom) (bits : List ℕ) → ((k : ℕ) → row_has bits k ≡ ltb k (length (first_occurrences atom_eq atoms)))
    → state_by (first_occurrences atom_eq atoms ++ later) bits ≡ is_in atoms
initial_state atoms later bits first = fun_ext (λ atom. by atom (number_in (first_occurrences atom_eq atoms) atom) refl)
  where
    among : (atom : Atom) (o : Option ℕ) → number_in (first_occurrences atom_eq atoms) atom ≡ o → is_some o ≡ is_in atoms atom
    among atom o e = ap is_some (sym e) ∙ initial_has atom atoms

    late : (atom : Atom) → number_in (first_occurrences atom_eq atoms) atom ≡ None → (o : Option ℕ) → number_in (first_occurrences atom_eq atoms ++ later) atom ≡ o → bit_of bits o ≡ false
    late atom none None f = refl
    late atom none (Some k) f =
        let past = index-late (atom_eq atom) 0 k (first_occurrences atom_eq atoms) later none f in
        first k ∙ le-ltb k (length (first_occurrences atom_eq atoms)) (omega (arith, past))

    by : (atom : Atom) (o : Option ℕ) → number_in (first_occurrences atom_eq atoms) atom ≡ o → state_by (first_occurrences atom_eq atoms ++ later) bits atom ≡ is_in atoms atom
    by atom None e = late atom e (number_in (first_occurrences atom_eq atoms ++ later) atom) refl ∙ among atom None e
    by atom (Some k) e =
        ap (bit_of bits) (index-stays (atom_eq atom) 0 k (first_occurrences atom_eq atoms) later e)
        ∙ first k ∙ lt-ltb k (length (first_occurrences atom_eq atoms)) (omega (arith, index-lt (atom_eq atom) 0 k (first_occurrences atom_eq atoms) e))
        ∙ among atom (Some k) e

-- an atom that gets a number is false, while no bit behind the others is set
pub state_by-push : (atoms : List Atom) (bits : List ℕ) (more : Atom) → ((k : ℕ) → length atoms ≤ k → row_has bits k ≡ false)
    → state_by (atoms ++ more ∷ []) bits ≡ state_by atoms bits
state_by-push atoms bits more clear = fun_ext (λ atom. by atom (number_in atoms atom) refl)
  where
    late : (atom : Atom) → number_in atoms atom ≡ None → (o : Option ℕ) → number_in (atoms ++ more ∷ []) atom ≡ o → bit_of bits o ≡ false
    late atom none None f = refl
    late atom none (Some k) f = clear k (omega (arith, index-late (atom_eq atom) 0 k atoms (more ∷ []) none f))

    by : (atom : Atom) (o : Option ℕ) → number_in atoms atom ≡ o → state_by (atoms ++ more ∷ []) bits atom ≡ bit_of bits o
    by atom None e = late atom e (number_in (atoms ++ more ∷ []) atom) refl
    by atom (Some k) e = ap (bit_of bits) (index-stays (atom_eq atom) 0 k atoms (more ∷ []) e)

-- rows with the same bits stand for one state
pub state_by-same : (atoms : List Atom) (new old : List ℕ) → ((k : ℕ) → row_has new k ≡ row_has old k) → state_by atoms new ≡ state_by atoms old
state_by-same atoms new old same = fun_ext (λ atom. by (number_in atoms atom))
  where
    by : (o : Option ℕ) → bit_of new o ≡ bit_of old o
    by None = refl
    by (Some k) = same k

-- an atom more, after room was made for its bit
pub state_of-one : (old new : Numbered) (reserved : List ℕ) (atom : Atom) → IsRowFor old.atoms old.bits → ((k : ℕ) → row_has reserved k ≡ row_has old.bits k)
    → new.bits ≡ reserved → new.atoms ≡ old.atoms ++ atom ∷ [] → state_of new ≡ state_of old
state_of-one old new reserved atom row same bits atoms =
    ap (state_by new.atoms) bits
    ∙ ap (λ l. state_by l reserved) atoms
    ∙ state_by-push old.atoms reserved atom (λ k le. same k ∙ row.clear k le)
    ∙ state_by-same old.atoms reserved old.bits same

-- One step of the walk over the parents.

use Rattle.std.proofs.Common.{◌≡◌, ◌≢◌, ℕ, ◌+◌, ◌*◌, ◌<◌, suc, Bool, true, false, ◌||◌, nat_eq, List, refl, ap, sym, ◌∙◌, arith, slice_index, true≢false}
use Rattle.std.proofs.lemmas.Bool.{eqb-true, eq-eqb}
use Rattle.bit_rows.specs.Rows.{row_has, ChangesBit}
use Rattle.strips_task.specs.Types.{is_within}

-- a walk of one step more looks at the first type, and then goes up
pub within_step : (parents : List ℕ) (n m sub sup : ℕ) → m ≡ n + 1 → is_within parents m sub sup ≡ (nat_eq sub sup || is_within parents n (slice_index parents sub) sup)
unfolding is_within
within_step parents n m sub sup e = ap (λ k. is_within parents k sub sup) (let z : m ≡ suc n = omega arith in z)

-- a walk of no step looks at the first type
pub within_none : (parents : List ℕ) (m sub sup : ℕ) → m ≡ 0 → is_within parents m sub sup ≡ nat_eq sub sup
unfolding is_within
within_none parents m sub sup e = ap (λ k. is_within parents k sub sup) e

or_true : (b : Bool) → (b || true) ≡ true
or_true true = refl
or_true false = refl

or_false : (b : Bool) → (b || false) ≡ b
or_false true = refl
or_false false = refl

-- a type marked in one row
pub marked : (old new : List ℕ) (number at sup : ℕ) → ChangesBit old new (at * 1088 + number) true
    → row_has new (sup * 1088 + number) ≡ (row_has old (sup * 1088 + number) || nat_eq at sup)
marked old new number at sup change = by (nat_eq at sup) refl
  where
    by : (b : Bool) → nat_eq at sup ≡ b → row_has new (sup * 1088 + number) ≡ (row_has old (sup * 1088 + number) || b)
    by true e =
        ap (λ j. row_has new (j * 1088 + number)) (sym (eqb-true at sup e)) ∙ change.at ∙ sym (or_true (row_has old (sup * 1088 + number)))
    by false e =
        let apart : at ≢ sup = λ same. true≢false (sym (eq-eqb at sup same) ∙ e) in
        change.others (sup * 1088 + number) (λ same. apart (let z : at ≡ sup = omega arith in z)) ∙ sym (or_false (row_has old (sup * 1088 + number)))

-- and the marks of the others stay
pub unmarked : (old new : List ℕ) (number at sub sup : ℕ) → ChangesBit old new (at * 1088 + number) true → number < 1088 → sub < 1088 → sub ≢ number
    → row_has new (sup * 1088 + sub) ≡ row_has old (sup * 1088 + sub)
unmarked old new number at sub sup change few few_more apart =
    change.others (sup * 1088 + sub) (λ same. apart (let z : sub ≡ number = omega arith in z))

or_assoc : (a b c : Bool) → ((a || b) || c) ≡ (a || (b || c))
or_assoc true b c = refl
or_assoc false b c = refl

-- where the first type isn't the one that is looked for, the walk goes on from its parent
pub walk_goes_on : (parents : List ℕ) (n m at next sup : ℕ) → m ≡ n + 1 → at ≢ sup → next ≡ slice_index parents at
    → is_within parents m at sup ≡ is_within parents n next sup
walk_goes_on parents n m at next sup e apart up =
    within_step parents n m at sup e
    ∙ ap (λ b. b || is_within parents n (slice_index parents at) sup) (let z : nat_eq at sup ≡ false = grind (arith, eqb-true at sup) in z)
    ∙ ap (λ k. is_within parents n k sup) (sym up)

-- and where it is, the walk has found it
pub walk_finds : (parents : List ℕ) (n m at sup : ℕ) → m ≡ n + 1 → at ≡ sup → is_within parents m at sup ≡ true
walk_finds parents n m at sup e same =
    within_step parents n m at sup e ∙ ap (λ b. b || is_within parents n (slice_index parents at) sup) (eq-eqb at sup same)

-- a mark and a step up leave what the row and the rest of the walk say together
pub mark_goes_on : (parents old new : List ℕ) (number n m at next sup : ℕ) → ChangesBit old new (at * 1088 + number) true → m ≡ n + 1 → next ≡ slice_index parents at
    → (row_has new (sup * 1088 + number) || is_within parents n next sup) ≡ (row_has old (sup * 1088 + number) || is_within parents m at sup)
mark_goes_on parents old new number n m at next sup change e up =
    ap (λ b. b || is_within parents n next sup) (marked old new number at sup change)
    ∙ or_assoc (row_has old (sup * 1088 + number)) (nat_eq at sup) (is_within parents n next sup)
    ∙ ap (λ t. row_has old (sup * 1088 + number) || (nat_eq at sup || is_within parents n t sup)) up
    ∙ ap (λ b. row_has old (sup * 1088 + number) || b) (sym (within_step parents n m at sup e))

-- and the last mark completes the row
pub mark_ends : (parents old new : List ℕ) (number m at sup : ℕ) → ChangesBit old new (at * 1088 + number) true → m ≡ 0
    → row_has new (sup * 1088 + number) ≡ (row_has old (sup * 1088 + number) || is_within parents m at sup)
mark_ends parents old new number m at sup change e =
    marked old new number at sup change ∙ ap (λ b. row_has old (sup * 1088 + number) || b) (sym (within_none parents m at sup e))

-- Rows of the table of types, joined.

use Rattle.std.proofs.Common.{◌≡◌, ℕ, ◌+◌, ◌*◌, ◌/◌, ◌%◌, ◌<◌, zero, suc, max, ◌≤◌, Bool, true, false, ◌||◌, ◌&&◌, nat_eq, nat_lt, List, [], ◌∷◌, length, refl, ap, sym, ◌∙◌, arith, slice_index}
use Rattle.std.specs.Int.{bit_at}
use Rattle.std.specs.Int.RustNames.{bit_or}
use Rattle.std.specs.List.{list_any}
use Rattle.std.proofs.lemmas.Nat.Bits.{bit_at_or, bit_at-lt}
use Rattle.std.proofs.lemmas.Bool.{ltb-true}
use Rattle.bit_rows.specs.Rows.{row_has}
use Rattle.strips_task.specs.Types.{is_below}
use Rattle.strips_task.specs.TypeTable.{IsTable}
use Rattle.strips_task.proofs.AtomEquality.{both_hold}

max_one : (a b : ℕ) → a < 2 → b < 2 → nat_eq (max a b) 1 ≡ (nat_eq a 1 || nat_eq b 1)
max_one zero zero _ _ = refl
max_one zero (suc zero) _ _ = refl
max_one (suc zero) zero _ _ = refl
max_one (suc zero) (suc zero) _ _ = refl
max_one (suc (suc a)) b h _ = absurd (omega arith)
max_one zero (suc (suc b)) _ h = absurd (omega arith)
max_one (suc zero) (suc (suc b)) _ h = absurd (omega arith)

-- a bit of two words joined
either_bit : (x y i : ℕ) → nat_eq (bit_at (bit_or x y) i) 1 ≡ (nat_eq (bit_at x i) 1 || nat_eq (bit_at y i) 1)
either_bit x y i = ap (λ b. nat_eq b 1) (bit_at_or x y i) ∙ max_one (bit_at x i) (bit_at y i) (bit_at-lt x i) (bit_at-lt y i)

-- a bit after a row was added
pub row_added : (old new table : List ℕ) (first k : ℕ) → slice_index new (k / 64) ≡ bit_or (slice_index old (k / 64)) (slice_index table (first + k / 64))
    → row_has new k ≡ (row_has old k || row_has table (first * 64 + k))
row_added old new table first k over =
    let index : first + k / 64 ≡ (first * 64 + k) / 64 = omega arith in
    let bit : k % 64 ≡ (first * 64 + k) % 64 = omega arith in
    ap (λ w. nat_eq (bit_at w (k % 64)) 1) over
    ∙ either_bit (slice_index old (k / 64)) (slice_index table (first + k / 64)) (k % 64)
    ∙ (λ j. row_has old k || nat_eq (bit_at (slice_index table (index j)) (bit j)) 1)

-- where an item passes one test, and so another too, some item passes the other
any_implies : {A : Type 0} (p q : A → Bool) → ((x : A) → p x ≡ true → q x ≡ true) → (xs : List A) → list_any p xs ≡ true → list_any q xs ≡ true
any_implies p q h [] e = e
any_implies p q h (x ∷ xs) e = by (p x) refl (any_implies p q h xs)
  where
    or_true : (b : Bool) → (b || true) ≡ true
    or_true true = refl
    or_true false = refl

    by : (b : Bool) → p x ≡ b → (list_any p xs ≡ true → list_any q xs ≡ true) → (q x || list_any q xs) ≡ true
    by true is rest = ap (λ c. c || list_any q xs) (h x is)
    by false is rest =
        ap (λ c. q x || c) (rest (sym (ap (λ c. c || list_any p xs) is) ∙ e)) ∙ or_true (q x)

-- the joined rows of some types tell of each type whether it is below one of them
pub joined_rows_tell : (parents table joined sups : List ℕ) (words : ℕ) → length parents ≤ 64 * words → IsTable parents table
    → ((k : ℕ) → k < 64 * words → row_has joined k ≡ list_any (λ sup. nat_lt sup (length parents) && row_has table (sup * 1088 + k)) sups)
    → (k : ℕ) → k < length parents → row_has joined k ≡ true → list_any (is_below parents k) sups ≡ true
unfolding is_below
joined_rows_tell parents table joined sups words all is_table over k known set =
    let within : k < 64 * words = omega arith in
    any_implies (λ sup. nat_lt sup (length parents) && row_has table (sup * 1088 + k)) (is_below parents k)
    (λ sup e.
    let both = both_hold (nat_lt sup (length parents)) (row_has table (sup * 1088 + k)) e in
    sym (is_table.marks k sup known (ltb-true sup (length parents) both.0)) ∙ both.1)
    sups (sym (over k within) ∙ set)

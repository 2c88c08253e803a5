-- Digits as the reader of numbers meets them.

use Rattle.std.proofs.Common.{◌≡◌, ℕ, suc, add-zero, ◌+◌, ◌-◌, ◌*◌, ◌^◌, ◌<◌, ◌≤◌, Bool, true, false, List, length, take, get_or, Option, Some, None, refl, ap, ◌∙◌, sym, arith}
use Rattle.std.specs.Prelude.{◌&&◌, nat_le, cond}
use Rattle.std.specs.List.{list_all, position}
use Rattle.std.proofs.Math.Nat.{mul-le-mul_right, one-le-pow, pow-le-pow_right}
use Rattle.std.proofs.lemmas.Nat.{pow-add}
use Rattle.std.specs.Char.{is_ascii_digit}
use Rattle.std.proofs.lemmas.List.{take_all}
use Rattle.std.proofs.lemmas.List.Folds.{list_all_at}
use Rattle.std.proofs.lemmas.Bool.{le-leb, lt-leb, and_from, and_left, and_right}
use Rattle.pddl_words.specs.Decimals.{digits_value}
use Rattle.pddl_words.specs.DecimalReading.{digits_of, is_point, of_parts, billionths_by, billionths_of}

by_test : (bytes : List ℕ) (t : Bool) → (nat_le 1 (length bytes) && (nat_le (length bytes) 9 && list_all is_ascii_digit bytes)) ≡ t → cond t (Some (digits_value bytes)) None ≡ digits_of bytes
unfolding digits_of
by_test bytes t is = ap (λ (u : Bool). cond u (Some (digits_value bytes)) None) (sym is)

pub no_digit : (bytes : List ℕ) → length bytes ≡ 0 → None ≡ digits_of bytes
no_digit bytes none = by_test bytes false (and_left (nat_le 1 (length bytes)) _ (lt-leb _ _ (omega arith)))

pub too_many_digits : (bytes : List ℕ) → 9 < length bytes → None ≡ digits_of bytes
too_many_digits bytes many = by_test bytes false (and_right (nat_le 1 (length bytes)) _ (and_left (nat_le (length bytes) 9) _ (lt-leb _ _ many)))

pub other_byte : (bytes : List ℕ) (k : ℕ) → k < length bytes → is_ascii_digit (get_or bytes k 0) ≡ false → None ≡ digits_of bytes
other_byte bytes k within other =
    by_test bytes false (and_right (nat_le 1 (length bytes)) _ (and_right (nat_le (length bytes) 9) _ (list_all_at is_ascii_digit bytes k 0 within other)))

pub all_digits : (bytes : List ℕ) → 0 < length bytes → length bytes ≤ 9 → list_all is_ascii_digit bytes ≡ true → Some (digits_value bytes) ≡ digits_of bytes
all_digits bytes some few each =
    by_test bytes true (and_from (nat_le 1 (length bytes)) _ (le-leb _ _ some) (and_from (nat_le (length bytes) 9) _ (le-leb _ _ few) each))

-- a walk over all bytes met digits alone
pub walked : (bytes : List ℕ) (k value : ℕ) → length bytes ≤ k → 0 < length bytes → length bytes ≤ 9 → list_all is_ascii_digit (take k bytes) ≡ true → value ≡ digits_value (take k bytes) → Some value ≡ digits_of bytes
walked bytes k value past some few each is =
    let whole : take k bytes ≡ bytes = take_all k bytes past in
    ap (λ (v : ℕ). Some v) (is ∙ ap digits_value whole) ∙ all_digits bytes some few (sym (ap (list_all is_ascii_digit) whole) ∙ each)

-- the number of some bytes, by where their first point stands
pub billionths_at : (bytes : List ℕ) (o : Option ℕ) → o ≡ position is_point bytes → billionths_by bytes o ≡ billionths_of bytes
unfolding billionths_of
billionths_at bytes o is = ap (billionths_by bytes) is

pub no_whole : (whole part : Option ℕ) (size : ℕ) → None ≡ whole → None ≡ of_parts whole part size
no_whole whole part size is = ap (λ (w : Option ℕ). of_parts w part size) is

pub no_part : (whole part : Option ℕ) (size : ℕ) → None ≡ part → None ≡ of_parts whole part size
no_part None part size is = refl
no_part (Some w) part size is = ap (λ (p : Option ℕ). of_parts (Some w) p size) is

pub two_parts : (whole part : Option ℕ) (size w p power : ℕ) → Some w ≡ whole → Some p ≡ part → power ≡ 10 ^ (9 - size) → Some (w * 10 ^ 9 + p * power) ≡ of_parts whole part size
two_parts whole part size w p power is is' powers =
    ap (λ (n : ℕ). Some (w * 10 ^ 9 + p * n)) powers ∙ ap (λ (y : Option ℕ). of_parts (Some w) y size) is' ∙ ap (λ (x : Option ℕ). of_parts x part size) is

pub one_part : (whole : Option ℕ) (w : ℕ) → Some w ≡ whole → Some (w * 10 ^ 9) ≡ of_parts whole (Some 0) 0
one_part whole w is = ap (λ (v : ℕ). Some v) (sym (add-zero (w * 10 ^ 9))) ∙ ap (λ (x : Option ℕ). of_parts x (Some 0) 0) is

-- the digits behind a point make less than one
part_small : (p size : ℕ) → p < 10 ^ size → size ≤ 9 → p * 10 ^ (9 - size) < 10 ^ 9
part_small p size small few =
    let all : size + (9 - size) ≡ 9 = omega arith in
    let whole : 10 ^ size * 10 ^ (9 - size) ≡ 10 ^ 9 = sym (pow-add 10 size (9 - size)) ∙ ap (λ (n : ℕ). 10 ^ n) all in
    let more : suc p * 10 ^ (9 - size) ≤ 10 ^ size * 10 ^ (9 - size) = mul-le-mul_right (10 ^ (9 - size)) small in
    let some : 1 ≤ 10 ^ (9 - size) = one-le-pow (9 - size) 10 (omega arith) in
    omega (arith, whole, more, some)

-- nine digits at most before the point
whole_small : (w size : ℕ) → w < 10 ^ size → size ≤ 9 → w < 10 ^ 9
whole_small w size small few =
    let more : 10 ^ size ≤ 10 ^ 9 = pow-le-pow_right (omega arith) few in
    omega (arith, more)

-- the whole and what is behind the point
pub sum_small : (w p size size' power : ℕ) → w < 10 ^ size' → size' ≤ 9 → p < 10 ^ size → size ≤ 9 → power ≡ 10 ^ (9 - size) → w * 10 ^ 9 + p * power < 10 ^ 18
sum_small w p size size' power whole few part few' powers =
    let behind : p * power < 10 ^ 9 = rw powers (part_small p size part few') in
    omega (arith, whole_small w size' whole few, behind)

-- The digits of a fraction, one by one.

use Rattle.std.proofs.Common.{◌≡◌, ◌≢◌, ℕ, zero, suc, ◌+◌, ◌-◌, ◌*◌, ◌^◌, ◌/◌, ◌%◌, ◌<◌, Bool, List, [], ◌∷◌, ◌⊎◌, inl, inr, refl, ap, sym, ◌∙◌, arith, mod-lt, mod-eq_of_lt, if◌then◌else◌}
use Rattle.std.proofs.Math.Nat.{add-mul-div_right, add-mul-mod_self_right, div-eq_of_lt, div-add-mod, div-lt_iff_lt-mul, mod-add-div', mul_assoc, mul_comm, one-le-pow, pow-suc}
use Rattle.std.proofs.lemmas.Bool.{ne_eqb}
use Rattle.report_text.specs.CostText.{last_digits, unless_end_zero, without_end_zeros}

-- a power of ten is not 0
pub power : (indexes : ℕ) → 0 < 10 ^ indexes
power indexes = one-le-pow indexes 10 (omega arith)

-- what is in front of them does not change the last digits
same_digits : (indexes rest more : ℕ) → last_digits indexes (rest + more * 10 ^ indexes) ≡ last_digits indexes rest
unfolding last_digits
same_digits zero rest more = refl
same_digits (suc indexes) rest more =
    let turned : more * 10 ^ suc indexes ≡ (more * 10) * 10 ^ indexes = ap (λ n. more * n) (pow-suc 10 indexes ∙ mul_comm (10 ^ indexes) 10) ∙ sym (mul_assoc more 10 (10 ^ indexes)) in
    let digit : (rest + (more * 10) * 10 ^ indexes) / 10 ^ indexes % 10 ≡ rest / 10 ^ indexes % 10 =
    ap (λ n. n % 10) (add-mul-div_right rest (more * 10) (power indexes)) ∙ add-mul-mod_self_right (rest / 10 ^ indexes) more 10 in
    ap (λ n. (48 + (rest + n) / 10 ^ indexes % 10) ∷ last_digits indexes (rest + n)) turned
    ∙ (λ i. (48 + digit i) ∷ same_digits indexes rest (more * 10) i)

-- the digits of a number are its first and those of what is left
by_remainder : (indexes number : ℕ) → number < 10 ^ suc indexes → last_digits (suc indexes) number ≡ (48 + number / 10 ^ indexes) ∷ last_digits indexes (number % 10 ^ indexes)
unfolding last_digits
by_remainder indexes number within =
    let unit = 10 ^ indexes in
    let few : number / unit < 10 = (div-lt_iff_lt-mul (power indexes)).1 (omega (arith, within, pow-suc 10 indexes)) in
    (λ i. (48 + mod-eq_of_lt few i) ∷ last_digits indexes (sym (mod-add-div' number unit) i))
    ∙ ap (λ l. (48 + number / unit) ∷ l) (same_digits indexes (number % unit) (number / unit))

-- nothing is left of zeros
pub zeros_end : (indexes : ℕ) → without_end_zeros (last_digits indexes 0) ≡ []
unfolding last_digits without_end_zeros
zeros_end zero = refl
zeros_end (suc indexes) =
    ap without_end_zeros (by_remainder indexes 0 (power (suc indexes)))
    ∙ (λ i. unless_end_zero (48 + div-eq_of_lt {n = 0} (power indexes) i) (without_end_zeros (last_digits indexes (mod-eq_of_lt (power indexes) i))))
    ∙ ap (unless_end_zero 48) (zeros_end indexes)

-- a digit before others stays, and so does one that is not zero
stays : (digit : ℕ) (digits : List ℕ) → digits ≢ [] → unless_end_zero digit digits ≡ digit ∷ digits
stays digit [] some = absurd (some refl)
stays digit (next ∷ digits) some = refl

counts : (digit : ℕ) (digits : List ℕ) → 0 < digit → unless_end_zero (48 + digit) digits ≡ (48 + digit) ∷ digits
counts digit [] more = ap (λ (b : Bool). if b then [] else (48 + digit) ∷ []) (ne_eqb (48 + digit) 48 (λ e. omega arith))
counts digit (next ∷ digits) more = refl

no_cons : {digit : ℕ} {digits : List ℕ} → digit ∷ digits ≢ []
no_cons e = cc

zero_or_more : (n : ℕ) → (n ≡ 0) ⊎ (0 < n)
zero_or_more zero = inl refl
zero_or_more (suc n) = inr (omega arith)

-- what is left of a number whose first digit is 0 is that number
left_over : (unit number : ℕ) → number / unit ≡ 0 → number % unit ≡ number
left_over unit number none =
    let whole : unit * 0 + number % unit ≡ number = ap (λ q. unit * q + number % unit) (sym none) ∙ div-add-mod number unit in
    omega (arith, whole)

-- the first digit stays, if digits stay of what is left unless that is 0
first_stays : (indexes number : ℕ) → 0 < number → number < 10 ^ suc indexes
    → (0 < number % 10 ^ indexes → without_end_zeros (last_digits indexes (number % 10 ^ indexes)) ≢ [])
    → without_end_zeros (last_digits (suc indexes) number) ≡ (48 + number / 10 ^ indexes) ∷ without_end_zeros (last_digits indexes (number % 10 ^ indexes))
unfolding without_end_zeros
first_stays indexes number more within others = ap without_end_zeros (by_remainder indexes number within) ∙ by (zero_or_more (number / 10 ^ indexes))
  where
    digits : List ℕ
    digits = without_end_zeros (last_digits indexes (number % 10 ^ indexes))

    by : (number / 10 ^ indexes ≡ 0) ⊎ (0 < number / 10 ^ indexes) → unless_end_zero (48 + number / 10 ^ indexes) digits ≡ (48 + number / 10 ^ indexes) ∷ digits
    by (inl none) =
        let left = left_over (10 ^ indexes) number none in
        stays (48 + number / 10 ^ indexes) digits (others (omega (arith, left, more)))
    by (inr some) = counts (number / 10 ^ indexes) digits some

-- a number that is not 0 has digits that stay
some_digit : (indexes number : ℕ) → 0 < number → number < 10 ^ indexes → without_end_zeros (last_digits indexes number) ≢ []
some_digit zero number more within e = absurd (omega (arith, more, within))
some_digit (suc indexes) number more within e =
    let others = λ (left : 0 < number % 10 ^ indexes). some_digit indexes (number % 10 ^ indexes) left (mod-lt number (power indexes)) in
    no_cons (sym (first_stays indexes number more within others) ∙ e)

-- the first digit of a number that is not 0 stays
pub first_digit : (indexes number : ℕ) → 0 < number → number < 10 ^ indexes → without_end_zeros (last_digits indexes number)
    ≡ (48 + number / 10 ^ (indexes - 1)) ∷ without_end_zeros (last_digits (indexes - 1) (number % 10 ^ (indexes - 1)))
first_digit zero number more within = absurd (omega (arith, more, within))
first_digit (suc indexes) number more within =
    let before : suc indexes - 1 ≡ indexes = omega arith in
    let others = λ (left : 0 < number % 10 ^ indexes). some_digit indexes (number % 10 ^ indexes) left (mod-lt number (power indexes)) in
    rw before (first_stays indexes number more within others)

-- and is one digit
pub one_digit : (indexes number : ℕ) → 0 < number → number < 10 ^ indexes → number / 10 ^ (indexes - 1) < 10
one_digit zero number more within = absurd (omega (arith, more, within))
one_digit (suc indexes) number more within =
    let before : suc indexes - 1 ≡ indexes = omega arith in
    rw before ((div-lt_iff_lt-mul (power indexes)).1 (omega (arith, within, pow-suc 10 indexes)))

-- Bytes are read as a number exactly where they are one.

use Rattle.std.proofs.Common.{◌≡◌, ℕ, ◌+◌, ◌-◌, ◌*◌, ◌^◌, ◌<◌, ◌≤◌, Bool, true, false, List, [], ◌∷◌, ◌++◌, length, take, drop, Option, Some, None, refl, ap, ◌∙◌, sym, arith, length-append, add-zero}
use Rattle.std.specs.Prelude.{◌==◌, ◌&&◌, nat_le, nat_lt, not, cond, All}
use Rattle.std.specs.List.{list_all, position, position_or_len}
use Rattle.std.specs.Char.{is_ascii_digit}
use Rattle.std.proofs.Math.Seq.{take-append_seam, drop-append-add}
use Rattle.std.proofs.lemmas.List.{append-nil}
use Rattle.std.proofs.lemmas.List.Elements.{All-nil, All-head, All-tail, All-cons}
use Rattle.std.proofs.lemmas.List.Sums.{passes_at_first, split_at_first}
use Rattle.std.proofs.lemmas.Bool.{eqb-true, ne_eqb, leb-true, lt-ltb, le-ltb, ltb-true, and_parts, and_from}
use Rattle.pddl_words.specs.Decimals.{Decimal, IsDecimal, IsDigit, behind_whole, decimal_bytes, digits_value, billionths}
use Rattle.pddl_words.specs.DecimalReading.{digits_of, is_point, of_parts, billionths_by, billionths_of}
use Rattle.pddl_words.proofs.DigitRuns.{all_digits, billionths_at, two_parts, one_part}

-- digits

digit_range : (b : ℕ) → is_ascii_digit b ≡ true → (48 ≤ b) × (b ≤ 57)
digit_range b is =
    let parts = and_parts (nat_le 48 b) (nat_le b 57) is in (leb-true _ _ parts.0, leb-true _ _ parts.1)

no_point : (b : ℕ) → is_ascii_digit b ≡ true → is_point b ≡ false
no_point b is = let range = digit_range b is in ne_eqb b 46 (λ e. omega arith)

pub no_bracket : (b : ℕ) → is_ascii_digit b ≡ true → (b == 91) ≡ false
no_bracket b is = let range = digit_range b is in ne_eqb b 91 (λ e. omega arith)

tests_of : (ds : List ℕ) → All IsDigit ds → list_all is_ascii_digit ds ≡ true
tests_of [] are = refl
tests_of (b ∷ ds) are = and_from (is_ascii_digit b) (list_all is_ascii_digit ds) (All-head IsDigit b ds are) (tests_of ds (All-tail IsDigit b ds are))

are_digits : (ds : List ℕ) → list_all is_ascii_digit ds ≡ true → All IsDigit ds
are_digits [] is = All-nil IsDigit
are_digits (b ∷ ds) is = let parts = and_parts (is_ascii_digit b) (list_all is_ascii_digit ds) is in All-cons IsDigit b ds parts.0 (are_digits ds parts.1)

-- what was read as digits
record IsDigitsOf (ds : List ℕ) (value : ℕ) : Type 0 where
  digits : All IsDigit ds
  some : 0 < length ds
  few : length ds ≤ 9
  is : value ≡ digits_value ds

chosen : (t : Bool) (x value : ℕ) → cond t (Some x) None ≡ Some value → (t ≡ true) × (value ≡ x)
chosen true x value is = let same : Some x ≡ Some value = is in (refl, cc)
chosen false x value is = absurd cc

digits_found : (ds : List ℕ) (value : ℕ) → digits_of ds ≡ Some value → IsDigitsOf ds value
unfolding digits_of
digits_found ds value is =
    let (test, same) = chosen _ (digits_value ds) value is in
    let some = and_parts (nat_le 1 (length ds)) (nat_le (length ds) 9 && list_all is_ascii_digit ds) test in
    let few = and_parts (nat_le (length ds) 9) (list_all is_ascii_digit ds) some.1 in
    record { digits = are_digits ds few.1; some = leb-true _ _ some.0; few = leb-true _ _ few.0; is = same }

-- the first point

point_behind : (ds rest : List ℕ) → All IsDigit ds → position_or_len is_point (ds ++ 46 ∷ rest) ≡ length ds
point_behind [] rest are = refl
point_behind (b ∷ ds) rest are =
    ap (λ (t : Bool). cond (not t) (1 + position_or_len is_point (ds ++ 46 ∷ rest)) 0) (no_point b (All-head IsDigit b ds are))
    ∙ omega (arith, point_behind ds rest (All-tail IsDigit b ds are))

point_nowhere : (ds : List ℕ) → All IsDigit ds → position_or_len is_point ds ≡ length ds
point_nowhere [] are = refl
point_nowhere (b ∷ ds) are =
    ap (λ (t : Bool). cond (not t) (1 + position_or_len is_point ds) 0) (no_point b (All-head IsDigit b ds are))
    ∙ omega (arith, point_nowhere ds (All-tail IsDigit b ds are))

found_at : (bytes : List ℕ) (k : ℕ) → position_or_len is_point bytes ≡ k → k < length bytes → Some k ≡ position is_point bytes
found_at bytes k is within =
    ap (λ (n : ℕ). Some n) (sym is) ∙ ap (λ (t : Bool). cond t (Some (position_or_len is_point bytes)) None) (sym (lt-ltb (position_or_len is_point bytes) (length bytes) (omega arith)))

found_nowhere : (bytes : List ℕ) → position_or_len is_point bytes ≡ length bytes → None ≡ position is_point bytes
found_nowhere bytes is =
    ap (λ (t : Bool). cond t (Some (position_or_len is_point bytes)) None) (sym (le-ltb (position_or_len is_point bytes) (length bytes) (omega arith)))

-- a number is read as its value

read_parts : (whole : List ℕ) (d : ℕ) (digits : List ℕ) → IsDecimal (record { whole = whole; fraction = d ∷ digits }) → billionths_by (whole ++ 46 ∷ d ∷ digits) (Some (length whole)) ≡ Some (billionths (record { whole = whole; fraction = d ∷ digits }))
read_parts whole d digits is =
    let front : take (length whole) (whole ++ 46 ∷ d ∷ digits) ≡ whole = take-append_seam whole (46 ∷ d ∷ digits) in
    let rest : drop (length whole + 1) (whole ++ 46 ∷ d ∷ digits) ≡ d ∷ digits = drop-append-add whole (46 ∷ d ∷ digits) 1 in
    ap (λ (w : List ℕ). of_parts (digits_of w) (digits_of (drop (length whole + 1) (whole ++ 46 ∷ d ∷ digits))) (length (drop (length whole + 1) (whole ++ 46 ∷ d ∷ digits)))) front
    ∙ ap (λ (r : List ℕ). of_parts (digits_of whole) (digits_of r) (length r)) rest
    ∙ sym (
    two_parts (digits_of whole) (digits_of (d ∷ digits)) (length (d ∷ digits)) (digits_value whole) (digits_value (d ∷ digits)) (10 ^ (9 - length (d ∷ digits)))
    (all_digits whole is.some is.few (tests_of whole is.whole)) (all_digits (d ∷ digits) (omega arith) is.few_behind (tests_of (d ∷ digits) is.fraction)) refl
    )

pub read_bytes : (whole fraction : List ℕ) → IsDecimal (record { whole = whole; fraction = fraction }) → billionths_of (whole ++ behind_whole fraction) ≡ Some (billionths (record { whole = whole; fraction = fraction }))
read_bytes whole [] is =
    ap billionths_of (append-nil whole) ∙ sym (billionths_at whole None (found_nowhere whole (point_nowhere whole is.whole)))
    ∙ sym (one_part (digits_of whole) (digits_value whole) (all_digits whole is.some is.few (tests_of whole is.whole)))
    ∙ ap (λ (v : ℕ). Some v) (sym (add-zero (digits_value whole * 10 ^ 9)))
read_bytes whole (d ∷ digits) is =
    let bytes = whole ++ 46 ∷ d ∷ digits in
    let at : Some (length whole) ≡ position is_point bytes =
    found_at bytes (length whole) (point_behind whole (d ∷ digits) is.whole) (omega (arith, length-append whole (46 ∷ d ∷ digits))) in
    sym (billionths_at bytes (Some (length whole)) at) ∙ read_parts whole d digits is

-- what is read as a number is one

pub record IsNumberBytes (bytes : List ℕ) (value : ℕ) : Type 0 where
  pub number : Decimal
  pub is : IsDecimal number
  pub spelled : bytes ≡ decimal_bytes number
  pub valued : value ≡ billionths number

whole_found : (bytes : List ℕ) (value : ℕ) (o : Option ℕ) → digits_of bytes ≡ o → of_parts o (Some 0) 0 ≡ Some value → IsNumberBytes bytes value
whole_found bytes value None is read = absurd cc
whole_found bytes value (Some w) is read =
    let found = digits_found bytes w is in
    let same : w * 10 ^ 9 + 0 ≡ value = cc in
    record {
      number = record { whole = bytes; fraction = [] };
      is = record { whole = found.digits; some = found.some; few = found.few; fraction = All-nil IsDigit; few_behind = omega arith };
      spelled = sym (append-nil bytes);
      valued = sym same ∙ ap (λ (v : ℕ). v * 10 ^ 9 + 0) found.is;
    }

parts_found : (bytes whole fraction : List ℕ) (value : ℕ) (o p : Option ℕ) → bytes ≡ whole ++ 46 ∷ fraction → digits_of whole ≡ o → digits_of fraction ≡ p → of_parts o p (length fraction) ≡ Some value → IsNumberBytes bytes value
parts_found bytes whole fraction value None p split is is' read = absurd cc
parts_found bytes whole fraction value (Some w) None split is is' read = absurd cc
parts_found bytes whole [] value (Some w) (Some p) split is is' read = absurd (omega (arith, (digits_found [] p is').some))
parts_found bytes whole (d ∷ digits) value (Some w) (Some p) split is is' read =
    let front = digits_found whole w is in
    let back = digits_found (d ∷ digits) p is' in
    let same : w * 10 ^ 9 + p * 10 ^ (9 - length (d ∷ digits)) ≡ value = cc in
    record {
      number = record { whole = whole; fraction = d ∷ digits };
      is = record { whole = front.digits; some = front.some; few = front.few; fraction = back.digits; few_behind = back.few };
      spelled = split;
      valued = sym same ∙ ap (λ (v : ℕ). v * 10 ^ 9 + p * 10 ^ (9 - length (d ∷ digits))) front.is ∙ ap (λ (v : ℕ). digits_value whole * 10 ^ 9 + v * 10 ^ (9 - length (d ∷ digits))) back.is;
    }

split_at_point : (bytes : List ℕ) → position_or_len is_point bytes < length bytes → bytes ≡ take (position_or_len is_point bytes) bytes ++ 46 ∷ drop (position_or_len is_point bytes + 1) bytes
split_at_point bytes within =
    split_at_first is_point bytes 0 within
    ∙ ap (λ (b : ℕ). take (position_or_len is_point bytes) bytes ++ b ∷ drop (position_or_len is_point bytes + 1) bytes) (eqb-true _ 46 (passes_at_first is_point bytes 0 within))

bytes_found_by : (bytes : List ℕ) (value : ℕ) (t : Bool) → nat_lt (position_or_len is_point bytes) (length bytes) ≡ t → billionths_by bytes (cond t (Some (position_or_len is_point bytes)) None) ≡ Some value → IsNumberBytes bytes value
bytes_found_by bytes value true is read = parts_found bytes _ _ value _ _ (split_at_point bytes (ltb-true _ _ is)) refl refl read
bytes_found_by bytes value false is read = whole_found bytes value (digits_of bytes) refl read

pub bytes_found : (bytes : List ℕ) (value : ℕ) → billionths_of bytes ≡ Some value → IsNumberBytes bytes value
unfolding billionths_of
bytes_found bytes value read = bytes_found_by bytes value _ refl read

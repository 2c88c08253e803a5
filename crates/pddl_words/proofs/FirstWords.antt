-- The first word of a row.

use Rattle.std.proofs.Common.{◌≡◌, ◌≢◌, ℕ, zero, suc, ◌+◌, ◌-◌, ◌<◌, ◌≤◌, Bool, true, false, eqb, cond, List, [], ◌∷◌, map, take, drop, length, refl, ap, ◌∙◌, arith, tests}
use Rattle.std.specs.Prelude.{not, if◌then◌else◌}
use Rattle.std.specs.List.{onto_first, prefix_len}
use Rattle.std.specs.Simd.Lanes.{mask_l}
use Rattle.std.proofs.lemmas.List.{length-take, length-drop, take_all}
use Rattle.std.proofs.lemmas.Simd.{first_set_mask_l}
use Rattle.pddl_words.specs.SpacedWords.{is_space, is_in_word, words_of}
use lib.Count.{count_trailing_zeros}

front_by : (t : Bool) (a b : ℕ) → a ≤ b → (if t then 1 + a else 0) ≤ (if t then 1 + b else 0)
front_by true a b le = omega arith
front_by false a b le = omega arith

-- what runs at the front of a list runs at the front of its first items
run_of_front : (p : ℕ → Bool) (xs : List ℕ) (n : ℕ) → prefix_len p (take n xs) ≤ prefix_len p xs
run_of_front p xs zero = omega arith
run_of_front p [] (suc n) = omega arith
run_of_front p (x ∷ xs) (suc n) = front_by (p x) (prefix_len p (take n xs)) (prefix_len p xs) (run_of_front p xs n)

goes_by : (t : Bool) (run n behind : ℕ) → (n ≤ run → run ≡ n + behind) → suc n ≤ (if t then 1 + run else 0) → (if t then 1 + run else 0) ≡ suc n + behind
goes_by true run n behind more le = omega (arith, more (omega arith))
goes_by false run n behind more le = absurd (omega arith)

within_by : (t : Bool) (a b : ℕ) → a ≤ b → (if t then 1 + a else 0) ≤ suc b
within_by true a b le = omega arith
within_by false a b le = omega arith

run_within : (p : ℕ → Bool) (xs : List ℕ) → prefix_len p xs ≤ length xs
run_within p [] = omega arith
run_within p (x ∷ xs) = within_by (p x) (prefix_len p xs) (length xs) (run_within p xs)

-- a run goes on behind its first items
pub run_goes_on : (p : ℕ → Bool) (xs : List ℕ) (n : ℕ) → n ≤ prefix_len p xs → prefix_len p xs ≡ n + prefix_len p (drop n xs)
run_goes_on p xs zero le = omega arith
run_goes_on p [] (suc n) le = absurd (omega arith)
run_goes_on p (x ∷ xs) (suc n) le = goes_by (p x) (prefix_len p xs) n (prefix_len p (drop n xs)) (run_goes_on p xs n) le

first_space_by : (front mask n run : ℕ) → cond (eqb mask 0) n front ≡ run → mask ≢ 0 → front ≡ run
first_space_by front mask n run is some = grind (arith, tests, is, some)

-- `&row[at..]` as a list
pub rest_whole : (row : List ℕ) (at : ℕ) → take (length row - at) (drop at row) ≡ drop at row
rest_whole row at = take_all (length row - at) (drop at row) (omega (arith, length-drop at row))

-- the lowest bit of the mask of the spaces among the first bytes
pub first_space : (row : List ℕ) (n mask : ℕ) → n ≤ length row → n ≤ 64 → mask ≡ mask_l (map is_space (take n row)) → mask ≢ 0 → count_trailing_zeros 64 mask ≡ prefix_len is_in_word (take n row)
first_space row n mask room few is some =
    first_space_by (count_trailing_zeros 64 mask) mask n (prefix_len is_in_word (take n row))
    (ap (λ (m : ℕ). cond (eqb m 0) n (count_trailing_zeros 64 m)) is ∙ first_set_mask_l is_space (take n row) n (omega (arith, length-take n row)) few) some

pub front_run : (row : List ℕ) (n mask : ℕ) → n ≤ length row → n ≤ 64 → mask ≡ mask_l (map is_space (take n row)) → mask ≢ 0 → (count_trailing_zeros 64 mask ≤ prefix_len is_in_word row) × (count_trailing_zeros 64 mask ≤ n)
front_run row n mask room few is some =
    let run : count_trailing_zeros 64 mask ≡ prefix_len is_in_word (take n row) = first_space row n mask room few is some in (
      omega (arith, run, run_of_front is_in_word row n),
      omega (arith, run, run_within is_in_word (take n row), length-take n row),
    )

more_by : (b : ℕ) (bytes : List ℕ) (space : Bool) → (prefix_len is_in_word bytes < length bytes → words_of bytes ≡ take (prefix_len is_in_word bytes) bytes ∷ words_of (drop (prefix_len is_in_word bytes + 1) bytes))
    → (if not space then 1 + prefix_len is_in_word bytes else 0) < length (b ∷ bytes)
    → (if space then [] ∷ words_of bytes else onto_first b (words_of bytes)) ≡ take (if not space then 1 + prefix_len is_in_word bytes else 0) (b ∷ bytes) ∷ words_of (drop ((if not space then 1 + prefix_len is_in_word bytes else 0) + 1) (b ∷ bytes))
more_by b bytes true more lt = refl
more_by b bytes false more lt =
    let len : 1 + prefix_len is_in_word bytes ≡ suc (prefix_len is_in_word bytes) = omega arith in
    let behind : suc (prefix_len is_in_word bytes) + 1 ≡ suc (prefix_len is_in_word bytes + 1) = omega arith in
    rw (len, behind, more (omega arith)) refl

-- a row with a space has the word before its first space, and then those behind it
pub more_words : (row : List ℕ) → prefix_len is_in_word row < length row → words_of row ≡ take (prefix_len is_in_word row) row ∷ words_of (drop (prefix_len is_in_word row + 1) row)
more_words [] lt = absurd (omega arith)
more_words (b ∷ bytes) lt = more_by b bytes (is_space b) (more_words bytes) lt

last_by : (b : ℕ) (bytes : List ℕ) (space : Bool) → (prefix_len is_in_word bytes ≡ length bytes → words_of bytes ≡ bytes ∷ [])
    → (if not space then 1 + prefix_len is_in_word bytes else 0) ≡ length (b ∷ bytes)
    → (if space then [] ∷ words_of bytes else onto_first b (words_of bytes)) ≡ (b ∷ bytes) ∷ []
last_by b bytes true last is = absurd (omega (arith, is))
last_by b bytes false last is = rw (last (omega (arith, is))) refl

-- a row without a space is one word
pub last_word : (row : List ℕ) → prefix_len is_in_word row ≡ length row → words_of row ≡ row ∷ []
last_word [] is = refl
last_word (b ∷ bytes) is = last_by b bytes (is_space b) (last_word bytes) is

-- The vector test of rows of names, lane by lane.

use Rattle.std.proofs.Common.{◌≡◌, ◌≢◌, ℕ, ◌+◌, ◌%◌, ◌^◌, ◌<◌, ◌⊎◌, ⊎_elim, eqb, Bool, true, false, List, [], ◌∷◌, map, length, get_or, replicate, bit_and, bit_or, refl, sym, ap, ap₂, ◌∙◌, subst, arith, w8, w64, Fits}
use Rattle.std.specs.Prelude.{◌&&◌, ◌||◌, not}
use Rattle.std.specs.Char.{is_ascii_alphabetic}
use Rattle.std.specs.Int.{trailing_zeros}
use Rattle.std.specs.List.{prefix_len}
use Rattle.std.specs.Simd.Lanes.{Each1, chunk, mask_l, top, zip2}
use Rattle.std.proofs.lemmas.Bool.{agree_below_at, cases_eq, not-false, not-true}
use Rattle.std.proofs.lemmas.List.{map-id}
use Rattle.std.proofs.lemmas.List.Sums.{prefix_len_passes, prefix_len_stops}
use Rattle.std.proofs.lemmas.Simd.{mask_l-mod, length-zip2, get_or-zip2, length-chunk, get_or-chunk, leading_from_mask_l, trailing_mask_l}
use Rattle.pddl_words.specs.Pairs.{GoesOnTo, begins_name, goes_on, stops}
use Rattle.pddl_words.specs.SpacedWords.{is_space}
use Rattle.pddl_words.specs.Words.{is_name_byte}
use Rattle.pddl_words.proofs.ByteLanes.{flag, equal, below, less, other}
use lib.Count.{count_trailing_zeros}

-- the lane of a byte and of whether a name begins at it
abbrev lane : ℕ → ℕ → ℕ
lane begins b =
    other (bit_or (below (less (bit_or b 32) 97) 26) (bit_and (bit_or (bit_or (below (less b 48) 10) (bit_or (equal b 45) (equal b 95))) (equal b 32)) (other begins)))

-- a byte goes on as names behind a byte where a name begins, or where none does
abbrev goes : Bool → ℕ → Bool
goes begins b = is_ascii_alphabetic b || ((is_name_byte b || is_space b) && not begins)

lane_by : (space left : Bool) (b : ℕ) → b < 256 → top 7 (lane (bit_or (flag space) (flag left)) b) ≡ not (goes (space || left) b)
lane_by true true b lt = agree_below_at (λ x. top 7 (lane 255 x)) (λ x. not (goes true x)) 256 b refl lt
lane_by true false b lt = agree_below_at (λ x. top 7 (lane 255 x)) (λ x. not (goes true x)) 256 b refl lt
lane_by false true b lt = agree_below_at (λ x. top 7 (lane 255 x)) (λ x. not (goes true x)) 256 b refl lt
lane_by false false b lt = agree_below_at (λ x. top 7 (lane 0 x)) (λ x. not (goes false x)) 256 b refl lt

lane_is : (before b : ℕ) → b < 256 → top 7 (lane (bit_or (equal before 32) (equal before 40)) b) ≡ stops before b
unfolding goes_on begins_name
lane_is before b lt = lane_by (eqb before 32) (eqb before 40) b lt

-- the vector that is computed, where there are n lanes
abbrev pub vector : ℕ → List ℕ → List ℕ → List ℕ
vector n before bytes =
    let letter = zip2 below (zip2 less (zip2 bit_or bytes (replicate n 32)) (replicate n 97)) (replicate n 26) in
    let digit = zip2 below (zip2 less bytes (replicate n 48)) (replicate n 10) in
    let mark = zip2 bit_or (zip2 equal bytes (replicate n 45)) (zip2 equal bytes (replicate n 95)) in
    let space = zip2 equal bytes (replicate n 32) in
    let begins = zip2 bit_or (zip2 equal before (replicate n 32)) (zip2 equal before (replicate n 40)) in
    map other (zip2 bit_or letter (zip2 bit_and (zip2 bit_or (zip2 bit_or digit mark) space) (map other begins)))

lanes_are : (before bytes : List ℕ) → length before ≡ length bytes → Each1 (Fits w8) bytes → map (top 7) (vector (length bytes) before bytes) ≡ zip2 stops before bytes
lanes_are [] [] same fits = refl
lanes_are [] (b ∷ bytes) same fits = absurd (omega arith)
lanes_are (a ∷ before) [] same fits = absurd (omega arith)
lanes_are (a ∷ before) (b ∷ bytes) same fits = ap₂ (λ (t : Bool) (ts : List Bool). t ∷ ts) (lane_is a b fits.0.fits) (lanes_are before bytes (omega arith) fits.1)

-- the mask of that vector
pub stops_mask : (before bytes : List ℕ) → length before ≡ 32 → length bytes ≡ 32 → Each1 (Fits w8) bytes → mask_l (map (top 7) (vector 32 before bytes)) % 2 ^ 64 ≡ mask_l (zip2 stops before bytes)
stops_mask before bytes long long' fits =
    ap (λ (n : ℕ). mask_l (map (top 7) (vector n before bytes)) % 2 ^ 64) (sym long')
    ∙ ap (λ (ts : List Bool). mask_l ts % 2 ^ 64) (lanes_are before bytes (long ∙ sym long') fits)
    ∙ mask_l-mod (zip2 stops before bytes) 64 (omega (arith, length-zip2 stops before bytes (long ∙ sym long'), long))

no_bits : trailing_zeros w64 0 ≡ 64
unfolding count_trailing_zeros
no_bits = refl

-- what the mask tells of a text and of itself, one byte on

tests : List ℕ → List Bool
tests text = zip2 stops (chunk 0 32 text) (chunk 1 32 text)

tests_long : (text : List ℕ) → 32 < length text → length (tests text) ≡ 32
unfolding tests
tests_long text room =
    let front : length (chunk 0 32 text) ≡ 32 = length-chunk 0 32 text (omega arith) in
    let next : length (chunk 1 32 text) ≡ 32 = length-chunk 1 32 text (omega arith) in
    length-zip2 stops (chunk 0 32 text) (chunk 1 32 text) (front ∙ sym next) ∙ front

test_at : (text : List ℕ) (k : ℕ) → 32 < length text → k < 32 → get_or (tests text) k false ≡ stops (get_or text k 0) (get_or text (k + 1) 0)
unfolding tests
test_at text k room lt =
    let front : length (chunk 0 32 text) ≡ 32 = length-chunk 0 32 text (omega arith) in
    let next : length (chunk 1 32 text) ≡ 32 = length-chunk 1 32 text (omega arith) in
    let here : 0 + k ≡ k = omega arith in
    let behind : 1 + k ≡ k + 1 = omega arith in
    get_or-zip2 stops (chunk 0 32 text) (chunk 1 32 text) k 0 0 false (omega arith) (omega arith)
    ∙ ap₂ stops (get_or-chunk 0 32 text k 0 lt ∙ ap (λ (j : ℕ). get_or text j 0) here) (get_or-chunk 1 32 text k 0 lt ∙ ap (λ (j : ℕ). get_or text j 0) behind)

-- the bytes go on as far as no test passes
abbrev run : List ℕ → ℕ
run text = prefix_len not (tests text)

run_seen : (text : List ℕ) → 32 < length text → GoesOnTo text (run text)
run_seen text room = record {
  before = λ k lt earlier. not-false _ (sym (test_at text k room lt) ∙ not-true _ (prefix_len_passes not (tests text) k false earlier));
  end = λ lt. not-true _ (sym (test_at text (run text) room lt) ∙ not-false _ (prefix_len_stops not (tests text) false (omega (arith, tests_long text room, lt))));
}

goes_on_by : (text : List ℕ) (ts : List Bool) → 32 < length text → ts ≡ tests text → (mask_l ts ≡ 0) ⊎ (mask_l ts ≢ 0) → GoesOnTo text (trailing_zeros w64 (mask_l ts))
goes_on_by text ts room is cases =
    let seen : GoesOnTo text (prefix_len not ts) = subst (λ (l : List Bool). GoesOnTo text (prefix_len not l)) (sym is) (run_seen text room) in
    let long : length ts ≡ 32 = ap length is ∙ tests_long text room in
    ⊎_elim
    (λ (none : mask_l ts ≡ 0).
    let all : prefix_len not ts ≡ 32 = leading_from_mask_l (λ t. t) ts (ap mask_l (map-id ts) ∙ none) ∙ long in
    record { before = λ k lt _. seen.before k lt (omega (arith, all)); end = λ lt. let no : trailing_zeros w64 (mask_l ts) ≡ 64 = ap (trailing_zeros w64) none ∙ no_bits in absurd (omega (arith, no, lt)) })
    (λ (some : mask_l ts ≢ 0).
    let first : trailing_zeros w64 (mask_l ts) ≡ prefix_len not ts =
    ap (λ (l : List Bool). trailing_zeros w64 (mask_l l)) (sym (map-id ts)) ∙ trailing_mask_l (λ t. t) 64 ts (omega (arith, long)) (omega (arith, some, ap mask_l (map-id ts))) in
    subst (GoesOnTo text) (sym first) seen)
    cases

pub goes_on_to : (text : List ℕ) (mask : ℕ) → 32 < length text → mask ≡ mask_l (zip2 stops (chunk 0 32 text) (chunk 1 32 text)) → GoesOnTo text (trailing_zeros w64 mask)
unfolding tests
goes_on_to text mask room is = subst (GoesOnTo text) (ap (trailing_zeros w64) (sym is)) (goes_on_by text (tests text) room refl (cases_eq (mask_l (tests text)) 0))

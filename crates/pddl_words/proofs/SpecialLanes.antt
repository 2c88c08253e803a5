-- The vector test for special bytes, lane by lane.

use Rattle.std.proofs.Common.{◌≡◌, ℕ, ◌%◌, ◌^◌, ◌<◌, ◌≤◌, Bool, false, cond, List, [], ◌∷◌, map, length, take, get_or, replicate, bit_and, bit_or, Fits, w8, refl, ap, ap₂, sym, ◌∙◌, inl, inr, arith}
use Rattle.std.specs.Int.{bit_at}
use Rattle.std.specs.Simd.Lanes.{Each1, zip2, mask_l, top}
use Rattle.std.proofs.lemmas.Bool.{agree_below_at, cases_lt}
use Rattle.std.proofs.lemmas.List.{get_or-map, get_or-take, length-map, length-take}
use Rattle.std.proofs.lemmas.Nat.Bits.{bit_at_above}
use Rattle.std.proofs.lemmas.Simd.{bit_mask_l, mask_l-lt, mask_l-mod}
use Rattle.pddl_words.specs.SpecialBytes.{is_special}
use Rattle.pddl_words.proofs.ByteLanes.{equal, below, less, other}

-- the lane of a byte
abbrev lane : ℕ → ℕ
lane b = bit_or (bit_or (equal (bit_and b 254) 40) (equal b 59)) (bit_and (below 94 (less b 32)) (other (equal b 10)))

lane_is : (b : ℕ) → b < 256 → top 7 (lane b) ≡ is_special b
lane_is b lt = agree_below_at (λ x. top 7 (lane x)) is_special 256 b refl lt

-- the vector that is computed, where there are n lanes
abbrev vector : ℕ → List ℕ → List ℕ
vector n bytes =
    zip2 bit_or (zip2 bit_or (zip2 equal (zip2 bit_and bytes (replicate n 254)) (replicate n 40)) (zip2 equal bytes (replicate n 59)))
    (zip2 bit_and (zip2 below (replicate n 94) (zip2 less bytes (replicate n 32))) (map other (zip2 equal bytes (replicate n 10))))

lanes_are : (bytes : List ℕ) → Each1 (Fits w8) bytes → map (top 7) (vector (length bytes) bytes) ≡ map is_special bytes
lanes_are [] fits = refl
lanes_are (b ∷ bytes) fits = ap₂ (λ (t : Bool) (ts : List Bool). t ∷ ts) (lane_is b fits.0.fits) (lanes_are bytes fits.1)

-- the mask of that vector
pub special_mask : (bytes : List ℕ) → length bytes ≡ 32 → Each1 (Fits w8) bytes → mask_l (map (top 7) (vector 32 bytes)) % 2 ^ 64 ≡ mask_l (map is_special bytes)
special_mask bytes long fits =
    ap (λ (n : ℕ). mask_l (map (top 7) (vector n bytes)) % 2 ^ 64) (sym long)
    ∙ ap (λ (ts : List Bool). mask_l ts % 2 ^ 64) (lanes_are bytes fits)
    ∙ mask_l-mod (map is_special bytes) 64 (omega (arith, length-map bytes is_special, long))

-- what the mask tells of the first bytes of a text

pub special_bit : (text : List ℕ) (mask k : ℕ) → 32 ≤ length text → mask ≡ mask_l (map is_special (take 32 text)) → k < 32 → bit_at mask k ≡ cond (is_special (get_or text k 0)) 1 0
special_bit text mask k room is lt =
    ap (λ (n : ℕ). bit_at n k) is ∙ bit_mask_l (map is_special (take 32 text)) k
    ∙ ap (λ (t : Bool). cond t 1 0) (get_or-map is_special (take 32 text) k 0 false (omega (arith, length-take 32 text)) ∙ ap is_special (get_or-take 32 text k 0 lt))

pub special_within : (text : List ℕ) (mask k : ℕ) → 32 ≤ length text → mask ≡ mask_l (map is_special (take 32 text)) → bit_at mask k ≡ 1 → k < 32
special_within text mask k room is set =
    let long : length (map is_special (take 32 text)) ≡ 32 = omega (arith, length-map (take 32 text) is_special, length-take 32 text) in
    let few : mask < 2 ^ 32 = omega (arith, is, rw long at (mask_l-lt (map is_special (take 32 text)))) in
    elim (cases_lt k 32) [ inl below ↦ below | inr above ↦ absurd (omega (arith, bit_at_above mask 32 k few above)) ]

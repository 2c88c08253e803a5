-- Rows of bits: what a word changed in place leaves of the others, and which bits a word's own are.

use Rattle.std.proofs.Common.{◌≡◌, ◌≢◌, ℕ, ◌+◌, ◌*◌, ◌/◌, ◌%◌, ◌^◌, ◌-◌, ◌<◌, ◌≤◌, ⊎_elim, false, ltb, List, length, get_or, set, slice_index, nat_eq, ap, sym, ◌∙◌, arith, get_or-set_same, get_or-set_other, replicate, ◌++◌}
use Rattle.std.specs.Int.{bit_at}
use Rattle.std.proofs.Math.Nat.{mod-eq_of_lt, one-mul}
use Rattle.std.proofs.Math.Pow.{pow-lt}
use Rattle.std.proofs.lemmas.Nat.Bits.{bit_at-zero, bit_at_ones, bit_at_ones_above}
use Rattle.std.proofs.lemmas.Bool.{cases_eq, cases_lt, lt-ltb, le-ltb}
use Rattle.std.proofs.lemmas.List.{get_or_past, get_or-replicate, length-replicate, get_or_append_left, get_or-append_right}
use Rattle.bit_rows.specs.Rows.{row_has, ChangesBit}

-- two numbers with the same quotient and the same remainder are the same
same_bit : (j k : ℕ) → j / 64 ≡ k / 64 → j % 64 ≡ k % 64 → j ≡ k
same_bit j k quotients remainders = omega arith

-- a word that changes one bit of the row leaves the others
pub row_has-set_other : (words : List ℕ) (bit word : ℕ) → bit / 64 < length words
    → ((j : ℕ) → j < 64 → j ≢ bit % 64 → bit_at word j ≡ bit_at (slice_index words (bit / 64)) j)
    → (k : ℕ) → k ≢ bit → row_has (set words (bit / 64) word) k ≡ row_has words k
row_has-set_other words bit word within others k apart =
    ⊎_elim
    (λ (same : k / 64 ≡ bit / 64).
    let below : k % 64 < 64 = omega arith in
    let remainders : k % 64 ≢ bit % 64 = λ e. apart (same_bit k bit same e) in
    let at : get_or (set words (bit / 64) word) (k / 64) 0 ≡ word = ap (λ i. get_or (set words (bit / 64) word) i 0) same ∙ get_or-set_same words (bit / 64) word 0 within in
    ap (λ w. nat_eq (bit_at w (k % 64)) 1) at
    ∙ ap (λ b. nat_eq b 1) (others (k % 64) below remainders ∙ ap (λ i. bit_at (slice_index words i) (k % 64)) (sym same)))
    (λ (other : k / 64 ≢ bit / 64). ap (λ w. nat_eq (bit_at w (k % 64)) 1) (get_or-set_other words (bit / 64) (k / 64) word 0 other))
    (cases_eq (k / 64) (bit / 64))

-- a word put in place of another, which differs from it in one bit, changes that bit of the row
pub changes : (words : List ℕ) (bit word b : ℕ) → bit / 64 < length words → bit_at word (bit % 64) ≡ b
    → ((j : ℕ) → j < 64 → j ≢ bit % 64 → bit_at word j ≡ bit_at (slice_index words (bit / 64)) j)
    → ChangesBit words (set words (bit / 64) word) bit (nat_eq b 1)
changes words bit word b within at others =
    record {
      at = ap (λ w. nat_eq (bit_at w (bit % 64)) 1) (get_or-set_same words (bit / 64) word 0 within) ∙ ap (λ v. nat_eq v 1) at;
      others = row_has-set_other words bit word within others;
      words = λ j apart. get_or-set_other words (bit / 64) j word 0 apart;
    }

-- a word with a bit is not 0
pub positive : (word k : ℕ) → bit_at word k ≡ 1 → 0 < word
positive word k set = ⊎_elim (λ (none : word ≡ 0). absurd (omega (arith, sym (bit_at-zero k) ∙ ap (λ w. bit_at w k) (sym none) ∙ set))) (λ (some : word ≢ 0). omega (arith, some)) (cases_eq word 0)

-- a word that is not 0 is one of the row
pub used-lt : (words : List ℕ) (j : ℕ) → 0 < slice_index words j → j < length words
used-lt words j used = grind (arith, get_or_past words j 0)

-- no bit of a word that is 0 is set
pub row_has-zero : (words : List ℕ) (k : ℕ) → slice_index words (k / 64) ≡ 0 → row_has words k ≡ false
row_has-zero words k zero = ap (λ w. nat_eq (bit_at w (k % 64)) 1) zero ∙ ap (λ b. nat_eq b 1) (bit_at-zero (k % 64))

-- the bits of a word by their number in the row
pub row_has-in : (words : List ℕ) (j i b : ℕ) → i < 64 → bit_at (slice_index words j) i ≡ b → row_has words (j * 64 + i) ≡ nat_eq b 1
row_has-in words j i b within at =
    let word : (j * 64 + i) / 64 ≡ j = omega arith in
    let bit : (j * 64 + i) % 64 ≡ i = omega arith in
    ap (λ w. nat_eq (bit_at (slice_index words w) ((j * 64 + i) % 64)) 1) word
    ∙ ap (λ k. nat_eq (bit_at (slice_index words j) k) 1) bit
    ∙ ap (λ v. nat_eq v 1) at

-- a whole word of a row of which the first bits are set
whole_word : (index count bit : ℕ) → index < count / 64 → bit < 64 → nat_eq (bit_at (2 ^ 64 - 1) bit) 1 ≡ ltb (index * 64 + bit) count
whole_word index count bit before within =
    ap (λ b. nat_eq b 1) (bit_at_ones 64 bit within) ∙ sym (lt-ltb (index * 64 + bit) count (omega arith))

-- the word in which its set bits end
pub last_word : (count bit : ℕ) → bit < 64
    → nat_eq (bit_at (1 * 2 ^ (count % 64) % 2 ^ 64 - 1) bit) 1 ≡ ltb (count / 64 * 64 + bit) count
last_word count bit within =
    let few : count % 64 < 64 = omega arith in
    let fits : 1 * 2 ^ (count % 64) % 2 ^ 64 ≡ 2 ^ (count % 64) =
    ap (λ n. n % 2 ^ 64) (one-mul (2 ^ (count % 64))) ∙ mod-eq_of_lt (pow-lt few) in
    ap (λ w. nat_eq (bit_at (w - 1) bit) 1) fits
    ∙ ⊎_elim
    (λ (low : bit < count % 64). ap (λ b. nat_eq b 1) (bit_at_ones (count % 64) bit low) ∙ sym (lt-ltb (count / 64 * 64 + bit) count (omega arith)))
    (λ (high : count % 64 ≤ bit). ap (λ b. nat_eq b 1) (bit_at_ones_above (count % 64) bit high) ∙ sym (le-ltb (count / 64 * 64 + bit) count (omega arith)))
    (cases_lt bit (count % 64))

-- a row with whole words, then the word in which the set bits end, and no bit set behind it
row_has-first : (words : List ℕ) (count : ℕ)
    → ((j : ℕ) → j < count / 64 → slice_index words j ≡ 2 ^ 64 - 1)
    → ((bit : ℕ) → bit < 64 → nat_eq (bit_at (slice_index words (count / 64)) bit) 1 ≡ ltb (count / 64 * 64 + bit) count)
    → ((j : ℕ) → count / 64 < j → slice_index words j ≡ 0)
    → (k : ℕ) → row_has words k ≡ ltb k count
row_has-first words count ones last zeros k =
    let within : k % 64 < 64 = omega arith in
    let whole : k / 64 * 64 + k % 64 ≡ k = omega arith in
    ⊎_elim
    (λ (before : k / 64 < count / 64).
    ap (λ w. nat_eq (bit_at w (k % 64)) 1) (ones (k / 64) before) ∙ whole_word (k / 64) count (k % 64) before within ∙ ap (λ n. ltb n count) whole)
    (λ (behind : count / 64 ≤ k / 64).
    ⊎_elim
    (λ (same : k / 64 ≡ count / 64).
    ap (λ j. nat_eq (bit_at (slice_index words j) (k % 64)) 1) same
    ∙ last (k % 64) within
    ∙ ap (λ j. ltb (j * 64 + k % 64) count) (sym same)
    ∙ ap (λ n. ltb n count) whole)
    (λ (other : k / 64 ≢ count / 64).
    row_has-zero words k (zeros (k / 64) (omega (arith, other, behind))) ∙ sym (le-ltb k count (omega (arith, other, behind))))
    (cases_eq (k / 64) (count / 64)))
    (cases_lt (k / 64) (count / 64))

-- one word that is cut to the first bits behind whole ones makes such a row
pub cut_last : (words : List ℕ) (count word : ℕ) → length words ≡ count / 64 + 1 → ((j : ℕ) → j < count / 64 + 1 → slice_index words j ≡ 2 ^ 64 - 1)
    → ((bit : ℕ) → bit < 64 → nat_eq (bit_at word bit) 1 ≡ ltb (count / 64 * 64 + bit) count)
    → (k : ℕ) → row_has (set words (count / 64) word) k ≡ ltb k count
cut_last words count word long ones last =
    row_has-first (set words (count / 64) word) count
    (λ j before. get_or-set_other words (count / 64) j word 0 (omega (arith, before)) ∙ ones j (omega arith))
    (λ bit within. ap (λ w. nat_eq (bit_at w bit) 1) (get_or-set_same words (count / 64) word 0 (omega (arith, long))) ∙ last bit within)
    (λ j behind. get_or-set_other words (count / 64) j word 0 (omega (arith, behind)) ∙ get_or_past words j 0 (omega (arith, long, behind)))

-- a row of whole words, and behind them the word in which the set bits end, with no bit set behind it
pub row_has-split : (full rest : List ℕ) (count whole : ℕ) → whole ≡ count / 64 → full ≡ replicate whole (2 ^ 64 - 1)
    → ((bit : ℕ) → bit < 64 → nat_eq (bit_at (slice_index rest 0) bit) 1 ≡ ltb (count / 64 * 64 + bit) count)
    → ((j : ℕ) → 0 < j → slice_index rest j ≡ 0)
    → (k : ℕ) → row_has (full ++ rest) k ≡ ltb k count
row_has-split full rest count whole is_whole ones last zeros =
    let long : length full ≡ count / 64 = ap length ones ∙ length-replicate whole (2 ^ 64 - 1) ∙ is_whole in
    row_has-first (full ++ rest) count
    (λ j before.
    get_or_append_left full rest 0 j (omega (arith, before, long))
    ∙ ap (λ words. slice_index words j) ones
    ∙ get_or-replicate whole j (2 ^ 64 - 1) 0 (omega (arith, before, is_whole)))
    (λ bit within.
    let none : count / 64 - count / 64 ≡ 0 = omega arith in
    let at : slice_index (full ++ rest) (count / 64) ≡ slice_index rest 0 =
    get_or-append_right full rest (count / 64) (count / 64) 0 long (omega arith) ∙ ap (slice_index rest) none in
    ap (λ w. nat_eq (bit_at w bit) 1) at ∙ last bit within)
    (λ j behind. get_or-append_right full rest (count / 64) j 0 long (omega (arith, behind)) ∙ zeros (j - count / 64) (omega (arith, behind)))

-- of words that are 0 those behind the first still are, whatever the first is now
pub zeros_behind : (rest : List ℕ) (n word : ℕ) → rest ≡ replicate n 0 → (j : ℕ) → 0 < j → slice_index (set rest 0 word) j ≡ 0
zeros_behind rest n word empty j behind =
    let long : length (replicate {A = ℕ} n 0) ≡ n = length-replicate n 0 in
    get_or-set_other rest 0 j word 0 (omega (arith, behind))
    ∙ ap (λ words. slice_index words j) empty
    ∙ ⊎_elim
    (λ (in_row : j < n). get_or-replicate n j 0 0 in_row)
    (λ (past : n ≤ j). get_or_past (replicate n 0) j 0 (omega (arith, past, long)))
    (cases_lt j n)

-- behind a row with room for the set bits and for no more, no bit is set
pub none_behind : (rest : List ℕ) (count : ℕ) → length rest ≡ 0 → count ≤ 64 * (count / 64)
    → (bit : ℕ) → bit < 64 → nat_eq (bit_at (slice_index rest 0) bit) 1 ≡ ltb (count / 64 * 64 + bit) count
none_behind rest count none room bit within =
    ap (λ w. nat_eq (bit_at w bit) 1) (get_or_past rest 0 0 (omega (arith, none)))
    ∙ ap (λ b. nat_eq b 1) (bit_at-zero bit)
    ∙ sym (le-ltb (count / 64 * 64 + bit) count (omega (arith, room)))

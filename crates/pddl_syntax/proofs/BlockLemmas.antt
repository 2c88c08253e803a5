-- How the check goes on within a block, by the bits that mark the bytes that may not be plain.

use Rattle.std.proofs.Common.{◌≡◌, ℕ, ◌+◌, ◌-◌, ◌/◌, ◌%◌, ◌^◌, ◌<◌, ◌≤◌, Bool, true, false, cond, List, length, take, drop, get_or, refl, sym, ap, ◌∙◌, arith, tests, w64, shr-shr}
use Rattle.std.proofs.lemmas.List.{get_or-drop}
use Rattle.std.proofs.lemmas.Nat.Bits.{bit_at-trailing_zeros, bit_at-zero}
use Rattle.std.specs.Int.{bit_at, trailing_zeros}
use Rattle.pddl_words.specs.SpecialBytes.{is_special}
use Rattle.pddl_tokens.proofs.Lemmas.{rest_whole}
use Rattle.pddl_syntax.specs.declared.marks.Mark.TheVariants.{Plain}
use Rattle.pddl_syntax.specs.Marks.{mark_of}
use Rattle.pddl_syntax.specs.Trees.{fault_after}
use Rattle.pddl_syntax.proofs.MarkLemmas.{plain_run}

-- bit k stands for the byte that is k bytes behind `seen`: bits are 0 only where bytes are plain, and none stands for a byte from `end` on
pub record AreMarked (text : List ℕ) (seen end bits : ℕ) : Type 0 where
  pub plain : (k : ℕ) → seen + k < end → bit_at bits k ≡ 0 → mark_of (get_or text (seen + k) 0) ≡ Plain
  pub within : (k : ℕ) → bit_at bits k ≡ 1 → seen + k < end

plain_by : (b : ℕ) → is_special b ≡ false → mark_of b ≡ Plain
unfolding mark_of
plain_by b is = grind (arith, tests, is)

plain_if : (b bit : ℕ) (special : Bool) → is_special b ≡ special → bit ≡ cond special 1 0 → bit ≡ 0 → mark_of b ≡ Plain
plain_if b bit true is set clear = absurd (omega arith)
plain_if b bit false is set clear = plain_by b is

-- the bits of a block mark its bytes
pub block_marked : (text : List ℕ) (at bits : ℕ) → ((k : ℕ) → k < 32 → bit_at bits k ≡ cond (is_special (get_or (take (length text - at) (drop at text)) k 0)) 1 0) → ((k : ℕ) → bit_at bits k ≡ 1 → k < 32) →
    AreMarked text at (at + 32) bits
block_marked text at bits special within = record {
  plain =
      λ k lt clear.
      let short : k < 32 = omega arith in
      let same : get_or (take (length text - at) (drop at text)) k 0 ≡ get_or text (at + k) 0 = ap (λ bytes. get_or bytes k 0) (rest_whole text at) ∙ get_or-drop at text k 0 in
      ap mark_of (sym same) ∙ plain_if _ (bit_at bits k) _ refl (special k short) clear;
  within = λ k set. let short : k < 32 = within k set in omega arith;
}

-- the lowest bit stands for a byte before the end
pub lowest_within : (text : List ℕ) (seen end bits : ℕ) → AreMarked text seen end bits → 0 < bits → bits < 2 ^ 64 → seen + trailing_zeros w64 bits < end
lowest_within text seen end bits marked some fits = marked.within (trailing_zeros w64 bits) (bit_at-trailing_zeros w64 bits some fits).1

-- up to that byte all are plain
pub to_lowest : (text : List ℕ) (seen end bits lists : ℕ) → AreMarked text seen end bits → 0 < bits → bits < 2 ^ 64 → end ≤ length text →
    fault_after text (seen + trailing_zeros w64 bits) lists ≡ fault_after text seen lists
to_lowest text seen end bits lists marked some fits room =
    let lowest = bit_at-trailing_zeros w64 bits some fits in
    let before : seen + trailing_zeros w64 bits < end = lowest_within text seen end bits marked some fits in
    sym (plain_run (length text) lists text seen (trailing_zeros w64 bits) (omega arith) (λ k lt. marked.plain k (omega arith) (lowest.2 k lt)))

-- where no bit is left, all bytes up to the end are plain
pub to_end : (text : List ℕ) (seen end bits lists : ℕ) → AreMarked text seen end bits → bits ≡ 0 → seen ≤ end → end ≤ length text →
    fault_after text end lists ≡ fault_after text seen lists
to_end text seen end bits lists marked none ordered room =
    let rest : seen + (end - seen) ≡ end = omega arith in
    ap (λ k. fault_after text k lists) (sym rest)
    ∙ sym (plain_run (length text) lists text seen (end - seen) (omega arith) (λ k lt. marked.plain k (omega arith) (ap (λ n. bit_at n k) none ∙ bit_at-zero k)))

-- the bits that are left after a byte
pub marked_behind : (text : List ℕ) (seen end bits n : ℕ) → AreMarked text seen end bits → AreMarked text (seen + n + 1) end (bits / 2 ^ (n + 1))
marked_behind text seen end bits n marked = record {
  plain =
      λ k lt clear.
      let same : seen + n + 1 + k ≡ seen + (n + 1 + k) = omega arith in
      ap (λ j. mark_of (get_or text j 0)) same ∙ marked.plain (n + 1 + k) (omega arith) (sym (ap (λ x. x % 2) (shr-shr bits (n + 1) k)) ∙ clear);
  within = λ k set. let before : seen + (n + 1 + k) < end = marked.within (n + 1 + k) (sym (ap (λ x. x % 2) (shr-shr bits (n + 1) k)) ∙ set) in omega arith;
}

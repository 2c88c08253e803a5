-- The ends of a word stand for the word.

use Rattle.std.proofs.Common.{◌≡◌, ◌<◌, ◌≤◌, ◌+◌, ◌-◌, min, ltb, cond, Bool, true, false, ℕ, List, ◌++◌, length, take, drop, refl, ap, sym, ◌∙◌, arith}
use Rattle.std.specs.Prelude.{All}
use Rattle.std.proofs.lemmas.Bool.{ltb-true, ltb-false}
use Rattle.std.proofs.lemmas.List.{take-append-drop, length-take, length-drop, drop-drop}
use Rattle.std.proofs.lemmas.List.Elements.{All-take, All-drop}
use Rattle.pddl_words.specs.JoinedBytes.{joined}
use Rattle.pddl_words.specs.declared.short_words.ShortWord.{ShortWord}
use Rattle.pddl_words.specs.ShortWords.{IsWord, end_len}
use Rattle.pddl_words.proofs.JoinedLaws.{same_bytes}

-- the ends of a word are within it
pub end_within : (len : ℕ) → end_len len ≤ len
end_within len = by (ltb len 4) (ltb len 8) refl refl
  where
    by : (few some : Bool) → ltb len 4 ≡ few → ltb len 8 ≡ some → end_len len ≤ len
    by true some e f = let is : end_len len ≡ len = ap (λ b. cond b len (cond (ltb len 8) 4 8)) e in omega (arith, is)
    by false true e f =
        let is : end_len len ≡ 4 = ap (λ b. cond b len (cond (ltb len 8) 4 8)) e ∙ ap (λ b. cond b 4 8) f in
        omega (arith, is, ltb-false len 4 e)
    by false false e f =
        let is : end_len len ≡ 8 = ap (λ b. cond b len (cond (ltb len 8) 4 8)) e ∙ ap (λ b. cond b 4 8) f in
        omega (arith, is, ltb-false len 8 f)

-- and cover it
pub ends_cover : (len : ℕ) → len ≤ 16 → len ≤ end_len len + end_len len
ends_cover len few = by (ltb len 4) (ltb len 8) refl refl
  where
    by : (four eight : Bool) → ltb len 4 ≡ four → ltb len 8 ≡ eight → len ≤ end_len len + end_len len
    by true eight e f = let is : end_len len ≡ len = ap (λ b. cond b len (cond (ltb len 8) 4 8)) e in omega (arith, is)
    by false true e f =
        let is : end_len len ≡ 4 = ap (λ b. cond b len (cond (ltb len 8) 4 8)) e ∙ ap (λ b. cond b 4 8) f in
        omega (arith, is, ltb-true len 8 f)
    by false false e f =
        let is : end_len len ≡ 8 = ap (λ b. cond b len (cond (ltb len 8) 4 8)) e ∙ ap (λ b. cond b 4 8) f in
        omega (arith, is, few)

-- bytes that are joined at both ends, which cover them
same_ends : (xs ys : List ℕ) (n : ℕ) → n ≤ length xs → length xs ≤ n + n → length xs ≡ length ys → All (λ x. x < 256) xs → All (λ y. y < 256) ys
    → joined (take n xs) ≡ joined (take n ys) → joined (drop (length xs - n) xs) ≡ joined (drop (length xs - n) ys) → xs ≡ ys
same_ends xs ys n within covers l p q front back =
    let m = length xs - n in
    let sum : m + (n - m) ≡ n = omega (arith, within, covers) in
    let first = same_bytes (take n xs) (take n ys) (length-take n xs ∙ ap (min n) l ∙ sym (length-take n ys)) (All-take (λ x. x < 256) n xs p) (All-take (λ y. y < 256) n ys q) front in
    let rest = same_bytes (drop m xs) (drop m ys) (length-drop m xs ∙ ap (λ k. k - m) l ∙ sym (length-drop m ys)) (All-drop (λ x. x < 256) m xs p) (All-drop (λ y. y < 256) m ys q) back in
    let end : (zs : List ℕ) → drop n zs ≡ drop (n - m) (drop m zs) = λ zs. ap (λ k. drop k zs) (sym sum) ∙ sym (drop-drop (n - m) m zs) in
    sym (take-append-drop n xs) ∙ ap (λ l. l ++ drop n xs) first ∙ ap (λ l. take n ys ++ l) (end xs ∙ ap (drop (n - m)) rest ∙ sym (end ys)) ∙ take-append-drop n ys

-- numbers stand for one word
pub one_word : (short : ShortWord) (a b : List ℕ) → IsWord short a → IsWord short b → a ≡ b
one_word short a b p q =
    let same : length a ≡ length b = p.len ∙ sym q.len in
    same_ends a b (end_len (length a)) (end_within (length a)) (ends_cover (length a) p.few) same p.bytes q.bytes
    (sym p.ends.front_is ∙ q.ends.front_is ∙ ap (λ n. joined (take (end_len n) b)) (sym same))
    (sym p.ends.back_is ∙ q.ends.back_is ∙ ap (λ n. joined (drop (n - end_len n) b)) (sym same))

-- Bytes that are the same as numbers are the same.

use Rattle.std.proofs.Common.{◌≡◌, ◌<◌, ◌≤◌, ◌+◌, ◌-◌, ◌++◌, min, ℕ, List, length, take, drop, ap, sym, ◌∙◌, arith}
use Rattle.std.specs.Prelude.{All}
use Rattle.std.proofs.lemmas.List.{drop-take, length-drop, length-take, take-append-drop, take-take, take_all}
use Rattle.std.proofs.lemmas.List.Elements.{All-take, All-drop}
use Rattle.pddl_words.specs.JoinedBytes.{joined}
use Rattle.pddl_words.proofs.JoinedLaws.{same_bytes}

-- what is after some bytes, as it is read
pub rest_all : (at : ℕ) (xs : List ℕ) → take (length xs - at) (drop at xs) ≡ drop at xs
rest_all at xs = take_all (length xs - at) (drop at xs) (omega (arith, length-drop at xs))

-- the first bytes and eight more
split : (at : ℕ) (xs : List ℕ) → take (at + 8) xs ≡ take at xs ++ take 8 (drop at xs)
split at xs =
    let first : take at (take (at + 8) xs) ≡ take at xs = take-take at (at + 8) xs (omega arith) in
    sym (take-append-drop at (take (at + 8) xs)) ∙ (λ j. first j ++ drop-take at 8 xs j)

-- eight more bytes are the same
pub more_same : (at : ℕ) (xs ys : List ℕ) → at + 8 ≤ length xs → length xs ≡ length ys → All (λ x. x < 256) xs → All (λ y. y < 256) ys
    → take at xs ≡ take at ys → joined (take 8 (drop at xs)) ≡ joined (take 8 (drop at ys)) → take (at + 8) xs ≡ take (at + 8) ys
more_same at xs ys within l p q before e =
    let len : length (take 8 (drop at xs)) ≡ length (take 8 (drop at ys)) =
    length-take 8 (drop at xs) ∙ ap (min 8) (length-drop at xs ∙ ap (λ n. n - at) l ∙ sym (length-drop at ys)) ∙ sym (length-take 8 (drop at ys)) in
    let eight = same_bytes (take 8 (drop at xs)) (take 8 (drop at ys)) len
    (All-take (λ x. x < 256) 8 (drop at xs) (All-drop (λ x. x < 256) at xs p)) (All-take (λ y. y < 256) 8 (drop at ys) (All-drop (λ y. y < 256) at ys q)) e in
    split at xs ∙ (λ j. before j ++ eight j) ∙ sym (split at ys)

-- all bytes are the same
pub all_same : (at last : ℕ) (xs ys : List ℕ) → last ≤ at → last + 8 ≡ length xs → length xs ≡ length ys → All (λ x. x < 256) xs → All (λ y. y < 256) ys
    → take at xs ≡ take at ys → joined (take 8 (drop last xs)) ≡ joined (take 8 (drop last ys)) → xs ≡ ys
all_same at last xs ys le is l p q before e =
    let front : take last xs ≡ take last ys = sym (take-take last at xs le) ∙ ap (take last) before ∙ take-take last at ys le in
    sym (take_all (last + 8) xs (omega (arith, is))) ∙ more_same last xs ys (omega (arith, is)) l p q front e ∙ take_all (last + 8) ys (omega (arith, is, l))

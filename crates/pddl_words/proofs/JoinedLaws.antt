-- Different bytes are different numbers.

use Rattle.std.proofs.Common.{◌≡◌, ◌<◌, ℕ, List, [], ◌∷◌, length, refl, ap, ◌∙◌, arith}
use Rattle.std.specs.Prelude.{All}
use Rattle.std.proofs.lemmas.List.Elements.{All-head, All-tail}
use Rattle.pddl_words.specs.JoinedBytes.{joined}

pub same_bytes : (xs ys : List ℕ) → length xs ≡ length ys → All (λ x. x < 256) xs → All (λ y. y < 256) ys → joined xs ≡ joined ys → xs ≡ ys
same_bytes [] [] l p q e = refl
same_bytes [] (y ∷ ys) l p q e = absurd (omega (arith, l))
same_bytes (x ∷ xs) [] l p q e = absurd (omega (arith, l))
same_bytes (x ∷ xs) (y ∷ ys) l p q e =
    let first = All-head (λ x. x < 256) x xs p in
    let other = All-head (λ y. y < 256) y ys q in
    let head : x ≡ y = omega (arith, e, first, other) in
    let tail : joined xs ≡ joined ys = omega (arith, e, first, other) in
    let rest = same_bytes xs ys (omega (arith, l)) (All-tail (λ x. x < 256) x xs p) (All-tail (λ y. y < 256) y ys q) tail in
    ap (λ z. z ∷ xs) head ∙ ap (λ zs. y ∷ zs) rest

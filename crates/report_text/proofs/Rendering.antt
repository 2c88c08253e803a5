-- Texts that are made piece by piece.

use Rattle.std.proofs.Common.{◌≡◌, ℕ, ◌+◌, zero, suc, List, [], ◌∷◌, ◌++◌, map, take, slice_get, Some, Result, Ok, Err, OnOk, ap, sym, ◌∙◌, arith, append-nil, append_assoc, codes}
use Rattle.std.proofs.lemmas.Grind.{flat_map-append}
use Rattle.std.proofs.lemmas.List.{map-append}
use Rattle.report_text.specs.Pieces.{after_commas, spaced}

-- one item more at the end of a front
pub take_one_more : {A : Type 0} (xs : List A) (i : ℕ) (x : A) → slice_get xs i ≡ Some x → take (suc i) xs ≡ take i xs ++ x ∷ []
take_one_more [] i x e = cc
take_one_more (y ∷ ys) zero x e = let same : y ≡ x = cc in ap (λ z. z ∷ []) same
take_one_more (y ∷ ys) (suc i) x e = ap (λ l. y ∷ l) (take_one_more ys i x e)

-- one word more behind its space
pub spaced_more : (words : List (List ℕ)) (i : ℕ) (word : List ℕ) → slice_get words i ≡ Some word
    → spaced (take (i + 1) words) ≡ spaced (take i words) ++ codes " " ++ word
spaced_more words i word e =
    let n : i + 1 ≡ suc i = omega arith in
    ap (λ k. spaced (take k words)) n
    ∙ ap spaced (take_one_more words i word e)
    ∙ flat_map-append (λ w. codes " " ++ w) (take i words) (word ∷ [])
    ∙ ap (λ l. spaced (take i words) ++ l) (append-nil (codes " " ++ word))
    ∙ sym (append_assoc (spaced (take i words)) (codes " ") word)

-- one piece more, written as it is, behind its comma
pub commas_more : {A : Type 0} (write : A → List ℕ) (items : List A) (i : ℕ) (item : A) → slice_get items i ≡ Some item
    → after_commas (map write (take (i + 1) items)) ≡ after_commas (map write (take i items)) ++ codes "," ++ write item
commas_more write items i item e =
    let n : i + 1 ≡ suc i = omega arith in
    let before = after_commas (map write (take i items)) in
    ap (λ k. after_commas (map write (take k items))) n
    ∙ ap (λ l. after_commas (map write l)) (take_one_more items i item e)
    ∙ ap after_commas (map-append write (take i items) (item ∷ []))
    ∙ flat_map-append (λ w. codes "," ++ w) (map write (take i items)) (write item ∷ [])
    ∙ ap (λ l. before ++ l) (append-nil (codes "," ++ write item))
    ∙ sym (append_assoc before (codes ",") (write item))

-- one piece behind others
pub then : {u v : List ℕ} (t x y : List ℕ) → u ≡ t ++ x → v ≡ u ++ y → v ≡ t ++ (x ++ y)
then t x y first next = next ∙ ap (λ l. l ++ y) first ∙ append_assoc t x y

-- what follows of the text follows of the answer
pub on_ok_more : {T E P Q : Type 0} (r : Result T E) → (P → Q) → OnOk r P → OnOk r Q
on_ok_more (Ok x) f h = f h
on_ok_more (Err e) f h = tt

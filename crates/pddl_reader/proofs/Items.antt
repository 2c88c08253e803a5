-- A loop over the items of a list, of which the rest is looked at.

use Rattle.std.proofs.Common.{refl, ◌≡◌, ℕ, ◌+◌, ◌<◌, List, ◌∷◌, length, drop, get_or, sym, subst, add-one, drop-cons}
use Rattle.std.proofs.lemmas.List.{drop_all}

-- the item at an index is the first of the rest; the first part shows a tactic where to apply this
pub item_at : {A : Type 0} (xs : List A) (i : ℕ) (x : A) → i < length xs → x ≡ get_or xs i x →
    (get_or xs i x ≡ x) × (drop i xs ≡ x ∷ drop (i + 1) xs)
item_at {A} xs i x lt is =
    let d : drop i xs ≡ get_or xs i x ∷ drop (i + 1) xs = rw add-one (drop-cons xs i x lt) in
    let P : A → Type 0 = λ y. drop i xs ≡ y ∷ drop (i + 1) xs in
    (sym is, subst P (sym is) d)

-- the same for items that are looked at in place
pub word_at : {A : Type 0} (xs : List A) (i : ℕ) (d : A) → i < length xs → (get_or xs i d ≡ get_or xs i d) × (drop i xs ≡ get_or xs i d ∷ drop (i + 1) xs)
word_at {A} xs i d lt =
    let e : drop i xs ≡ get_or xs i d ∷ drop (i + 1) xs = rw add-one (drop-cons xs i d lt) in
    (refl, e)

pub ruleset item_steps = (item_at, drop_all)

pub ruleset word_item_steps = (word_at, drop_all)

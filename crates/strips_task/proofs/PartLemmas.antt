-- Lists that are kept in one piece: how many there are, where each stands, and what one more changes.

use Rattle.std.proofs.Common.{◌≡◌, ℕ, ◌+◌, ◌-◌, ◌<◌, ◌≤◌, zero, suc, List, [], ◌∷◌, ◌++◌, length, take, drop, refl, ap, sym, ◌∙◌, subst, arith, slice_get, Some, get_or, length-drop}
use Rattle.std.proofs.lemmas.List.{take-append-le, drop-append-le, take_all}
use Rattle.std.proofs.Math.Seq.{drop-append_seam}
use Rattle.strips_task.specs.Parts.{parts_from, AreEnds}

-- there are as many parts as ends
pub length_parts : (xs : List ℕ) (start : ℕ) (ends : List ℕ) → length (parts_from xs start ends) ≡ length ends
unfolding parts_from
length_parts xs start [] = refl
length_parts xs start (end ∷ ends) = ap suc (length_parts xs end ends)

pub parts_none : (xs ends : List ℕ) → ends ≡ [] → parts_from xs 0 ends ≡ []
unfolding parts_from
parts_none xs ends e = ap (parts_from xs 0) e

pub ends_none : (xs ends : List ℕ) → xs ≡ [] → ends ≡ [] → AreEnds 0 ends (length xs)
unfolding AreEnds
ends_none xs ends e f = subst (λ l. AreEnds 0 l (length xs)) (sym f) (sym (ap length e))

-- no part starts behind the end of the list
pub start_within : (start : ℕ) (ends : List ℕ) (total : ℕ) → AreEnds start ends total → start ≤ total
unfolding AreEnds
start_within start [] total h = omega (arith, h)
start_within start (end ∷ ends) total h = omega (arith, h.0, start_within end ends total h.1)

-- each part ends within the list, and no sooner than it starts
pub end_within : (start : ℕ) (ends : List ℕ) (total i : ℕ) → AreEnds start ends total → i < length ends
    → (get_or (start ∷ ends) i 0 ≤ get_or ends i 0) × (get_or ends i 0 ≤ total)
unfolding AreEnds
end_within start [] total i h lt = absurd (omega arith)
end_within start (end ∷ ends) total zero h lt = (h.0, start_within end ends total h.1)
end_within start (end ∷ ends) total (suc i) h lt = end_within end ends total i h.1 (let k : suc i < suc (length ends) = lt in omega arith)

-- what stands between two ends
pub slice_get_parts : (xs : List ℕ) (start : ℕ) (ends : List ℕ) (i : ℕ) → i < length ends
    → slice_get (parts_from xs start ends) i ≡ Some (take (get_or ends i 0 - get_or (start ∷ ends) i 0) (drop (get_or (start ∷ ends) i 0) xs))
unfolding parts_from
slice_get_parts xs start [] i lt = absurd (omega arith)
slice_get_parts xs start (end ∷ ends) zero lt = refl
slice_get_parts xs start (end ∷ ends) (suc i) lt = slice_get_parts xs end ends i (let k : suc i < suc (length ends) = lt in omega arith)

-- one more part at the end of the list
pub ends_push : (start : ℕ) (ends : List ℕ) (total more : ℕ) → AreEnds start ends total → total ≤ more → AreEnds start (ends ++ more ∷ []) more
unfolding AreEnds
ends_push start [] total more h le = (omega (arith, h), refl)
ends_push start (end ∷ ends) total more h le = (h.0, ends_push end ends total more h.1 le)

pub parts_push : (xs ys : List ℕ) (start : ℕ) (ends : List ℕ) (more : ℕ) → AreEnds start ends (length xs) → more ≡ length xs + length ys
    → parts_from (xs ++ ys) start (ends ++ more ∷ []) ≡ parts_from xs start ends ++ ys ∷ []
unfolding AreEnds parts_from
parts_push xs ys start [] more h e =
    let count : more - start ≡ length ys = omega (arith, h) in
    ap (λ part. part ∷ [])
    ((λ j. take (count j) (drop (h j) (xs ++ ys)))
    ∙ ap (take (length ys)) (drop-append_seam xs ys)
    ∙ take_all (length ys) ys (omega arith))
parts_push xs ys start (end ∷ ends) more h e =
    let ends_in : end ≤ length xs = start_within end ends (length xs) h.1 in
    let starts_in : start ≤ length xs = omega (arith, h.0) in
    let count : end - start ≤ length (drop start xs) = omega (arith, length-drop start xs) in
    (λ j. (ap (take (end - start)) (drop-append-le start xs ys starts_in) ∙ take-append-le (end - start) (drop start xs) ys count) j
    ∷ parts_push xs ys end ends more h.1 e j)

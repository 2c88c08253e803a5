-- States that are taken through lists of lists, and pairs of states.

use Rattle.std.proofs.Common.{◌≡◌, ◌++◌, List, [], ◌∷◌, map, flat_map, Option, Some, None, refl, sym, ◌∙◌}
use Rattle.std.specs.Option.{option_and_then}
use Rattle.pddl_syntax.specs.Optional.{through}
use Rattle.pddl_reader.specs.TypeOrder.{TypeNames, TypeParents, tables_of}

-- steps that are the same lead to the same
pub through_same : {S X : Type 0} (f g : S → X → Option S) → ((s : S) (x : X) → f s x ≡ g s x) → (s : S) (xs : List X) → through f s xs ≡ through g s xs
through_same f g same s xs = λ j. through (λ t x. same t x j) s xs

-- the steps of one list and then those of another
pub through_append : {S X : Type 0} (f : S → X → Option S) (s : S) (xs ys : List X) → through f s (xs ++ ys) ≡ option_and_then (λ t. through f t ys) (through f s xs)
unfolding through
through_append f s [] ys = refl
through_append {S} f s (x ∷ xs) ys = by (f s x) (λ t. through_append f t xs ys)
  where
    by : (next : Option S) → ((t : S) → through f t (xs ++ ys) ≡ option_and_then (λ u. through f u ys) (through f t xs)) →
        option_and_then (λ t. through f t (xs ++ ys)) next ≡ option_and_then (λ u. through f u ys) (option_and_then (λ t. through f t xs) next)
    by None rest = refl
    by (Some t) rest = rest t

-- steps over what items stand for
pub through_map : {S X Y : Type 0} (f : S → Y → Option S) (h : X → Y) (s : S) (xs : List X) → through f s (map h xs) ≡ through (λ t x. f t (h x)) s xs
unfolding through
through_map f h s [] = refl
through_map f h s (x ∷ xs) = λ j. option_and_then (λ t. through_map f h t xs j) (f s (h x))

-- steps over lists one behind the other
pub through_flat : {S X Y : Type 0} (f : S → Y → Option S) (h : X → List Y) (s : S) (xs : List X) → through (λ t x. through f t (h x)) s xs ≡ through f s (flat_map h xs)
unfolding through
through_flat f h s [] = refl
through_flat f h s (x ∷ xs) =
    let rest : option_and_then (λ t. through (λ u y. through f u (h y)) t xs) (through f s (h x)) ≡ option_and_then (λ t. through f t (flat_map h xs)) (through f s (h x)) =
    λ j. option_and_then (λ t. through_flat f h t xs j) (through f s (h x)) in
    rest ∙ sym (through_append f s (h x) (flat_map h xs))

-- steps that change nothing
pub through_idle : {S X : Type 0} (s : S) (xs : List X) → through (λ t x. Some t) s xs ≡ Some s
unfolding through
through_idle s [] = refl
through_idle s (x ∷ xs) = through_idle s xs

-- one step
through_one : {S X : Type 0} (f : S → X → Option S) (s : S) (x : X) → through f s (x ∷ []) ≡ f s x
unfolding through
through_one {S} f s x = by (f s x)
  where
    by : (next : Option S) → option_and_then (λ t. Some t) next ≡ next
    by None = refl
    by (Some t) = refl

-- one step behind others
pub through_behind_one : {S X : Type 0} (f : S → X → Option S) (next : Option S) (x : X) →
    option_and_then (λ s. f s x) next ≡ option_and_then (λ s. through f s (x ∷ [])) next
through_behind_one f None x = refl
through_behind_one f (Some s) x = sym (through_one f s x)

-- two tables of which one is missing
no_parents : (names : Option TypeNames) → tables_of names None ≡ None
unfolding tables_of
no_parents None = refl
no_parents (Some names) = refl

-- two tables go on side by side
pub through_both : {X : Type 0} (f : TypeNames → X → Option TypeNames) (g : TypeParents → X → Option TypeParents) (names : TypeNames) (parents : TypeParents) (xs : List X) →
    through (λ t x. tables_of (f t.names x) (g t.parents x)) (record { names = names; parents = parents }) xs
    ≡ tables_of (through f names xs) (through g parents xs)
unfolding through tables_of
through_both f g names parents [] = refl
through_both {X} f g names parents (x ∷ xs) = by (f names x) (g parents x) (λ n p. through_both f g n p xs)
  where
    by : (n : Option TypeNames) (p : Option TypeParents) →
        ((n : TypeNames) (p : TypeParents) → through (λ t x. tables_of (f t.names x) (g t.parents x)) (record { names = n; parents = p }) xs ≡ tables_of (through f n xs) (through g p xs)) →
        option_and_then (λ t. through (λ t x. tables_of (f t.names x) (g t.parents x)) t xs) (tables_of n p)
        ≡ tables_of (option_and_then (λ t. through f t xs) n) (option_and_then (λ t. through g t xs) p)
    by None p rest = refl
    by (Some n) None rest = sym (no_parents (through f n xs))
    by (Some n) (Some p) rest = rest n p

-- What `and`, `or`, `imply`, `not` and quantifiers mean.

use Rattle.std.proofs.Common.{◌≡◌, ℕ, Bool, true, false, not, ◌&&◌, ◌||◌, List, [], ◌∷◌, ◌++◌, refl, sym, ap, ◌∙◌}
use Rattle.std.proofs.Math.Bool.{not-not, and-true, or-false}
use Rattle.std.proofs.Math.Path.{fun_ext}
use Rattle.std.specs.List.{flat_map, list_all, list_any}
use Rattle.formulas.specs.declared.atoms.Atom.{Atom}
use Rattle.formulas.specs.Laws.{ImplyMeansOr, NotMovesInwards, NoVariablesMeanTheBody, NoObjectsDecide}
use Rattle.formulas.specs.Meaning.{signed, holds, all_hold, some_holds}
use Rattle.formulas.specs.Opposite.{opposite, opposites}
use Rattle.formulas.specs.Tree.{Tree, atom, equality, negation, conjunction, disjunction, implication, exists, for_all, Parts, no_parts, part}
use Rattle.formulas.specs.Variables.{variable_types, extensions}

not_and : (a b : Bool) → not (a && b) ≡ (not a || not b)
not_and true b = refl
not_and false b = refl

not_or : (a b : Bool) → not (a || b) ≡ (not a && not b)
not_or true b = refl
not_or false b = refl

signed_otherwise : (positive truth : Bool) → signed (not positive) truth ≡ not (signed positive truth)
signed_otherwise true truth = refl
signed_otherwise false truth = sym (not-not truth)

module _ {X : Type 0} (p : X → Bool) where
  not_all : (xs : List X) → not (list_all p xs) ≡ list_any (λ x. not (p x)) xs
  not_all [] = refl
  not_all (x ∷ xs) = not_and (p x) (list_all p xs) ∙ ap (λ others. not (p x) || others) (not_all xs)

  not_any : (xs : List X) → not (list_any p xs) ≡ list_all (λ x. not (p x)) xs
  not_any [] = refl
  not_any (x ∷ xs) = not_or (p x) (list_any p xs) ∙ ap (λ others. not (p x) && others) (not_any xs)

module _ {A X : Type 0} (f : X → List A) where
  flat_map_none : ((x : X) → f x ≡ []) → (xs : List X) → flat_map f xs ≡ []
  flat_map_none none [] = refl
  flat_map_none none (x ∷ xs) = ap (λ list. list ++ flat_map f xs) (none x) ∙ flat_map_none none xs

module _ (objects_of : List ℕ → List ℕ) (state : Atom → Bool) (arguments : List ℕ) where
  abbrev is : Tree → List ℕ → Bool
  is = holds objects_of state arguments

  pub imply_means : ImplyMeansOr objects_of state arguments
  imply_means bound premise conclusion = ap (λ b. not (is premise bound) || b) (sym (or-false (is conclusion bound)))

  mutual
    opposite_means : (tree : Tree) (bound : List ℕ) → is (opposite tree) bound ≡ not (is tree bound)
    opposite_means (atom positive pattern) bound = signed_otherwise positive _
    opposite_means (equality positive left right) bound = signed_otherwise positive _
    opposite_means (negation tree) bound = sym (not-not (is tree bound))
    opposite_means (conjunction parts) bound = some_opposite parts bound
    opposite_means (disjunction parts) bound = all_opposite parts bound
    opposite_means (implication premise conclusion) bound =
        ap (λ b. is premise bound && b) (and-true (is (opposite conclusion) bound) ∙ opposite_means conclusion bound)
        ∙ sym (not_or (not (is premise bound)) (is conclusion bound) ∙ ap (λ b. b && not (is conclusion bound)) (not-not (is premise bound)))
    opposite_means (exists groups body) bound =
        ap (λ f. list_all f (extensions objects_of (variable_types groups) bound)) (fun_ext (opposite_means body)) ∙ sym (not_any (is body) (extensions objects_of (variable_types groups) bound))
    opposite_means (for_all groups body) bound =
        ap (λ f. list_any f (extensions objects_of (variable_types groups) bound)) (fun_ext (opposite_means body)) ∙ sym (not_all (is body) (extensions objects_of (variable_types groups) bound))

    some_opposite : (parts : Parts) (bound : List ℕ) → some_holds objects_of state arguments (opposites parts) bound ≡ not (all_hold objects_of state arguments parts bound)
    some_opposite no_parts bound = refl
    some_opposite (part tree parts) bound =
        (λ j. opposite_means tree bound j || some_opposite parts bound j) ∙ sym (not_and (is tree bound) (all_hold objects_of state arguments parts bound))

    all_opposite : (parts : Parts) (bound : List ℕ) → all_hold objects_of state arguments (opposites parts) bound ≡ not (some_holds objects_of state arguments parts bound)
    all_opposite no_parts bound = refl
    all_opposite (part tree parts) bound =
        (λ j. opposite_means tree bound j && all_opposite parts bound j) ∙ sym (not_or (is tree bound) (some_holds objects_of state arguments parts bound))

  pub not_moves : NotMovesInwards objects_of state arguments
  not_moves bound tree = sym (opposite_means tree bound)

  pub no_variables : NoVariablesMeanTheBody objects_of state arguments
  no_variables bound body = (or-false (is body bound), and-true (is body bound))

  none_extended : (before after : List (List ℕ)) (types bound : List ℕ) → objects_of types ≡ [] → extensions objects_of (before ++ types ∷ after) bound ≡ []
  none_extended [] after types bound empty = ap (flat_map (λ object. extensions objects_of after (bound ++ object ∷ []))) empty
  none_extended (first ∷ before) after types bound empty =
      flat_map_none (λ object. extensions objects_of (before ++ types ∷ after) (bound ++ object ∷ [])) (λ object. none_extended before after types (bound ++ object ∷ []) empty) (objects_of first)

  pub no_objects : NoObjectsDecide objects_of state arguments
  no_objects bound groups body before after types among empty =
      let none : extensions objects_of (variable_types groups) bound ≡ [] = ap (λ variables. extensions objects_of variables bound) among ∙ none_extended before after types bound empty in
      (ap (list_any (is body)) none, ap (list_all (is body)) none)

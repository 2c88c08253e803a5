-- A formula with objects put in: when it holds, and what it names.

use Rattle.std.proofs.Common.{◌≡◌, ℕ, ◌+◌, ◌-◌, ◌<◌, ◌≤◌, Bool, true, false, not, ◌&&◌, ◌||◌, cond, nat_lt, nat_eq, List, [], ◌∷◌, ◌++◌, map, length, slice_index, refl, sym, ap, ◌∙◌, append_assoc, subst, arith}
use Rattle.std.proofs.Math.ListN.{get_or-append}
use Rattle.std.proofs.Math.Seq.{get_or-append_right}
use Rattle.std.proofs.Math.Path.{fun_ext}
use Rattle.std.proofs.lemmas.Bool.Decides.{nat_tests}
use Rattle.std.proofs.lemmas.List.{get_or_past, map-append}
use Rattle.std.proofs.lemmas.List.Elements.{All-nil, All-cons, recursion_from_All}
use Rattle.std.proofs.lemmas.List.Folds.{list_all-map}
use Rattle.std.specs.List.{flat_map, list_all, list_any, All, AllByRecursion}
use Rattle.formulas.specs.declared.atoms.Atom.{Atom}
use Rattle.formulas.specs.declared.terms.Term.{Term}
use Rattle.formulas.specs.declared.terms.Term.TheVariants.{Param, Bound, Object}
use Rattle.formulas.specs.declared.terms.Pattern.{Pattern}
use Rattle.formulas.specs.Grounding.{term_with, pattern_with, with_objects, all_with_objects}
use Rattle.formulas.specs.Laws.{GroundedMeansTheSame, GroundedNamesNoParameter}
use Rattle.formulas.specs.Meaning.{object_of, atom_of, signed, holds, all_hold, some_holds}
use Rattle.formulas.specs.Tree.{Tree, atom, equality, negation, conjunction, disjunction, implication, exists, for_all, Parts, no_parts, part}
use Rattle.formulas.specs.Variables.{variable_types, extensions}
use Rattle.formulas.specs.Within.{IsTermWithin, IsWithin, AreWithin}

is_below : (i n : ℕ) → nat_lt i n ≡ true → i < n
is_below i n below = grind (arith, nat_tests)

is_past : (i n : ℕ) → nat_lt i n ≡ false → n ≤ i
is_past i n past = grind (arith, nat_tests)

module _ (arguments bound inner : List ℕ) where
  argument_is : (index : ℕ) (known : Bool) → nat_lt index (length arguments) ≡ known → object_of [] inner (cond known (Object (slice_index arguments index)) (Param index)) ≡ slice_index arguments index
  argument_is index true below = refl
  argument_is index false past = sym (get_or_past arguments index 0 (is_past index (length arguments) past))

  variable_is : (level : ℕ) (known : Bool) → nat_lt level (length bound) ≡ known
      → object_of [] inner (cond known (Object (slice_index bound level)) (Bound (level - length bound))) ≡ slice_index (bound ++ inner) level
  variable_is level true below = sym (get_or-append bound inner 0 level (is_below level (length bound) below))
  variable_is level false past = sym (get_or-append_right bound inner level 0 (is_past level (length bound) past))

  term_means : (term : Term) → object_of [] inner (term_with arguments bound term) ≡ object_of arguments (bound ++ inner) term
  term_means (Param index) = argument_is index (nat_lt index (length arguments)) refl
  term_means (Bound level) = variable_is level (nat_lt level (length bound)) refl
  term_means (Object object) = refl

  terms_mean : (terms : List Term) → map (object_of [] inner) (map (term_with arguments bound) terms) ≡ map (object_of arguments (bound ++ inner)) terms
  terms_mean [] = refl
  terms_mean (term ∷ terms) = λ j. term_means term j ∷ terms_mean terms j

  atom_means : (pattern : Pattern) → atom_of [] inner (pattern_with arguments bound pattern) ≡ atom_of arguments (bound ++ inner) pattern
  atom_means pattern = λ j. record { pred = pattern.pred; args = terms_mean pattern.terms j }

module _ {A B : Type 0} where
  map-flat_map : {X : Type 0} (h : A → B) (f : X → List A) (xs : List X) → map h (flat_map f xs) ≡ flat_map (λ x. map h (f x)) xs
  map-flat_map h f [] = refl
  map-flat_map h f (x ∷ xs) = map-append h (f x) (flat_map f xs) ∙ ap (λ others. map h (f x) ++ others) (map-flat_map h f xs)

  list_any-map : (p : B → Bool) (h : A → B) (xs : List A) → list_any p (map h xs) ≡ list_any (λ x. p (h x)) xs
  list_any-map p h [] = refl
  list_any-map p h (x ∷ xs) = ap (λ others. p (h x) || others) (list_any-map p h xs)

-- what is bound first stays in front
module _ (objects_of : List ℕ → List ℕ) (bound : List ℕ) where
  extended_behind : (variables : List (List ℕ)) (inner : List ℕ) → extensions objects_of variables (bound ++ inner) ≡ map (λ extended. bound ++ extended) (extensions objects_of variables inner)
  extended_behind [] inner = refl
  extended_behind (types ∷ others) inner =
      ap (λ f. flat_map f (objects_of types)) (fun_ext (λ object. ap (extensions objects_of others) (append_assoc bound inner (object ∷ [])) ∙ extended_behind others (inner ++ object ∷ [])))
      ∙ sym (map-flat_map (λ extended. bound ++ extended) (λ object. extensions objects_of others (inner ++ object ∷ [])) (objects_of types))

module _ (objects_of : List ℕ → List ℕ) (state : Atom → Bool) (arguments bound : List ℕ) where
  abbrev before : Tree → List ℕ → Bool
  before tree inner = holds objects_of state arguments tree (bound ++ inner)

  abbrev after : Tree → List ℕ → Bool
  after tree inner = holds objects_of state [] (with_objects arguments bound tree) inner

  mutual
    tree_means : (tree : Tree) (inner : List ℕ) → after tree inner ≡ before tree inner
    tree_means (atom positive pattern) inner = ap (λ asked. signed positive (state asked)) (atom_means arguments bound inner pattern)
    tree_means (equality positive left right) inner = λ j. signed positive (nat_eq (term_means arguments bound inner left j) (term_means arguments bound inner right j))
    tree_means (negation tree) inner = ap not (tree_means tree inner)
    tree_means (conjunction parts) inner = all_mean parts inner
    tree_means (disjunction parts) inner = some_mean parts inner
    tree_means (implication premise conclusion) inner = λ j. not (tree_means premise inner j) || tree_means conclusion inner j
    tree_means (exists groups body) inner =
        ap (λ f. list_any f (extensions objects_of (variable_types groups) inner)) (fun_ext (tree_means body))
        ∙ sym (list_any-map (holds objects_of state arguments body) (λ extended. bound ++ extended) (extensions objects_of (variable_types groups) inner))
        ∙ ap (list_any (holds objects_of state arguments body)) (sym (extended_behind objects_of bound (variable_types groups) inner))
    tree_means (for_all groups body) inner =
        ap (λ f. list_all f (extensions objects_of (variable_types groups) inner)) (fun_ext (tree_means body))
        ∙ sym (list_all-map (holds objects_of state arguments body) (λ extended. bound ++ extended) (extensions objects_of (variable_types groups) inner))
        ∙ ap (list_all (holds objects_of state arguments body)) (sym (extended_behind objects_of bound (variable_types groups) inner))

    all_mean : (parts : Parts) (inner : List ℕ) → all_hold objects_of state [] (all_with_objects arguments bound parts) inner ≡ all_hold objects_of state arguments parts (bound ++ inner)
    all_mean no_parts inner = refl
    all_mean (part tree parts) inner = λ j. tree_means tree inner j && all_mean parts inner j

    some_mean : (parts : Parts) (inner : List ℕ) → some_holds objects_of state [] (all_with_objects arguments bound parts) inner ≡ some_holds objects_of state arguments parts (bound ++ inner)
    some_mean no_parts inner = refl
    some_mean (part tree parts) inner = λ j. tree_means tree inner j || some_mean parts inner j

pub grounded_means : (objects_of : List ℕ → List ℕ) (state : Atom → Bool) (arguments : List ℕ) → GroundedMeansTheSame objects_of state arguments
grounded_means objects_of state arguments bound inner tree = tree_means objects_of state arguments bound tree inner

module _ (objects bound : List ℕ) where
  term_left : (left : ℕ) (term : Term) → IsTermWithin (length objects) (length bound + left) term → IsTermWithin 0 left (term_with objects bound term)
  term_left left (Param index) within = by (nat_lt index (length objects)) refl
    where
      by : (known : Bool) → nat_lt index (length objects) ≡ known → IsTermWithin 0 left (cond known (Object (slice_index objects index)) (Param index))
      by true below = tt
      by false past = absurd (omega (arith, is_past index (length objects) past, within))
  term_left left (Bound level) within = by (nat_lt level (length bound)) refl
    where
      by : (known : Bool) → nat_lt level (length bound) ≡ known → IsTermWithin 0 left (cond known (Object (slice_index bound level)) (Bound (level - length bound)))
      by true below = tt
      by false past = omega (arith, is_past level (length bound) past, within)
  term_left left (Object object) within = tt

  terms_left : (left : ℕ) (terms : List Term) → AllByRecursion (IsTermWithin (length objects) (length bound + left)) terms → All (IsTermWithin 0 left) (map (term_with objects bound) terms)
  terms_left left [] within = All-nil (IsTermWithin 0 left)
  terms_left left (term ∷ terms) within = All-cons (IsTermWithin 0 left) (term_with objects bound term) (map (term_with objects bound) terms) (term_left left term within.0) (terms_left left terms within.1)

  body_within : (left own : ℕ) (body : Tree) → IsWithin (length objects) (length bound + left + own) body → IsWithin (length objects) (length bound + (left + own)) body
  body_within left own body within =
      let all : length bound + left + own ≡ length bound + (left + own) = omega arith in
      subst (λ count. IsWithin (length objects) count body) all within

  mutual
    tree_left : (left : ℕ) (tree : Tree) → IsWithin (length objects) (length bound + left) tree → IsWithin 0 left (with_objects objects bound tree)
    tree_left left (atom positive pattern) within = terms_left left pattern.terms (recursion_from_All (IsTermWithin (length objects) (length bound + left)) pattern.terms within)
    tree_left left (equality positive first second) within = (term_left left first within.0, term_left left second within.1)
    tree_left left (negation tree) within = tree_left left tree within
    tree_left left (conjunction parts) within = parts_left left parts within
    tree_left left (disjunction parts) within = parts_left left parts within
    tree_left left (implication premise conclusion) within = (tree_left left premise within.0, tree_left left conclusion within.1)
    tree_left left (exists groups body) within = tree_left (left + length (variable_types groups)) body (body_within left (length (variable_types groups)) body within)
    tree_left left (for_all groups body) within = tree_left (left + length (variable_types groups)) body (body_within left (length (variable_types groups)) body within)

    parts_left : (left : ℕ) (parts : Parts) → AreWithin (length objects) (length bound + left) parts → AreWithin 0 left (all_with_objects objects bound parts)
    parts_left left no_parts within = tt
    parts_left left (part tree parts) within = (tree_left left tree within.0, parts_left left parts within.1)

pub grounded_names : GroundedNamesNoParameter
grounded_names objects bound left tree within = tree_left objects bound left tree within

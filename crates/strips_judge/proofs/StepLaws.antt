-- One condition or effect more: what it does to what is missing and to the state.

use Rattle.std.proofs.Common.{◌≡◌, ℕ, ◌+◌, ◌<◌, Bool, true, false, cond, not, ◌&&◌, ◌||◌, List, [], ◌∷◌, ◌++◌, refl, ap, sym, ◌∙◌, length, filter, map, take, get_or, append-nil}
use Rattle.std.proofs.Math.Path.{fun_ext}
use Rattle.std.proofs.lemmas.List.{map_more, take_more}
use Rattle.std.proofs.lemmas.List.Elements.{filter-append}
use Rattle.std.proofs.lemmas.List.Folds.{list_any-append}
use Rattle.indexmap.specs.IndexSet.{insert_key}
use Rattle.formulas.specs.declared.atoms.Atom.{Atom}
use Rattle.formulas.specs.Equality.{tree_eq}
use Rattle.formulas.specs.EqualityLaws.{tree_equivalence}
use Rattle.formulas.specs.Grounding.{with_objects}
use Rattle.formulas.specs.Tree.{Tree}
use Rattle.formulas.proofs.Copies.{with_nothing}
use Rattle.formulas.proofs.GroundedMeaning.{grounded_means}
use Rattle.strips_task.specs.declared.tasks.TaskParts.{TaskParts}
use Rattle.formulas.specs.Atom.{atom_eq}
use Rattle.strips_task.specs.FirstOccurrences.{first_occurrences}
use Rattle.strips_task.proofs.FirstOccurrences.{first_occurrences-push}
use Rattle.strips_judge.specs.State.{State, is_in, with_all, without, objects_of, holds}
use Rattle.strips_judge.specs.Step.{missing}

-- one item more, mapped
pub mapped_more : {X Y : Type 0} (f : X → Y) (xs : List X) (i : ℕ) (x : X) → i < length xs → x ≡ get_or xs i x → map f (take (i + 1) xs) ≡ map f (take i xs) ++ f x ∷ []
mapped_more f xs i x lt is = map_more f xs i x lt ∙ ap (λ y. map f (take i xs) ++ f y ∷ []) (sym is)

-- one item more
pub taken_more : {X : Type 0} (xs : List X) (i : ℕ) (x : X) → i < length xs → x ≡ get_or xs i x → take (i + 1) xs ≡ take i xs ++ x ∷ []
taken_more xs i x lt is = take_more xs i x lt ∙ ap (λ y. take i xs ++ y ∷ []) (sym is)

-- of no conditions none is missing
pub missing-none : (parts : TaskParts) (state : State) → missing parts state [] ≡ []
unfolding first_occurrences
missing-none parts state = refl

module _ (parts : TaskParts) (state : State) (found before all : List Tree) (condition : Tree) (more : all ≡ before ++ condition ∷ []) (so_far : found ≡ missing parts state before) where
  split : missing parts state all ≡ first_occurrences tree_eq (filter (λ c. not (holds parts state [] c)) before ++ cond (not (holds parts state [] condition)) (condition ∷ []) [])
  split =
      ap (missing parts state) more
      ∙ ap (first_occurrences tree_eq) (filter-append (λ c. not (holds parts state [] c)) before (condition ∷ []))

  -- one that holds is not missing
  pub missing-more_holds : holds parts state [] condition ≡ true → found ≡ missing parts state all
  missing-more_holds h =
      so_far
      ∙ ap (first_occurrences tree_eq) (sym (append-nil (filter (λ c. not (holds parts state [] c)) before)))
      ∙ ap (λ b. first_occurrences tree_eq (filter (λ c. not (holds parts state [] c)) before ++ cond (not b) (condition ∷ []) [])) (sym h)
      ∙ sym split

  -- one that fails goes last, unless it is there
  pub missing-more_fails : holds parts state [] condition ≡ false → insert_key tree_eq found condition ≡ missing parts state all
  missing-more_fails h =
      ap (λ l. insert_key tree_eq l condition) so_far
      ∙ sym (first_occurrences-push tree_equivalence (filter (λ c. not (holds parts state [] c)) before) condition)
      ∙ ap (λ b. first_occurrences tree_eq (filter (λ c. not (holds parts state [] c)) before ++ cond (not b) (condition ∷ []) [])) (sym h)
      ∙ sym split

-- a formula with objects for its parameters holds where the formula does with these objects
pub grounded_holds : (parts : TaskParts) (state : State) (objects : List ℕ) (tree : Tree) → holds parts state [] (with_objects objects [] tree) ≡ holds parts state objects tree
grounded_holds parts state objects tree = grounded_means (objects_of parts) state objects [] [] tree

-- formulas with no objects put in are the same formulas
pub none_put_in : (trees : List Tree) → map (with_objects [] []) trees ≡ trees
none_put_in [] = refl
none_put_in (tree ∷ trees) = λ j. with_nothing tree j ∷ none_put_in trees j

or_assoc : (a b c : Bool) → (a || (b || (c || false))) ≡ ((a || b) || (c || false))
or_assoc true b c = refl
or_assoc false b c = refl

and_not : (a b c : Bool) → (a && not (b || (c || false))) ≡ ((a && not b) && not (c || false))
and_not true true c = refl
and_not true false c = refl
and_not false true c = refl
and_not false false c = refl

module _ (start state next : State) (before all : List Atom) (atom : Atom) (more : all ≡ before ++ atom ∷ []) where
  in_all : (other : Atom) → is_in all other ≡ (is_in before other || (atom_eq other atom || false))
  in_all other = ap (λ l. is_in l other) more ∙ list_any-append (atom_eq other) before (atom ∷ [])

  -- one atom more is deleted
  pub without-more : state ≡ without start before → next ≡ without state (atom ∷ []) → next ≡ without start all
  without-more so_far step =
      step ∙ fun_ext (λ other.
      ap (λ s. s other && not (atom_eq other atom || false)) so_far
      ∙ sym (and_not (start other) (is_in before other) (atom_eq other atom))
      ∙ ap (λ b. start other && not b) (sym (in_all other)))

  -- one atom more is added
  pub with_all-more : state ≡ with_all start before → next ≡ with_all state (atom ∷ []) → next ≡ with_all start all
  with_all-more so_far step =
      step ∙ fun_ext (λ other.
      ap (λ s. s other || (atom_eq other atom || false)) so_far
      ∙ sym (or_assoc (start other) (is_in before other) (atom_eq other atom))
      ∙ ap (λ b. start other || b) (sym (in_all other)))

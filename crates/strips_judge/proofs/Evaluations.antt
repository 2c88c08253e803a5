-- What a formula says of its parts, where code sees them as lists, and what a quantifier says of one variable after the other.

use Rattle.std.proofs.Common.{◌≡◌, ℕ, ◌+◌, ◌<◌, ◌≤◌, zero, suc, Bool, true, false, cond, not, ◌&&◌, ◌||◌, List, [], ◌∷◌, ◌++◌, Some, None, All, refl, sym, ap, ◌∙◌, subst, drop, length, filter, slice_get, get_or, arith}
use Rattle.std.proofs.lemmas.List.{drop_all}
use Rattle.std.proofs.lemmas.List.Elements.{All-nil, All-cons}
use Rattle.std.proofs.lemmas.Option.{get_or_from_slice_get}
use Rattle.std.specs.Bool.{beq}
use Rattle.std.specs.List.{flat_map, list_all, list_any}
use Rattle.formulas.specs.declared.variables.VariableGroup.{VariableGroup}
use Rattle.formulas.specs.Tree.{Tree, conjunction, disjunction, for_all, parts_of}
use Rattle.formulas.specs.Variables.{variable_types, extensions}
use Rattle.formulas.specs.Within.{IsWithin, AreWithin}
use Rattle.formulas.proofs.Parts.{all_parts, some_part}
use Rattle.strips_task.specs.declared.tasks.TaskParts.{TaskParts}
use Rattle.strips_judge.specs.Choices.{holds_bound, some_is, some_choice_gives}
use Rattle.strips_judge.specs.Fitting.{object_fits}
use Rattle.strips_judge.specs.NumberedState.{Numbered, state_of}
use Rattle.strips_judge.specs.State.{State, objects_of}
use Rattle.strips_judge.proofs.Searches.{any_here, any_later}

-- the parts of a formula name the parameters and variables that it may name
pub parts_within : (params bound : ℕ) (trees : List Tree) → AreWithin params bound (parts_of trees) → All (IsWithin params bound) trees
parts_within params bound [] h = All-nil (IsWithin params bound)
parts_within params bound (tree ∷ trees) h = All-cons (IsWithin params bound) tree trees h.0 (parts_within params bound trees h.1)

module _ {X : Type 0} (p : X → Bool) where
  -- none of these is false exactly where all are true
  pub none_false : (xs : List X) → not (list_any (λ x. beq (p x) false) xs) ≡ list_all p xs
  none_false [] = refl
  none_false (x ∷ xs) = by (p x) (none_false xs)
    where
      by : (b : Bool) → not (list_any (λ y. beq (p y) false) xs) ≡ list_all p xs → not (beq b false || list_any (λ y. beq (p y) false) xs) ≡ (b && list_all p xs)
      by true rest = rest
      by false rest = refl

  -- one of these is true
  pub some_true : (xs : List X) → list_any (λ x. beq (p x) true) xs ≡ list_any p xs
  some_true [] = refl
  some_true (x ∷ xs) = by (p x) (some_true xs)
    where
      by : (b : Bool) → list_any (λ y. beq (p y) true) xs ≡ list_any p xs → (beq b true || list_any (λ y. beq (p y) true) xs) ≡ (b || list_any p xs)
      by true rest = refl
      by false rest = rest

  -- one of the lists that these become has an item that passes
  pub any_flat_map : {Y : Type 0} (f : Y → List X) (ys : List Y) → list_any p (flat_map f ys) ≡ list_any (λ y. list_any p (f y)) ys
  any_flat_map f [] = refl
  any_flat_map f (y ∷ ys) = any_append (f y) (flat_map f ys) ∙ ap (λ b. list_any p (f y) || b) (any_flat_map f ys)
    where
      or_assoc : (a b c : Bool) → ((a || b) || c) ≡ (a || (b || c))
      or_assoc true b c = refl
      or_assoc false b c = refl

      any_append : (xs others : List X) → list_any p (xs ++ others) ≡ (list_any p xs || list_any p others)
      any_append [] others = refl
      any_append (x ∷ xs) others = ap (λ b. p x || b) (any_append xs others) ∙ sym (or_assoc (p x) (list_any p xs) (list_any p others))

  -- one of those that are kept passes
  pub any_kept : (keep : X → Bool) (xs : List X) → list_any p (filter keep xs) ≡ list_any (λ x. keep x && p x) xs
  any_kept keep [] = refl
  any_kept keep (x ∷ xs) = by (keep x) (any_kept keep xs)
    where
      by : (k : Bool) → list_any p (filter keep xs) ≡ list_any (λ y. keep y && p y) xs → list_any p (cond k (x ∷ filter keep xs) (filter keep xs)) ≡ ((k && p x) || list_any (λ y. keep y && p y) xs)
      by true rest = ap (λ b. p x || b) rest
      by false rest = rest

module _ (parts : TaskParts) (state : State) (arguments bound : List ℕ) where
  -- a conjunction holds unless one of its parts is false
  pub conjunction_is : (whole : Tree) (trees these : List Tree) (answer : Bool) → whole ≡ conjunction (parts_of trees) → these ≡ trees
      → answer ≡ some_is parts state arguments false bound these → not answer ≡ holds_bound parts state arguments bound whole
  conjunction_is whole trees these answer is same e =
      ap not (e ∙ ap (some_is parts state arguments false bound) same)
      ∙ none_false (holds_bound parts state arguments bound) trees
      ∙ sym (all_parts (objects_of parts) state arguments bound trees)
      ∙ ap (holds_bound parts state arguments bound) (sym is)

  -- a disjunction holds if one of its parts is true
  pub disjunction_is : (whole : Tree) (trees these : List Tree) (answer : Bool) → whole ≡ disjunction (parts_of trees) → these ≡ trees
      → answer ≡ some_is parts state arguments true bound these → answer ≡ holds_bound parts state arguments bound whole
  disjunction_is whole trees these answer is same e =
      e ∙ ap (some_is parts state arguments true bound) same
      ∙ some_true (holds_bound parts state arguments bound) trees
      ∙ sym (some_part (objects_of parts) state arguments bound trees)
      ∙ ap (holds_bound parts state arguments bound) (sym is)

  -- `forall` holds unless its body is false for some choice
  pub all_is : (whole body this : Tree) (groups these : List VariableGroup) (answer : Bool) → whole ≡ for_all groups body → this ≡ body → these ≡ groups
      → answer ≡ some_choice_gives parts state arguments false this (variable_types these) bound → not answer ≡ holds_bound parts state arguments bound whole
  all_is whole body this groups these answer is same_body same e =
      ap not (e ∙ (λ j. some_choice_gives parts state arguments false (same_body j) (variable_types (same j)) bound))
      ∙ none_false (λ extended. holds_bound parts state arguments extended body) (extensions (objects_of parts) (variable_types groups) bound)
      ∙ ap (holds_bound parts state arguments bound) (sym is)

module _ (parts : TaskParts) (state : State) (arguments : List ℕ) (truth : Bool) (body : Tree) where
  -- without variables there is one choice
  pub no_variables : (bound : List ℕ) → some_choice_gives parts state arguments truth body [] bound ≡ beq (holds_bound parts state arguments bound body) truth
  no_variables bound = by (beq (holds_bound parts state arguments bound body) truth)
    where
      by : (b : Bool) → (b || false) ≡ b
      by true = refl
      by false = refl

  -- a choice is one of an object for the first variable, and one for the others
  pub first_variable : (types : List ℕ) (variables : List (List ℕ)) (bound : List ℕ) → some_choice_gives parts state arguments truth body (types ∷ variables) bound
      ≡ list_any (λ object. some_choice_gives parts state arguments truth body variables (bound ++ object ∷ [])) (objects_of parts types)
  first_variable types variables bound =
      any_flat_map (λ extended. beq (holds_bound parts state arguments extended body) truth) (λ object. extensions (objects_of parts) variables (bound ++ object ∷ [])) (objects_of parts types)

module _ {X : Type 0} where
  -- what is left of a list from an index on
  pub drop_at : (xs : List X) (i : ℕ) (x : X) → slice_get xs i ≡ Some x → drop i xs ≡ x ∷ drop (i + 1) xs
  drop_at xs i x at = drop_from xs i x at ∙ ap (λ n. x ∷ drop n xs) (let e : suc i ≡ i + 1 = omega arith in e)
    where
      drop_from : (xs : List X) (i : ℕ) (x : X) → slice_get xs i ≡ Some x → drop i xs ≡ x ∷ drop (suc i) xs
      drop_from [] i x at = cc
      drop_from (y ∷ ys) zero x at = let same : y ≡ x = cc in ap (λ z. z ∷ ys) same
      drop_from (y ∷ ys) (suc i) x at = drop_from ys i x at

  pub drop_past : (xs : List X) (i : ℕ) → slice_get xs i ≡ None → drop i xs ≡ []
  drop_past [] zero past = refl
  drop_past [] (suc i) past = refl
  drop_past (x ∷ xs) zero past = cc
  drop_past (x ∷ xs) (suc i) past = drop_past xs i past

module _ (params bound : ℕ) where
  pub conjunction_within : (whole : Tree) (trees these : List Tree) → whole ≡ conjunction (parts_of trees) → these ≡ trees → IsWithin params bound whole → All (IsWithin params bound) these
  conjunction_within whole trees these is same h = subst (All (IsWithin params bound)) (sym same) (parts_within params bound trees (subst (IsWithin params bound) is h))

  pub disjunction_within : (whole : Tree) (trees these : List Tree) → whole ≡ disjunction (parts_of trees) → these ≡ trees → IsWithin params bound whole → All (IsWithin params bound) these
  disjunction_within whole trees these is same h = subst (All (IsWithin params bound)) (sym same) (parts_within params bound trees (subst (IsWithin params bound) is h))

  -- a part of a list
  pub part_within : (trees : List Tree) (i : ℕ) (tree : Tree) (now : ℕ) → i < length trees → tree ≡ get_or trees i tree → now ≡ bound → All (IsWithin params bound) trees → IsWithin params now tree
  part_within trees i tree now lt is same h = subst (λ n. IsWithin params n tree) (sym same) (subst (IsWithin params bound) (sym is) (h i tree lt))

  module _ (variables : List (List ℕ)) (first : ℕ) (body : Tree) where
    -- with one variable more bound, one less is left
    pub one_less_left : (types : List ℕ) → slice_get variables first ≡ Some types → length (drop first variables) ≡ length (drop (first + 1) variables) + 1
    one_less_left types at = ap length (drop_at variables first types at) ∙ (let e : suc (length (drop (first + 1) variables)) ≡ length (drop (first + 1) variables) + 1 = omega arith in e)

    pub next_within : (types : List ℕ) → slice_get variables first ≡ Some types → IsWithin params (bound + length (drop first variables)) body
        → IsWithin params (bound + 1 + length (drop (first + 1) variables)) body
    next_within types at h =
        subst (λ n. IsWithin params n body)
        (let e : bound + length (drop first variables) ≡ bound + 1 + length (drop (first + 1) variables) = omega (arith, one_less_left types at) in e)
        h

    -- with all of them bound, none is left
    pub all_within : slice_get variables first ≡ None → IsWithin params (bound + length (drop first variables)) body → IsWithin params bound body
    all_within none h =
        subst (λ n. IsWithin params n body)
        (let e : bound + length (drop first variables) ≡ bound = omega (arith, ap length (drop_past variables first none)) in e)
        h

-- an object that fits and gives what is asked, or one that does not
module _ (parts : TaskParts) (arguments : List ℕ) (truth : Bool) (body : Tree) (variables : List (List ℕ)) (object : ℕ) where
  -- the state and the objects that are bound are those at the start
  pub gives_now : (start state : Numbered) (old now : List ℕ) → state ≡ start → now ≡ old → {answer value : Bool}
      → answer ≡ some_choice_gives parts (state_of state) arguments truth body variables (now ++ object ∷ []) → answer ≡ value
      → some_choice_gives parts (state_of start) arguments truth body variables (old ++ object ∷ []) ≡ value
  gives_now start state old now is same e found =
      (λ j. some_choice_gives parts (state_of (sym is j)) arguments truth body variables (sym same j ++ object ∷ [])) ∙ sym e ∙ found

module _ (parts : TaskParts) (state : State) (arguments : List ℕ) (truth : Bool) (body : Tree) (variables : List (List ℕ)) (bound types : List ℕ) where
  abbrev gives : ℕ → Bool
  gives object = some_choice_gives parts state arguments truth body variables (bound ++ object ∷ [])

  -- an object fits, and gives what is asked
  abbrev pub fits_and_gives : ℕ → Bool
  fits_and_gives object = object_fits parts types object && gives object

  -- the objects are looked for among others
  module _ (candidates : List ℕ) (all : filter (object_fits parts types) candidates ≡ objects_of parts types) (i : ℕ) (so_far : list_any fits_and_gives candidates ≡ list_any fits_and_gives (drop i candidates)) where
    module _ (object : ℕ) (lt : i < length candidates) (at : slice_get candidates i ≡ Some object) where
      is : object ≡ get_or candidates i object
      is = sym (get_or_from_slice_get candidates i object object at)

      pub object_found : object_fits parts types object ≡ true → gives object ≡ true → list_any gives (objects_of parts types) ≡ true
      object_found fit found =
          ap (list_any gives) (sym all)
          ∙ any_kept gives (object_fits parts types) candidates
          ∙ so_far
          ∙ any_here fits_and_gives candidates i object lt is (ap (λ b. b && gives object) fit ∙ found)

      pub object_unfit : object_fits parts types object ≡ false → list_any fits_and_gives candidates ≡ list_any fits_and_gives (drop (i + 1) candidates)
      object_unfit unfit = so_far ∙ any_later fits_and_gives candidates i object lt is (ap (λ b. b && gives object) unfit)

      pub object_otherwise : gives object ≡ false → list_any fits_and_gives candidates ≡ list_any fits_and_gives (drop (i + 1) candidates)
      object_otherwise otherwise = so_far ∙ any_later fits_and_gives candidates i object lt is (ap (λ b. object_fits parts types object && b) otherwise ∙ and_false (object_fits parts types object))
        where
          and_false : (b : Bool) → (b && false) ≡ false
          and_false true = refl
          and_false false = refl

    pub no_object : length candidates ≤ i → list_any gives (objects_of parts types) ≡ false
    no_object past =
        ap (list_any gives) (sym all)
        ∙ any_kept gives (object_fits parts types) candidates
        ∙ so_far
        ∙ ap (list_any fits_and_gives) (drop_all i candidates past)

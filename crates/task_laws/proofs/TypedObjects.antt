-- Objects for the variables that are bound: each has one of the types of its variable.

use Rattle.std.proofs.Common.{◌≡◌, ℕ, zero, suc, ◌+◌, ◌<◌, ◌≤◌, Bool, true, false, cond, ◌&&◌, nat_lt, List, [], ◌∷◌, ◌++◌, Some, length, filter, slice_get, slice_index, refl, ap, sym, ◌∙◌, subst, append-nil, append_assoc, arith, true≢false}
use Rattle.std.proofs.lemmas.Bool.{lt-ltb, ltb-true}
use Rattle.std.specs.List.{list_all, range_with_len}
use Rattle.formulas.specs.Variables.{extensions}
use Rattle.strips_task.specs.declared.tasks.TaskParts.{TaskParts}
use Rattle.strips_task.proofs.AtomEquality.{both_hold}
use Rattle.strips_judge.specs.Fitting.{object_fits}
use Rattle.strips_judge.specs.State.{objects_of}
use Rattle.task_laws.proofs.ListLemmas.{list_all-flat_map}

-- what is kept of a range is in the range
kept_in_range : (test : ℕ → Bool) (total start count : ℕ) → start + count ≤ total → list_all (λ n. nat_lt n total && test n) (filter test (range_with_len start count)) ≡ true
kept_in_range test total start zero within = refl
kept_in_range test total start (suc count) within = by (test start) refl (kept_in_range test total (start + 1) count (let next : start + suc count ≤ total = within in omega arith))
  where
    others : List ℕ
    others = filter test (range_with_len (start + 1) count)

    by : (kept : Bool) → test start ≡ kept → list_all (λ n. nat_lt n total && test n) others ≡ true → list_all (λ n. nat_lt n total && test n) (cond kept (start ∷ others) others) ≡ true
    by true e rest = let less = lt-ltb start total (let next : start + suc count ≤ total = within in omega arith) in λ j. (less j && e j) && rest j
    by false e rest = rest

module _ (parts : TaskParts) where
  -- whether this is an object of the task that a variable of these types may stand for
  abbrev pub is_typed : List ℕ → ℕ → Bool
  is_typed types object = nat_lt object (length parts.objects) && object_fits parts types object

  -- whether there is such an object for each variable
  abbrev pub are_typed : List (List ℕ) → List ℕ → Bool
  are_typed [] [] = true
  are_typed (types ∷ variables) (object ∷ objects) = is_typed types object && are_typed variables objects
  are_typed variables objects = false

  typed_behind : (variables later : List (List ℕ)) (objects more : List ℕ) → are_typed variables objects ≡ true → are_typed later more ≡ true → are_typed (variables ++ later) (objects ++ more) ≡ true
  typed_behind [] later [] more typed rest = rest
  typed_behind [] later (object ∷ objects) more typed rest = absurd (true≢false (sym typed))
  typed_behind (types ∷ variables) later [] more typed rest = absurd (true≢false (sym typed))
  typed_behind (types ∷ variables) later (object ∷ objects) more typed rest =
      let both = both_hold (is_typed types object) (are_typed variables objects) typed in
      λ j. both.0 j && typed_behind variables later objects more both.1 rest j

  -- every choice of objects for variables has objects of their types
  pub typed_choices : (variables bound : List (List ℕ)) (objects : List ℕ) → are_typed bound objects ≡ true → list_all (are_typed (bound ++ variables)) (extensions (objects_of parts) variables objects) ≡ true
  typed_choices [] bound objects typed = (λ j. are_typed (append-nil bound j) objects && true) ∙ ap (λ b. b && true) typed
  typed_choices (types ∷ variables) bound objects typed =
      list_all-flat_map (is_typed types) (are_typed (bound ++ types ∷ variables)) (λ object. extensions (objects_of parts) variables (objects ++ object ∷ []))
      (λ object fits.
      subst (λ all. list_all (are_typed all) (extensions (objects_of parts) variables (objects ++ object ∷ [])) ≡ true) (append_assoc bound (types ∷ []) variables)
      (typed_choices variables (bound ++ types ∷ []) (objects ++ object ∷ []) (typed_behind bound (types ∷ []) objects (object ∷ []) typed (ap (λ b. b && true) fits))))
      (objects_of parts types) (kept_in_range (object_fits parts types) (length parts.objects) 0 (length parts.objects) (omega arith))

  -- the object for a variable, by its level
  pub typed_at : (variables : List (List ℕ)) (objects : List ℕ) (level : ℕ) → are_typed variables objects ≡ true → level < length variables
      → (nat_lt level (length objects) ≡ true) × (nat_lt (slice_index objects level) (length parts.objects) ≡ true)
      × ((types : List ℕ) → slice_get variables level ≡ Some types → object_fits parts types (slice_index objects level) ≡ true)
  typed_at [] objects level typed known = absurd (omega arith)
  typed_at (types ∷ variables) [] level typed known = absurd (true≢false (sym typed))
  typed_at (types ∷ variables) (object ∷ objects) zero typed known =
      let both = both_hold (is_typed types object) (are_typed variables objects) typed in
      let fits = both_hold (nat_lt object (length parts.objects)) (object_fits parts types object) both.0 in
      (lt-ltb 0 (length (object ∷ objects)) (omega arith), fits.0, λ own e. let same : types ≡ own = cc in ap (λ t. object_fits parts t object) (sym same) ∙ fits.1)
  typed_at (types ∷ variables) (object ∷ objects) (suc level) typed known =
      let both = both_hold (is_typed types object) (are_typed variables objects) typed in
      let (within, is_object, fits) = typed_at variables objects level both.1 (let less : suc level < suc (length variables) = known in omega arith) in
      (lt-ltb (suc level) (suc (length objects)) (let less : level < length objects = ltb-true level (length objects) within in omega arith), is_object, fits)

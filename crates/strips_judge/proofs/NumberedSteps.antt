-- Steps by numbers: one word more, and what the numbers of all words say of a step.

use Rattle.std.proofs.Common.{◌≡◌, ◌<◌, ◌+◌, ℕ, suc, Bool, false, cond, List, [], ◌∷◌, ◌++◌, Some, None, All, refl, ap, sym, ◌∙◌, length, map, is_none, slice_get, option_map, option_and_then, arith, true≢false, eq-eqb}
use Rattle.std.specs.List.{position_from, cons_option, zip}
use Rattle.std.specs.Map.{keys_of, values_of}
use Rattle.std.specs.Option.{option_or}
use Rattle.std.specs.Str.{bytes_eq}
use Rattle.std.proofs.lemmas.List.Elements.{All-nil, All-cons}
use Rattle.pddl_words.specs.Words.{folded}
use Rattle.strips_task.specs.declared.actions.Action.{Action}
use Rattle.strips_task.specs.declared.steps.StepText.{StepText}
use Rattle.strips_task.specs.declared.tasks.TaskParts.{TaskParts}
use Rattle.strips_task.specs.Names.{number_named}
use Rattle.strips_task.specs.Steps.{step_of}
use Rattle.strips_task.proofs.NamedRows.{none_yet}
use Rattle.strips_judge.specs.declared.verdict.Why.TheVariants.{WrongCount, UnknownObject, WrongType}
use Rattle.strips_judge.specs.Step.{action_named, objects_named, is_unknown, is_ill_typed, fault, fault_by}
use Rattle.strips_judge.specs.StepNumbers.{number_by, numbers_named, IsNumbered, AreWithin}
use Rattle.strips_task.proofs.Numbering.{index-lt}

module _ (parts : TaskParts) where
  -- one word more has one number more
  pub numbered_more : (words : List (List ℕ)) (numbers : List ℕ) (word : List ℕ) (number : ℕ) → numbers_named parts (map folded words) ≡ map Some numbers
      → number_by parts (none_yet numbers) (folded word) ≡ Some number → numbers_named parts (map folded (words ++ word ∷ [])) ≡ map Some (numbers ++ number ∷ [])
  numbered_more [] [] word number so_far is = ap (λ o. o ∷ []) is
  numbered_more [] (first ∷ numbers) word number so_far is = cc
  numbered_more (action ∷ words) [] word number so_far is = cc
  numbered_more (action ∷ words) (first ∷ numbers) word number so_far is =
      let head : number_named parts.actions (folded action) ≡ Some first = cc in
      let rest : map (number_named parts.objects) (map folded words) ≡ map Some numbers = cc in
      (λ j. head j ∷ objects_more words numbers rest j)
    where
      objects_more : (words : List (List ℕ)) (numbers : List ℕ) → map (number_named parts.objects) (map folded words) ≡ map Some numbers
          → map (number_named parts.objects) (map folded (words ++ word ∷ [])) ≡ map Some (numbers ++ number ∷ [])
      objects_more [] [] e = ap (λ o. o ∷ []) is
      objects_more [] (n ∷ ns) e = cc
      objects_more (w ∷ ws) [] e = cc
      objects_more (w ∷ ws) (n ∷ ns) e =
          let head : number_named parts.objects (folded w) ≡ Some n = cc in
          let rest : map (number_named parts.objects) (map folded ws) ≡ map Some ns = cc in
          (λ j. head j ∷ objects_more ws ns rest j)

  -- numbers are below how many entries there are
  named_within : {V : Type 0} (entries : List (List ℕ × V)) (word : List ℕ) (number : ℕ) → number_named entries word ≡ Some number → number < length entries
  unfolding number_named
  named_within entries word number is =
      let same : length (keys_of entries) ≡ length entries = keys_length entries in
      omega (arith, same, index-lt (bytes_eq word) 0 number (keys_of entries) is)
    where
      keys_length : {V : Type 0} (entries : List (List ℕ × V)) → length (keys_of entries) ≡ length entries
      keys_length [] = refl
      keys_length (entry ∷ entries) = ap suc (keys_length entries)

  objects_within : (args : List (List ℕ)) (objects : List ℕ) → map (number_named parts.objects) args ≡ map Some objects → All (λ o. o < length parts.objects) objects
  objects_within [] [] e = All-nil (λ o. o < length parts.objects)
  objects_within [] (o ∷ os) e = cc
  objects_within (w ∷ ws) [] e = cc
  objects_within (w ∷ ws) (o ∷ os) e =
      let head : number_named parts.objects w ≡ Some o = cc in
      let rest : map (number_named parts.objects) ws ≡ map Some os = cc in
      All-cons (λ o. o < length parts.objects) o os (named_within parts.objects w o head) (objects_within ws os rest)

  -- the numbers of words are those of an action and of objects of the task
  pub numbered_within : (words : List (List ℕ)) (numbers : List ℕ) → numbers_named parts words ≡ map Some numbers → AreWithin parts numbers
  numbered_within [] [] e = tt
  numbered_within [] (n ∷ ns) e = cc
  numbered_within (w ∷ ws) [] e = cc
  numbered_within (w ∷ ws) (n ∷ ns) e =
      let head : number_named parts.actions w ≡ Some n = cc in
      let rest : map (number_named parts.objects) ws ≡ map Some ns = cc in
      (named_within parts.actions w n head, objects_within ws ns rest)

  -- the numbers of the words of a row are those of the step that it spells
  pub spelled_numbered : (words : List (List ℕ)) (numbers : List ℕ) → numbers_named parts (map folded words) ≡ map Some numbers → none_yet numbers ≡ false
      → IsNumbered parts (step_of (map folded words)) numbers
  unfolding step_of
  spelled_numbered [] [] named some = absurd (true≢false some)
  spelled_numbered [] (n ∷ ns) named some = cc
  spelled_numbered (w ∷ ws) numbers named some = named

  -- the objects that arguments name are those with these numbers, and each argument names one
  objects_are : (args : List (List ℕ)) (objects : List ℕ) → map (number_named parts.objects) args ≡ map Some objects → objects ≡ objects_named parts args
  objects_are [] [] e = refl
  objects_are [] (o ∷ os) e = cc
  objects_are (w ∷ ws) [] e = cc
  objects_are (w ∷ ws) (o ∷ os) e =
      let head : number_named parts.objects w ≡ Some o = cc in
      let rest : map (number_named parts.objects) ws ≡ map Some os = cc in
      ap (λ l. o ∷ l) (objects_are ws os rest) ∙ ap (λ x. cons_option x (objects_named parts ws)) (sym head)

  all_known : (args : List (List ℕ)) (objects : List ℕ) (k : ℕ) → map (number_named parts.objects) args ≡ map Some objects → position_from (is_unknown parts) k args ≡ None
  all_known [] objects k e = refl
  all_known (w ∷ ws) [] k e = cc
  all_known (w ∷ ws) (o ∷ os) k e =
      let head : number_named parts.objects w ≡ Some o = cc in
      let rest : map (number_named parts.objects) ws ≡ map Some os = cc in
      ap (λ x. cond (is_none x) (Some k) (position_from (is_unknown parts) (k + 1) ws)) head ∙ all_known ws os (k + 1) rest

  as_many : (args : List (List ℕ)) (objects : List ℕ) → map (number_named parts.objects) args ≡ map Some objects → length args ≡ length objects
  as_many [] [] e = refl
  as_many [] (o ∷ os) e = cc
  as_many (w ∷ ws) [] e = cc
  as_many (w ∷ ws) (o ∷ os) e = let rest : map (number_named parts.objects) ws ≡ map Some os = cc in ap suc (as_many ws os rest)

  module _ (step : StepText) (number : ℕ) (objects : List ℕ) (is : IsNumbered parts step (number ∷ objects)) where
    args_are : map (number_named parts.objects) step.args ≡ map Some objects
    args_are = cc

    -- the numbers' objects are the step's
    pub bound_objects : objects ≡ objects_named parts step.args
    bound_objects = objects_are step.args objects args_are

    module _ (action : Action) (at : slice_get (values_of parts.actions) number ≡ Some action) where
      -- the number's action is the step's
      pub bound_action : action_named parts step.action ≡ Some action
      bound_action = let head : number_named parts.actions step.action ≡ Some number = cc in ap (option_and_then (slice_get (values_of parts.actions))) head ∙ at

      -- a step with the right number of objects has no other fault than an object that does not fit
      pub bound_fault : length objects ≡ length action.params → fault parts step ≡ option_map WrongType (position_from (is_ill_typed parts) 1 (zip action.params objects))
      bound_fault count =
          ap (λ a. fault_by parts a step.args) bound_action
          ∙ ap (λ (b : Bool). cond b (option_or (option_map UnknownObject (position_from (is_unknown parts) 1 step.args)) (option_map WrongType (position_from (is_ill_typed parts) 1 (zip action.params (objects_named parts step.args))))) (Some WrongCount))
          (eq-eqb (length step.args) (length action.params) (as_many step.args objects args_are ∙ count))
          ∙ ap (λ o. option_or (option_map UnknownObject o) (option_map WrongType (position_from (is_ill_typed parts) 1 (zip action.params (objects_named parts step.args))))) (all_known step.args objects 1 args_are)
          ∙ ap (λ l. option_map WrongType (position_from (is_ill_typed parts) 1 (zip action.params l))) (sym bound_objects)

      -- a step with the right number of objects, each of which fits, has no fault
      pub bound_faultless : length objects ≡ length action.params → position_from (is_ill_typed parts) 1 (zip action.params objects) ≡ None → fault parts step ≡ None
      bound_faultless count fits = bound_fault count ∙ ap (option_map WrongType) fits

-- What is known of the arguments of a step that were looked at so far.

use Rattle.std.proofs.Common.{◌≡◌, ℕ, ◌+◌, ◌<◌, List, [], ◌∷◌, ◌++◌, Some, None, All, is_none, length, take, drop, get_or, ap, sym, ◌∙◌, length-append, subst}
use Rattle.std.specs.List.{position_from, cons_option}
use Rattle.std.proofs.lemmas.List.Elements.{filter_map-append, All-push}
use Rattle.strips_task.specs.declared.tasks.TaskParts.{TaskParts}
use Rattle.strips_task.specs.Names.{number_named}
use Rattle.strips_judge.specs.Step.{is_unknown, objects_named}
use Rattle.strips_judge.proofs.Searches.{index_here, index_later}
use Rattle.strips_judge.proofs.StepLaws.{taken_more}

-- the first so many arguments are known, and these are their objects
pub record Bound (parts : TaskParts) (args : List (List ℕ)) (objects : List ℕ) (index : ℕ) : Type 0 where
  pub unknown : position_from (is_unknown parts) 1 args ≡ position_from (is_unknown parts) (index + 1) (drop index args)
  pub named : objects ≡ objects_named parts (take index args)
  pub count : length objects ≡ index
  pub known : All (λ object. object < length parts.objects) objects

module _ (parts : TaskParts) (args : List (List ℕ)) (objects : List ℕ) (index : ℕ) (word : List ℕ) (lt : index < length args) (is : word ≡ get_or args index word) (bound : Bound parts args objects index) where
  -- an argument that names no object ends the search
  pub unknown_here : number_named parts.objects word ≡ None → position_from (is_unknown parts) 1 args ≡ Some (index + 1)
  unknown_here h = bound.unknown ∙ index_here (is_unknown parts) args index word lt is (index + 1) (ap is_none h)

  -- one that names an object binds one parameter more
  pub bound_more : (object : ℕ) (new : List ℕ) → number_named parts.objects word ≡ Some object → object < length parts.objects → new ≡ objects ++ object ∷ [] → Bound parts args new (index + 1)
  bound_more object new h within pushed =
      record {
        unknown = bound.unknown ∙ index_later (is_unknown parts) args index word lt is (index + 1) (ap is_none h);
        named = pushed
            ∙ (λ j. bound.named j ++ cons_option (sym h j) [])
            ∙ sym (filter_map-append (number_named parts.objects) (take index args) (word ∷ []))
            ∙ ap (objects_named parts) (sym (taken_more args index word lt is));
        count = ap length pushed ∙ length-append objects (object ∷ []) ∙ ap (λ n. n + 1) bound.count;
        known = subst (All (λ o. o < length parts.objects)) (sym pushed) (All-push (λ o. o < length parts.objects) objects object bound.known within);
      }

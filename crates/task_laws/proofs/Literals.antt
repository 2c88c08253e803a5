-- Tasks of literals: what a step lacks, where it leads, and the verdict.

use Rattle.std.proofs.Common.{◌≡◌, ℕ, ◌+◌, Bool, true, false, not, cond, List, [], ◌∷◌, ◌++◌, Option, Some, None, All, filter, map, slice_get, option_and_then, refl, ap, ◌∙◌, append-nil}
use Rattle.std.proofs.lemmas.List.Elements.{All-nil, All-head, All-tail, All-cons}
use Rattle.std.specs.Map.{values_of}
use Rattle.std.specs.Option.{option_or}
use Rattle.formulas.specs.EffectTree.{EffectTree}
use Rattle.formulas.specs.Equality.{tree_eq}
use Rattle.formulas.specs.Grounding.{with_objects}
use Rattle.formulas.specs.Tree.{Tree, atom, equality}
use Rattle.strips_task.specs.declared.actions.Action.{Action}
use Rattle.strips_task.specs.declared.plans.Plan.{Plan}
use Rattle.strips_task.specs.declared.plans.Plan.TheVariants.{Steps, Unreadable}
use Rattle.strips_task.specs.declared.steps.StepText.{StepText}
use Rattle.strips_task.specs.declared.tasks.TaskParts.{TaskParts}
use Rattle.strips_task.specs.FirstOccurrences.{first_occurrences}
use Rattle.strips_task.specs.Names.{number_named}
use Rattle.strips_judge.specs.Grounding.{ground}
use Rattle.strips_judge.specs.State.{State, is_in, holds, after_effects}
use Rattle.strips_judge.specs.Step.{action_named, objects_named, fault, precondition, conditions_by, changed_by, after_by, after, missing, missing_why}
use Rattle.strips_judge.specs.Verdict.{goal_verdict, step_verdict, verdict_from}
use Rattle.task_laws.specs.Laws.{LackLiterals, StepsDeleteAndAdd, LiteralsAreJudgedAsStrips}
use Rattle.task_laws.specs.Literals.{IsLiteral, IsStripsAction, IsOfLiterals, is_satisfied, unsatisfied, strips_after_by, strips_after, strips_verdict_from}
use Rattle.task_laws.proofs.ListLemmas.{all_at}

literal_stays : (objects : List ℕ) (tree : Tree) → IsLiteral tree → IsLiteral (with_objects objects [] tree)
literal_stays objects (atom positive pattern) literal = tt
literal_stays objects (equality positive left right) literal = tt
literal_stays objects tree literal = absurd literal

literals_stay : (objects : List ℕ) (trees : List Tree) → All IsLiteral trees → All IsLiteral (map (with_objects objects []) trees)
literals_stay objects [] literals = All-nil IsLiteral
literals_stay objects (tree ∷ trees) literals =
    All-cons IsLiteral (with_objects objects [] tree) (map (with_objects objects []) trees)
    (literal_stays objects tree (All-head IsLiteral tree trees literals)) (literals_stay objects trees (All-tail IsLiteral tree trees literals))

module _ (parts : TaskParts) where
  literal_holds : (state : State) (tree : Tree) → IsLiteral tree → holds parts state [] tree ≡ is_satisfied state tree
  literal_holds state (atom true pattern) literal = refl
  literal_holds state (atom false pattern) literal = refl
  literal_holds state (equality true left right) literal = refl
  literal_holds state (equality false left right) literal = refl
  literal_holds state tree literal = absurd literal

  fail_alike : (state : State) (trees : List Tree) → All IsLiteral trees → filter (λ tree. not (holds parts state [] tree)) trees ≡ filter (λ tree. not (is_satisfied state tree)) trees
  fail_alike state [] literals = refl
  fail_alike state (tree ∷ trees) literals =
      let same = literal_holds state tree (All-head IsLiteral tree trees literals) in
      let others = fail_alike state trees (All-tail IsLiteral tree trees literals) in
      λ j. cond (not (same j)) (tree ∷ others j) (others j)

  lack_alike : (state : State) (trees : List Tree) → All IsLiteral trees → missing parts state trees ≡ unsatisfied state trees
  lack_alike state trees literals = ap (first_occurrences tree_eq) (fail_alike state trees literals)

  module _ (task : IsOfLiterals parts) where
    -- an action that a word names is one of STRIPS
    strips_action : (word : List ℕ) (action : Action) → action_named parts word ≡ Some action → IsStripsAction action
    strips_action word action = by (number_named parts.actions word)
      where
        by : (number : Option ℕ) → option_and_then (slice_get (values_of parts.actions)) number ≡ Some action → IsStripsAction action
        by None e = cc
        by (Some number) e = all_at IsStripsAction (values_of parts.actions) number action task.strips_actions e

    literal_conditions : (step : StepText) → All IsLiteral (precondition parts step)
    literal_conditions step = by (action_named parts step.action) (strips_action step.action)
      where
        by : (found : Option Action) → ((action : Action) → found ≡ Some action → IsStripsAction action) → All IsLiteral (conditions_by (objects_named parts step.args) found)
        by None strips = All-nil IsLiteral
        by (Some action) strips = literals_stay (objects_named parts step.args) action.pre (strips action refl).literal_conditions

    step_lacks : (state : State) (step : StepText) → missing parts state (precondition parts step) ≡ unsatisfied state (precondition parts step)
    step_lacks state step = lack_alike state (precondition parts step) (literal_conditions step)

    -- without effects under `when` and `forall`, an action changes what it changes in any case
    sure_alone : (objects : List ℕ) (state : State) (truth : Bool) (effects : List EffectTree) → effects ≡ [] → changed_by parts objects state truth effects ≡ []
    sure_alone objects state truth effects none = ap (changed_by parts objects state truth) none

    step_leads : (state : State) (step : StepText) → after parts state step ≡ strips_after parts state step
    step_leads state step = by (action_named parts step.action) (strips_action step.action)
      where
        objects : List ℕ
        objects = objects_named parts step.args

        by : (found : Option Action) → ((action : Action) → found ≡ Some action → IsStripsAction action) → after_by parts objects state found ≡ strips_after_by objects state found
        by None strips = refl
        by (Some action) strips =
            let none = (strips action refl).sure_effects in
            (λ j. after_effects state (map (ground objects) action.del ++ sure_alone objects state false action.effects none j) (map (ground objects) action.add ++ sure_alone objects state true action.effects none j))
            ∙ (λ j. after_effects state (append-nil (map (ground objects) action.del) j) (append-nil (map (ground objects) action.add) j))

    judged_alike : (taken : ℕ) (state : State) (steps : List StepText) → verdict_from parts taken state steps ≡ strips_verdict_from parts taken state steps
    judged_alike taken state [] = ap (goal_verdict taken) (lack_alike state parts.goal task.literal_goal)
    judged_alike taken state (step ∷ steps) =
        (λ j. step_verdict (taken + 1) (option_or (fault parts step) (missing_why (step_lacks state step j))) (verdict_from parts (taken + 1) (step_leads state step j) steps))
        ∙ ap (step_verdict (taken + 1) (option_or (fault parts step) (missing_why (unsatisfied state (precondition parts step))))) (judged_alike (taken + 1) (strips_after parts state step) steps)

  pub lack_literals : LackLiterals parts
  lack_literals task state = (step_lacks task state, lack_alike state parts.goal task.literal_goal)

  pub steps_delete_and_add : StepsDeleteAndAdd parts
  steps_delete_and_add task state step = step_leads task state step

  pub literals_are_judged_as_strips : (plan : Plan) → LiteralsAreJudgedAsStrips parts plan
  literals_are_judged_as_strips (Steps steps) task = judged_alike task 0 (is_in parts.init) steps
  literals_are_judged_as_strips (Unreadable line) task = refl

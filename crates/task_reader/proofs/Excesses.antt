-- The first action that passes the limit, action by action.

use Rattle.std.proofs.Common.{◌≡◌, ℕ, ◌+◌, ◌≤◌, Option, None, Some, sym, ap, ◌∙◌, length, drop, slice_get, arith}
use Rattle.std.specs.Map.{values_of}
use Rattle.std.specs.Option.{option_map, option_or}
use Rattle.std.proofs.lemmas.List.{drop_all}
use Rattle.std.proofs.lemmas.Map.Entries.{length-values_of}
use Rattle.strips_task.specs.declared.actions.Action.{Action}
use Rattle.strips_task.specs.declared.tasks.TaskParts.{TaskParts}
use Rattle.task_reader.specs.declared.excess.Whose.TheVariants.{Action as OfAction}
use Rattle.task_reader.specs.Bindings.{action_quantifiers, excess, excess_from, excess_in, goal_excess, variable_past}
use Rattle.task_reader.proofs.Lists.{left_at}

module _ (task counted : TaskParts) (same : counted ≡ task) (number : ℕ)
    (so_far : excess_from task number (drop number (values_of task.actions)) ≡ excess_from task 0 (values_of task.actions)) where
  next : (action : Action) (past : Option ℕ) → slice_get (values_of task.actions) number ≡ Some action → past ≡ variable_past (action_quantifiers counted action)
      → option_or (option_map (excess_in (OfAction number)) past) (excess_from task (number + 1) (drop (number + 1) (values_of task.actions))) ≡ excess_from task 0 (values_of task.actions)
  next action past at is =
      ap (λ found. option_or (option_map (excess_in (OfAction number)) found) (excess_from task (number + 1) (drop (number + 1) (values_of task.actions))))
      (is ∙ ap (λ task. variable_past (action_quantifiers task action)) same)
      ∙ ap (excess_from task number) (sym (left_at (values_of task.actions) number action at))
      ∙ so_far

  -- this action passes it
  pub found : (action : Action) (variable : ℕ) → slice_get (values_of task.actions) number ≡ Some action → Some variable ≡ variable_past (action_quantifiers counted action)
      → Some (record { whose = OfAction number; variable = variable }) ≡ excess task
  unfolding excess excess_in
  found action variable at is = ap (λ actions. option_or actions (goal_excess task)) (next action (Some variable) at is)

  -- this action does not
  pub goes_on : (action : Action) → slice_get (values_of task.actions) number ≡ Some action → None ≡ variable_past (action_quantifiers counted action)
      → excess_from task (number + 1) (drop (number + 1) (values_of task.actions)) ≡ excess_from task 0 (values_of task.actions)
  goes_on action at is = next action None at is

  -- no action does
  pub none : length task.actions ≤ number → goal_excess counted ≡ excess task
  unfolding excess
  none past =
      ap goal_excess same
      ∙ ap (λ actions. option_or (excess_from task number actions) (goal_excess task))
      (sym (drop_all number (values_of task.actions) (let e : length (values_of task.actions) ≤ number = omega (arith, past, length-values_of task.actions) in e)))
      ∙ ap (λ actions. option_or actions (goal_excess task)) so_far

-- A task whose formulas and effects are replaced by others that fit it is well formed.

use Rattle.std.proofs.Common.{◌≡◌, ℕ, ◌≤◌, ◌&&◌, true, List, [], ap, sym, ◌∙◌, subst, refl}
use Rattle.std.proofs.lemmas.List.{length-map}
use Rattle.std.proofs.lemmas.Map.Made.{keys_of-map_values}
use Rattle.std.specs.List.{list_all}
use Rattle.std.specs.Map.{values_of}
use Rattle.formulas.specs.declared.terms.Term.{Term}
use Rattle.formulas.specs.declared.terms.Term.TheVariants.{Param, Bound, Object}
use Rattle.formulas.specs.EffectTree.{EffectTree}
use Rattle.formulas.specs.Tree.{Tree}
use Rattle.strips_task.specs.declared.actions.Action.{Action}
use Rattle.strips_task.specs.declared.tasks.TaskParts.{TaskParts}
use Rattle.strips_task.specs.Names.{are_distinct}
use Rattle.strips_task.specs.WellFormed.{IsWellFormed, most_actions, are_variables, is_pattern, is_object, is_known, is_formula, is_effect, is_atom, is_action}
use Rattle.strips_task.proofs.AtomEquality.{both_hold}
use Rattle.task_laws.specs.Replaced.{action_with, task_with}
use Rattle.task_laws.proofs.ListLemmas.{values_of-map, list_all-replaced}

-- a task with other formulas and effects knows the same terms
pub same_terms : (parts : TaskParts) (formula : Tree → Tree) (effect : EffectTree → EffectTree) (params bound : List (List ℕ)) (term : Term)
    → is_known (task_with formula effect parts) params bound term ≡ is_known parts params bound term
unfolding is_known is_object
same_terms parts formula effect params bound (Param index) = refl
same_terms parts formula effect params bound (Bound level) = refl
same_terms parts formula effect params bound (Object object) = refl

-- formulas and effects that are replaced fit the task in which they are
pub record KeepFit (parts : TaskParts) (formula : Tree → Tree) (effect : EffectTree → EffectTree) : Type 0 where
  pub formulas_fit : (params : List (List ℕ)) (tree : Tree) → is_formula parts params [] tree ≡ true → is_formula (task_with formula effect parts) params [] (formula tree) ≡ true
  pub effects_fit : (params : List (List ℕ)) (tree : EffectTree) → is_effect parts params [] tree ≡ true → is_effect (task_with formula effect parts) params [] (effect tree) ≡ true

module _ (parts : TaskParts) (formula : Tree → Tree) (effect : EffectTree → EffectTree) (kept : KeepFit parts formula effect) where
  abbrev replaced : TaskParts
  replaced = task_with formula effect parts

  action_fits : (action : Action) → is_action parts action ≡ true → is_action replaced (action_with formula effect action) ≡ true
  unfolding is_action is_pattern
  action_fits action fits =
      let params = both_hold (are_variables parts.parents action.params) _ fits in
      let pre = both_hold (list_all (is_formula parts action.params []) action.pre) _ params.1 in
      let add = both_hold (list_all (is_pattern parts action.params []) action.add) _ pre.1 in
      let del = both_hold (list_all (is_pattern parts action.params []) action.del) _ add.1 in
      let conditions = list_all-replaced (is_formula parts action.params []) (is_formula replaced action.params []) formula (kept.formulas_fit action.params) action.pre pre.0 in
      let effects = list_all-replaced (is_effect parts action.params []) (is_effect replaced action.params []) effect (kept.effects_fit action.params) action.effects del.1 in
      λ j. params.0 j && (conditions j && (add.0 j && (del.0 j && effects j)))

  pub stays_well_formed : IsWellFormed parts → IsWellFormed replaced
  unfolding is_atom
  stays_well_formed task = record {
    types_form_a_tree = task.types_form_a_tree;
    types_named = task.types_named;
    few_types = task.few_types;
    few_objects = task.few_objects;
    few_predicates = task.few_predicates;
    few_actions = subst (λ count. count ≤ most_actions) (sym (length-map parts.actions (λ entry. (entry.0, action_with formula effect entry.1)))) task.few_actions;
    objects_distinct = task.objects_distinct;
    predicates_distinct = task.predicates_distinct;
    actions_distinct = ap are_distinct (keys_of-map_values (action_with formula effect) parts.actions) ∙ task.actions_distinct;
    objects_typed = task.objects_typed;
    predicates_typed = task.predicates_typed;
    actions_fit =
        ap (list_all (is_action replaced)) (values_of-map (action_with formula effect) parts.actions)
        ∙ list_all-replaced (is_action parts) (is_action replaced) (action_with formula effect) action_fits (values_of parts.actions) task.actions_fit;
    initial_atoms_fit = task.initial_atoms_fit;
    goal_fits = list_all-replaced (is_formula parts [] []) (is_formula replaced [] []) formula (kept.formulas_fit []) parts.goal task.goal_fits;
  }

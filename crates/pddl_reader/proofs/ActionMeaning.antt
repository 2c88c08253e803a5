-- What actions stand for, one equation for each case.

use Rattle.std.proofs.Common.{◌≡◌, ℕ, ◌++◌, true, false, List, [], ◌∷◌, Option, Some, None, unwrap_or, refl}
use Rattle.pddl_words.specs.Words.{folded}
use Rattle.formulas.specs.Tree.{Tree}
use Rattle.pddl_reader.specs.declared.resolution.actions.ActionTables.{ActionTables}
use Rattle.pddl_reader.specs.declared.resolution.actions.CostedAction.{CostedAction}
use Rattle.pddl_reader.specs.declared.resolution.effects.Effects.{Effects}
use Rattle.pddl_syntax.specs.declared.syntax.ActionSyntax.{ActionSyntax}
use Rattle.pddl_syntax.specs.Optional.{guard, through}
use Rattle.pddl_syntax.specs.Forms.{parts_form, action_syntax_form, action_forms}
use Rattle.pddl_reader.specs.Declarations.{may_declare, declared}
use Rattle.pddl_reader.specs.Conditions.{conditions_of}
use Rattle.pddl_reader.specs.Effects.{effects_of}
use Rattle.pddl_reader.specs.Functions.{Vocabulary}
use Rattle.pddl_reader.specs.Scopes.{outermost}
use Rattle.pddl_reader.specs.Variables.{TypedVariables, variables_of}
use Rattle.pddl_reader.specs.Domain.{action_doing, action_with, action_by, action_meant, tables_with, declared_action, with_action_of, actions_from}
use Rattle.pddl_syntax.specs.Syntax.{ActionForm, action_form, conjunction, no_formulas, joint_effect, no_effects}
use Rattle.pddl_reader.proofs.DeclarationLemmas.{may_declare_new}
use Rattle.pddl_reader.proofs.KeptVariables.{few_variables}
use Rattle.pddl_reader.proofs.Through.{through_behind, through_item, through_end}

precondition_given : (syntax : ActionSyntax) → (action_syntax_form syntax).precondition ≡ unwrap_or syntax.parts.precondition (conjunction no_formulas)
unfolding action_form parts_form
precondition_given syntax = refl

effect_given : (syntax : ActionSyntax) → (action_syntax_form syntax).effect ≡ unwrap_or syntax.parts.effect (joint_effect no_effects)
unfolding action_form parts_form
effect_given syntax = refl

parameters_given : (syntax : ActionSyntax) → (action_syntax_form syntax).parameters ≡ unwrap_or syntax.parts.parameters []
unfolding action_form parts_form
parameters_given syntax = refl

pub no_conditions : (types : List (List ℕ)) (v : Vocabulary) (p : TypedVariables) (syntax : ActionSyntax) → conditions_of types v.atoms (outermost p) (unwrap_or syntax.parts.precondition (conjunction no_formulas)) ≡ None →
    action_by types v (action_syntax_form syntax) (Some p) ≡ None
unfolding action_by action_with
no_conditions types v p syntax h = rw (precondition_given syntax, h) refl

pub no_effects_meant : (types : List (List ℕ)) (v : Vocabulary) (p : TypedVariables) (syntax : ActionSyntax) (pre : List Tree) →
    conditions_of types v.atoms (outermost p) (unwrap_or syntax.parts.precondition (conjunction no_formulas)) ≡ Some pre →
    effects_of types v (outermost p) (unwrap_or syntax.parts.effect (joint_effect no_effects)) ≡ None → action_by types v (action_syntax_form syntax) (Some p) ≡ None
unfolding action_by action_with
no_effects_meant types v p syntax pre h e = rw (precondition_given syntax, h, effect_given syntax, e) refl

pub both_meant : (types : List (List ℕ)) (v : Vocabulary) (p : TypedVariables) (syntax : ActionSyntax) (pre : List Tree) (effects : Effects) →
    conditions_of types v.atoms (outermost p) (unwrap_or syntax.parts.precondition (conjunction no_formulas)) ≡ Some pre →
    effects_of types v (outermost p) (unwrap_or syntax.parts.effect (joint_effect no_effects)) ≡ Some effects →
    action_by types v (action_syntax_form syntax) (Some p) ≡ Some (action_doing p.types pre effects)
unfolding action_by action_with
both_meant types v p syntax pre effects h e = rw (precondition_given syntax, h, effect_given syntax, e) refl

pub ruleset body_steps = (no_conditions, no_effects_meant, both_meant)

pub no_parameters_meant : (types : List (List ℕ)) (v : Vocabulary) (syntax : ActionSyntax) →
    variables_of types (unwrap_or syntax.parts.parameters []) ≡ None → action_meant types v (action_syntax_form syntax) ≡ None
unfolding action_meant action_by
no_parameters_meant types v syntax h = rw (parameters_given syntax, h) refl

pub parameters_meant : (types : List (List ℕ)) (v : Vocabulary) (syntax : ActionSyntax) (p : TypedVariables) →
    variables_of types (unwrap_or syntax.parts.parameters []) ≡ Some p →
    action_meant types v (action_syntax_form syntax) ≡ action_by types v (action_syntax_form syntax) (Some p)
unfolding action_meant
parameters_meant types v syntax p h = rw (parameters_given syntax, h) refl

pub ruleset action_steps = (no_parameters_meant, parameters_meant, few_variables)

pub action_refused : (types : List (List ℕ)) (v : Vocabulary) (tables : ActionTables) (a : ActionForm) → may_declare 4096 tables.actions (folded a.name) ≡ false →
    with_action_of types v tables a ≡ None
unfolding with_action_of declared_action declared guard
action_refused types v tables a h = by (action_meant types v a)
  where
    by : (meant : Option CostedAction) → declared_action tables (folded a.name) meant ≡ None
    by None = refl
    by (Some action) = rw h refl

pub action_meaningless : (types : List (List ℕ)) (v : Vocabulary) (tables : ActionTables) (a : ActionForm) → action_meant types v a ≡ None →
    with_action_of types v tables a ≡ None
unfolding with_action_of declared_action
action_meaningless types v tables a h = rw h refl

pub action_declared : (types : List (List ℕ)) (v : Vocabulary) (tables : ActionTables) (a : ActionForm) (meant : CostedAction) →
    may_declare 4096 tables.actions (folded a.name) ≡ true → action_meant types v a ≡ Some meant →
    with_action_of types v tables a ≡ Some (tables_with tables meant (tables.actions ++ (folded a.name, meant.action) ∷ []))
unfolding with_action_of declared_action declared guard
action_declared types v tables a meant h e = rw (e, h) refl

pub named_so : (syntax : ActionSyntax) → (action_syntax_form syntax).name ≡ syntax.name.text.now
unfolding action_form
named_so syntax = refl

pub ruleset declaration_steps = (may_declare_new, action_refused, action_meaningless, action_declared, named_so)

pub actions_item : {S : Type 0} (step : S → ActionForm → Option S) (state : S) (x : ActionSyntax) (xs : List ActionSyntax) →
    through step state (action_forms (x ∷ xs)) ≡ through_behind step (step state (action_syntax_form x)) (action_forms xs)
unfolding action_forms
actions_item step state x xs = through_item step state (action_syntax_form x) (action_forms xs)

pub actions_end : {S : Type 0} (step : S → ActionForm → Option S) (state : S) → through step state (action_forms []) ≡ Some state
unfolding action_forms
actions_end step state = through_end step state

pub actions_start : (types : List (List ℕ)) (v : Vocabulary) (tables : ActionTables) (actions : List ActionForm) →
    actions_from types v tables actions ≡ through (with_action_of types v) tables actions
unfolding actions_from
actions_start types v tables actions = refl

pub ruleset actions_steps = (actions_item, actions_end, actions_start)

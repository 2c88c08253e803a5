-- The definitions of actions, one equation for each case.

use Rattle.std.proofs.Common.{◌≡◌, ℕ, true, false, List, [], Option, Some, None, is_some, refl}
use Rattle.std.specs.Option.{option_map, option_and_then}
use Rattle.pddl_words.specs.Words.{is_name}
use Rattle.pddl_syntax.specs.declared.dialect.Dialect.{Dialect}
use Rattle.pddl_syntax.specs.declared.heads.Context.TheVariants as context
use Rattle.pddl_syntax.specs.declared.heads.ActionPart.{ActionPart}
use Rattle.pddl_syntax.specs.declared.heads.ActionPart.TheVariants.{Parameters, Precondition, Effect}
use Rattle.pddl_syntax.specs.Heads.{action_part, scope_at}
use Rattle.pddl_syntax.specs.Optional.{guard}
use Rattle.pddl_syntax.specs.Forms.{parts_form}
use Rattle.pddl_syntax.specs.Trees.{Trees, none, word, list}
use Rattle.pddl_syntax.specs.Syntax.{VariableGroup, FormulaForm, EffectForm, ActionParts, first_list, typed_variables, formula_in, effect_in, no_parts, with_parameters, with_precondition, with_effect, is_part_given, part_by, part_named, parts_of, action_form, action_of}

pub is_some-option_map : {A B : Type 0} (f : A → B) (o : Option A) → is_some (option_map f o) ≡ is_some o
is_some-option_map f None = refl
is_some-option_map f (Some x) = refl

pub ruleset given_steps = (is_some-option_map)

pub parameters_part : (dialect : Dialect) (given : ActionParts) (k : Trees) (value : List VariableGroup) → typed_variables [] k ≡ Some value →
    part_by dialect Parameters given k ≡ Some (with_parameters given value)
unfolding part_by
parameters_part dialect given k value h = rw h refl

pub no_parameters_part : (dialect : Dialect) (given : ActionParts) (k : Trees) → typed_variables [] k ≡ None → part_by dialect Parameters given k ≡ None
unfolding part_by
no_parameters_part dialect given k h = rw h refl

pub precondition_part : (dialect : Dialect) (given : ActionParts) (k : Trees) (value : FormulaForm) → formula_in (scope_at dialect context.Condition) k ≡ Some value →
    part_by dialect Precondition given k ≡ Some (with_precondition given value)
unfolding part_by
precondition_part dialect given k value h = rw h refl

pub no_precondition_part : (dialect : Dialect) (given : ActionParts) (k : Trees) → formula_in (scope_at dialect context.Condition) k ≡ None → part_by dialect Precondition given k ≡ None
unfolding part_by
no_precondition_part dialect given k h = rw h refl

pub effect_part : (dialect : Dialect) (given : ActionParts) (k : Trees) (value : EffectForm) → effect_in (scope_at dialect context.Effect) k ≡ Some value →
    part_by dialect Effect given k ≡ Some (with_effect given value)
unfolding part_by
effect_part dialect given k value h = rw h refl

pub no_effect_part : (dialect : Dialect) (given : ActionParts) (k : Trees) → effect_in (scope_at dialect context.Effect) k ≡ None → part_by dialect Effect given k ≡ None
unfolding part_by
no_effect_part dialect given k h = rw h refl

pub ruleset part_steps = (parameters_part, no_parameters_part, precondition_part, no_precondition_part, effect_part, no_effect_part)

pub parts_end : (dialect : Dialect) (given : ActionParts) → parts_of dialect given none ≡ Some given
unfolding parts_of
parts_end dialect given = refl

pub parts_list : (dialect : Dialect) (given : ActionParts) (k f : Trees) → parts_of dialect given (list k f) ≡ None
unfolding parts_of
parts_list dialect given k f = refl

pub no_part_named : (dialect : Dialect) (given : ActionParts) (k : Trees) → part_named dialect None given k ≡ None
unfolding part_named
no_part_named dialect given k = refl

pub part_again : (dialect : Dialect) (named : ActionPart) (given : ActionParts) (k : Trees) → is_part_given named given ≡ true → part_named dialect (Some named) given k ≡ None
unfolding part_named guard
part_again dialect named given k h = rw h refl

pub part_due : (dialect : Dialect) (named : ActionPart) (given : ActionParts) (k : Trees) → is_part_given named given ≡ false → part_named dialect (Some named) given k ≡ part_by dialect named given k
unfolding part_named guard
part_due dialect named given k h = rw h refl

pub parts_no_list : (dialect : Dialect) (given : ActionParts) (w : List ℕ) (f : Trees) → first_list f ≡ None → parts_of dialect given (word w f) ≡ None
unfolding parts_of first_list
parts_no_list dialect given w none h = refl
parts_no_list dialect given w (word v f) h = refl
parts_no_list dialect given w (list k f) h = cc

-- what is read behind a part
unfoldable pub parts_behind : Dialect → Option ActionParts → Trees → Option ActionParts
parts_behind dialect None others = None
parts_behind dialect (Some given) others = parts_of dialect given others

parts_read : (dialect : Dialect) (given : Option ActionParts) (f : Trees) → option_and_then (λ more. parts_of dialect more f) given ≡ parts_behind dialect given f
unfolding parts_behind
parts_read dialect None f = refl
parts_read dialect (Some given) f = refl

pub parts_part : (dialect : Dialect) (given : ActionParts) (w : List ℕ) (k f : Trees) →
    parts_of dialect given (word w (list k f)) ≡ parts_behind dialect (part_named dialect (action_part w) given k) f
unfolding parts_of
parts_part dialect given w k f = parts_read dialect (part_named dialect (action_part w) given k) f

-- a word that names no part, or one that is given, is refused whatever follows it
pub parts_refused : (dialect : Dialect) (given : ActionParts) (w : List ℕ) (f : Trees) → ((k : Trees) → part_named dialect (action_part w) given k ≡ None) → parts_of dialect given (word w f) ≡ None
unfolding parts_of
parts_refused dialect given w none h = refl
parts_refused dialect given w (word v f) h = refl
parts_refused dialect given w (list k f) h = rw h refl

pub parts_unknown : (dialect : Dialect) (given : ActionParts) (w : List ℕ) (f : Trees) → action_part w ≡ None → parts_of dialect given (word w f) ≡ None
parts_unknown dialect given w f h = parts_refused dialect given w f (λ k. rw h (no_part_named dialect given k))

pub parts_again : (dialect : Dialect) (given : ActionParts) (w : List ℕ) (f : Trees) (named : ActionPart) → action_part w ≡ Some named →
    is_part_given named given ≡ true → parts_of dialect given (word w f) ≡ None
parts_again dialect given w f named h e = parts_refused dialect given w f (λ k. rw h (part_again dialect named given k e))

pub no_parts_behind : (dialect : Dialect) (f : Trees) → parts_behind dialect None f ≡ None
unfolding parts_behind
no_parts_behind dialect f = refl

pub some_parts_behind : (dialect : Dialect) (given : ActionParts) (f : Trees) → parts_behind dialect (Some given) f ≡ parts_of dialect given f
unfolding parts_behind
some_parts_behind dialect given f = refl

pub no_parts_form : parts_form (record { parameters = None; precondition = None; effect = None }) ≡ no_parts
unfolding parts_form no_parts
no_parts_form = refl

pub ruleset parts_steps = (parts_end, parts_list, parts_unknown, parts_again, parts_no_list, parts_part, part_due, no_parts_behind, some_parts_behind, no_parts_form)

pub action_none : (dialect : Dialect) → action_of dialect none ≡ None
unfolding action_of
action_none dialect = refl

pub action_list : (dialect : Dialect) (k f : Trees) → action_of dialect (list k f) ≡ None
unfolding action_of
action_list dialect k f = refl

pub action_no_name : (dialect : Dialect) (w : List ℕ) (f : Trees) → is_name w ≡ false → action_of dialect (word w f) ≡ None
unfolding action_of guard
action_no_name dialect w f h = rw h refl

pub action_no_parts : (dialect : Dialect) (w : List ℕ) (f : Trees) → is_name w ≡ true → parts_of dialect no_parts f ≡ None → action_of dialect (word w f) ≡ None
unfolding action_of guard
action_no_parts dialect w f h e = rw (h, e) refl

pub action_parts : (dialect : Dialect) (w : List ℕ) (f : Trees) (given : ActionParts) → is_name w ≡ true → parts_of dialect no_parts f ≡ Some given →
    action_of dialect (word w f) ≡ Some (action_form w given)
unfolding action_of guard
action_parts dialect w f given h e = rw (h, e) refl

pub ruleset action_steps = (action_none, action_list, action_no_name, action_no_parts, action_parts)

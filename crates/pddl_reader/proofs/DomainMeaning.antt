-- What the syntax of a domain stands for, one equation for each case.

use Rattle.std.proofs.Common.{◌≡◌, [], Option, Some, None, refl}
use Rattle.std.specs.Global.{Vec}
use Rattle.std.specs.Map.{keys_of}
use Rattle.pddl_reader.specs.declared.resolution.actions.ActionTables.{ActionTables}
use Rattle.pddl_reader.specs.declared.resolution.domain.Head.{Head}
use Rattle.pddl_syntax.specs.declared.dialect.Dialect.{Dialect}
use Rattle.pddl_reader.specs.declared.resolution.types.KnownTypes.{KnownTypes}
use Rattle.pddl_syntax.specs.declared.syntax.DomainSyntax.{DomainSyntax}
use Rattle.pddl_syntax.specs.declared.syntax.NameGroup as groups
use Rattle.pddl_syntax.specs.declared.syntax.PredicateSyntax.{PredicateSyntax}
use Rattle.pddl_syntax.specs.Forms.{name_groups, predicate_forms, action_forms, domain_sections_form, domain_syntax_form}
use Rattle.pddl_reader.specs.Parts.{part_items}
use Rattle.pddl_reader.specs.Declarations.{Predicates}
use Rattle.pddl_reader.specs.Domain.{predicates_from, functions_from, no_actions, actions_from, head, head_typed, head_of, vocabulary_by, domain_value, domain_with, domain_headed, domain_of}
use Rattle.pddl_reader.specs.Objects.{Objects, objects_from}
use Rattle.pddl_syntax.specs.Syntax.{DomainForm, domain_form}
use Rattle.pddl_reader.specs.TypeOrder.{types_of}

pub types_given : (syntax : DomainSyntax) → (domain_syntax_form syntax).types ≡ name_groups (part_items syntax.sections.types)
unfolding domain_form domain_sections_form part_items name_groups
types_given syntax = by syntax.sections.types
  where
    by : (types : Option (Vec groups.NameGroup)) →
        (domain_form syntax.name.text.now (domain_sections_form (record syntax.sections { types = types }))).types ≡ name_groups (part_items types)
    by None = refl
    by (Some v) = refl

pub constants_given : (syntax : DomainSyntax) → (domain_syntax_form syntax).constants ≡ name_groups (part_items syntax.sections.constants)
unfolding domain_form domain_sections_form part_items name_groups
constants_given syntax = by syntax.sections.constants
  where
    by : (constants : Option (Vec groups.NameGroup)) →
        (domain_form syntax.name.text.now (domain_sections_form (record syntax.sections { constants = constants }))).constants ≡ name_groups (part_items constants)
    by None = refl
    by (Some v) = refl

pub predicates_given : (syntax : DomainSyntax) → (domain_syntax_form syntax).predicates ≡ predicate_forms (part_items syntax.sections.predicates)
unfolding domain_form domain_sections_form part_items predicate_forms
predicates_given syntax = by syntax.sections.predicates
  where
    by : (predicates : Option (Vec PredicateSyntax)) →
        (domain_form syntax.name.text.now (domain_sections_form (record syntax.sections { predicates = predicates }))).predicates ≡ predicate_forms (part_items predicates)
    by None = refl
    by (Some v) = refl

pub functions_given : (syntax : DomainSyntax) → (domain_syntax_form syntax).functions ≡ predicate_forms (part_items syntax.sections.functions)
unfolding domain_form domain_sections_form part_items predicate_forms
functions_given syntax = by syntax.sections.functions
  where
    by : (functions : Option (Vec PredicateSyntax)) →
        (domain_form syntax.name.text.now (domain_sections_form (record syntax.sections { functions = functions }))).functions ≡ predicate_forms (part_items functions)
    by None = refl
    by (Some v) = refl

pub no_types : (dialect : Dialect) (syntax : DomainSyntax) → types_of dialect (name_groups (part_items syntax.sections.types)) ≡ None →
    head_of dialect (domain_syntax_form syntax) ≡ None
unfolding head_of head_typed
no_types dialect syntax h = rw (types_given syntax, h) refl

pub no_constants : (dialect : Dialect) (syntax : DomainSyntax) (types : KnownTypes) → types_of dialect (name_groups (part_items syntax.sections.types)) ≡ Some types →
    objects_from (keys_of types.names) [] (name_groups (part_items syntax.sections.constants)) ≡ None → head_of dialect (domain_syntax_form syntax) ≡ None
unfolding head_of head_typed
no_constants dialect syntax types h e = rw (types_given syntax, h, constants_given syntax, e) refl

pub head_meant : (dialect : Dialect) (syntax : DomainSyntax) (types : KnownTypes) (objects : Objects) →
    types_of dialect (name_groups (part_items syntax.sections.types)) ≡ Some types →
    objects_from (keys_of types.names) [] (name_groups (part_items syntax.sections.constants)) ≡ Some objects →
    head_of dialect (domain_syntax_form syntax) ≡ Some (head syntax.name.text.now types objects)
unfolding head_of head_typed domain_form
head_meant dialect syntax types objects h e = rw (types_given syntax, h, constants_given syntax, e) refl

pub ruleset head_steps = (no_types, no_constants)

pub no_head : (dialect : Dialect) (domain : DomainForm) → head_of dialect domain ≡ None → domain_of dialect domain ≡ None
unfolding domain_of domain_headed
no_head dialect domain h = rw h refl

pub with_head : (dialect : Dialect) (syntax : DomainSyntax) (head : Head) → head_of dialect (domain_syntax_form syntax) ≡ Some head →
    domain_of dialect (domain_syntax_form syntax) ≡ domain_with (domain_syntax_form syntax) head
    (predicates_from (keys_of head.types) [] (predicate_forms (part_items syntax.sections.predicates)))
    (functions_from (keys_of head.types) [] (predicate_forms (part_items syntax.sections.functions)))
unfolding domain_of domain_headed
with_head dialect syntax head h = rw (h, predicates_given syntax, functions_given syntax) refl

pub ruleset domain_head_steps = (no_head, with_head)

pub no_predicates_meant : (domain : DomainForm) (head : Head) (predicates functions : Option Predicates) → predicates ≡ None →
    domain_with domain head predicates functions ≡ None
unfolding domain_with
no_predicates_meant domain head predicates functions h = rw h refl

pub no_functions_meant : (domain : DomainForm) (head : Head) (predicates functions : Option Predicates) (p : Predicates) → predicates ≡ Some p → functions ≡ None →
    domain_with domain head predicates functions ≡ None
unfolding domain_with
no_functions_meant domain head predicates functions p h e = rw (h, e) refl

pub no_actions_meant : (syntax : DomainSyntax) (head : Head) (found too : Option Predicates) (predicates functions : Predicates) → found ≡ Some predicates →
    too ≡ Some functions →
    actions_from (keys_of head.types) (vocabulary_by head predicates functions) no_actions (action_forms syntax.sections.actions.items) ≡ None →
    domain_with (domain_syntax_form syntax) head found too ≡ None
unfolding domain_with domain_form domain_sections_form
no_actions_meant syntax head found too predicates functions h k e = rw (h, k, e) refl

pub domain_meant : (syntax : DomainSyntax) (head : Head) (found too : Option Predicates) (predicates functions : Predicates) (tables : ActionTables) →
    found ≡ Some predicates → too ≡ Some functions →
    actions_from (keys_of head.types) (vocabulary_by head predicates functions) no_actions (action_forms syntax.sections.actions.items) ≡ Some tables →
    domain_with (domain_syntax_form syntax) head found too ≡ Some (domain_value head predicates functions tables)
unfolding domain_with domain_form domain_sections_form
domain_meant syntax head found too predicates functions tables h k e = rw (h, k, e) refl

pub ruleset domain_steps = (no_predicates_meant, no_actions_meant)

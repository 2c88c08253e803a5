-- Texts of a smaller dialect stand for the same in a larger one.

use Rattle.std.proofs.Common.{◌≡◌, ℕ, List, [], Option, Some, None, refl, ap, sym, ◌∙◌}
use Rattle.std.specs.Option.{option_and_then, option_map}
use Rattle.std.specs.Map.{keys_of}
use Rattle.formulas.specs.Tree.{Tree}
use Rattle.formulas.specs.declared.atoms.Atom.{Atom}
use Rattle.strips_task.specs.declared.amounts.Amount.{Amount}
use Rattle.strips_task.specs.declared.costs.CostedTask.{CostedTask}
use Rattle.pddl_syntax.specs.declared.dialect.Dialect.TheVariants.{Strips, Ipc, Adl}
use Rattle.pddl_syntax.specs.declared.fault.ReadFault.{ReadFault}
use Rattle.pddl_syntax.specs.Levels.{trees}
use Rattle.pddl_syntax.specs.Optional.{through}
use Rattle.pddl_syntax.specs.Syntax.{DomainForm, ProblemForm, domain_syntax, problem_syntax}
use Rattle.pddl_syntax.specs.Trees.{text_fault}
use Rattle.pddl_syntax.proofs.DialectLaws.{domains_kept, domains_kept_in_adl, problems_kept, problems_kept_in_adl}
use Rattle.strips_task.specs.Names.{number_named}
use Rattle.pddl_reader.specs.declared.resolution.actions.ActionTables.{ActionTables}
use Rattle.pddl_reader.specs.declared.resolution.domain.Head.{Head}
use Rattle.pddl_reader.specs.declared.resolution.initial.InitialState.{InitialState}
use Rattle.pddl_reader.specs.declared.resolution.types.KnownTypes.{KnownTypes}
use Rattle.pddl_reader.specs.Declarations.{Predicates}
use Rattle.pddl_reader.specs.Functions.{costs_of, total_cost_number}
use Rattle.pddl_reader.specs.Domain.{DomainValue, domain_value, domain_with, domain_headed, domain_of, functions_from, predicates_from, head_of, head_typed, actions_from}
use Rattle.pddl_reader.specs.Objects.{Objects, objects_from}
use Rattle.pddl_reader.specs.Problem.{costed_value, task_with, domain_over, domain_extended, problem_within, problem_of}
use Rattle.pddl_reader.specs.Texts.{unless_fault, domain_in_text, problem_in_text}
use Rattle.pddl_reader.specs.TypeOrder.{types_of}
use Rattle.pddl_reader.proofs.DialectTypes.{types_kept, same_types}

head-kept : (form : DomainForm) (head : Head) → head_of Strips form ≡ Some head → head_of Ipc form ≡ Some head
unfolding head_of head_typed
head-kept form head h = by (types_of Strips form.types) refl h
  where
    by : (types : Option KnownTypes) → types_of Strips form.types ≡ types → head_typed form types ≡ Some head → head_typed form (types_of Ipc form.types) ≡ Some head
    by None is e = cc
    by (Some types) is e = ap (head_typed form) (types_kept form.types types is) ∙ e

form-kept : (form : DomainForm) (domain : DomainValue) → domain_of Strips form ≡ Some domain → domain_of Ipc form ≡ Some domain
unfolding domain_of domain_headed
form-kept form domain h = by (head_of Strips form) refl h
  where
    by : (head : Option Head) → head_of Strips form ≡ head → domain_headed form head ≡ Some domain → domain_headed form (head_of Ipc form) ≡ Some domain
    by None is e = cc
    by (Some head) is e = ap (domain_headed form) (head-kept form head is) ∙ e

-- a domain with these functions
with-functions : (form : DomainForm) (head : Head) (predicates functions : Option Predicates) (declared : Predicates) (domain : DomainValue) → functions ≡ Some declared →
    domain_with form head predicates functions ≡ Some domain → domain.functions ≡ declared
unfolding domain_with
with-functions form head None functions declared domain f h = cc
with-functions form head (Some predicates) None declared domain f h = cc
with-functions form head (Some predicates) (Some functions) declared domain f h =
    by (actions_from _ _ _ form.actions) h
  where
    by : (actions : Option ActionTables) → option_map (domain_value head predicates functions) actions ≡ Some domain → domain.functions ≡ declared
    by None e = cc
    by (Some actions) e =
        let same : domain_value head predicates functions actions ≡ domain = cc in
        let given : functions ≡ declared = cc in
        sym (ap (λ (d : DomainValue). d.functions) same) ∙ given

without-functions : (form : DomainForm) (domain : DomainValue) → form.functions ≡ [] → domain_of Strips form ≡ Some domain → domain.functions ≡ []
unfolding domain_of domain_headed functions_from through
without-functions form domain none h = by (head_of Strips form) h
  where
    by : (head : Option Head) → domain_headed form head ≡ Some domain → domain.functions ≡ []
    by None e = cc
    by (Some head) e =
        with-functions form head (predicates_from (keys_of head.types) [] form.predicates) (functions_from (keys_of head.types) [] form.functions) [] domain
        (ap (functions_from (keys_of head.types) []) none) e

pub domain_kept : (text : List ℕ) (domain : DomainValue) → domain_in_text Strips text ≡ Some domain → (domain_in_text Ipc text ≡ Some domain) × (domain.functions ≡ [])
unfolding domain_in_text unless_fault
domain_kept text domain h = by (text_fault text) (domain_syntax Strips (trees text)) refl h
  where
    by : (fault : Option ReadFault) (syntax : Option DomainForm) → domain_syntax Strips (trees text) ≡ syntax →
        unless_fault fault (option_and_then (domain_of Strips) syntax) ≡ Some domain →
        (unless_fault fault (option_and_then (domain_of Ipc) (domain_syntax Ipc (trees text))) ≡ Some domain) × (domain.functions ≡ [])
    by (Some fault) syntax is e = cc
    by None None is e = cc
    by None (Some form) is e =
        let kept = domains_kept (trees text) form is in
        (ap (option_and_then (domain_of Ipc)) kept.0 ∙ form-kept form domain e, without-functions form domain kept.1 e)

same-functions : (domain extended : DomainValue) (form : ProblemForm) → domain_extended domain form.objects ≡ Some extended → extended.functions ≡ domain.functions
unfolding domain_extended
same-functions domain extended form h = by (objects_from domain.types domain.objects form.objects) h
  where
    by : (objects : Option Objects) → option_map (domain_over domain) objects ≡ Some extended → extended.functions ≡ domain.functions
    by None e = cc
    by (Some objects) e = let same : domain_over domain objects ≡ extended = cc in sym (ap (λ (d : DomainValue). d.functions) same)

nothing-counted : (functions : Predicates) (increases : List (List Amount)) (values : List (Atom × ℕ)) → functions ≡ [] → costs_of functions increases values ≡ None
unfolding costs_of total_cost_number number_named
nothing-counted functions increases values none = ap (λ table. costs_of table increases values) none

given-costs : (domain : DomainValue) (name : List ℕ) (initial : Option InitialState) (goal : Option (List Tree)) (task : CostedTask) → domain.functions ≡ [] →
    task_with domain name initial goal ≡ Some task → task.costs ≡ None
unfolding task_with
given-costs domain name None goal task none h = cc
given-costs domain name (Some initial) None task none h = cc
given-costs domain name (Some initial) (Some goal) task none h =
    let same : costed_value domain name initial goal ≡ task = cc in
    sym (ap (λ (t : CostedTask). t.costs) same) ∙ nothing-counted domain.functions domain.increases initial.values none

no-costs : (form : ProblemForm) (domain : DomainValue) (task : CostedTask) → domain.functions ≡ [] → problem_of domain form ≡ Some task → task.costs ≡ None
unfolding problem_of problem_within
no-costs form domain task none h = by (domain_extended domain form.objects) refl h
  where
    by : (extended : Option DomainValue) → domain_extended domain form.objects ≡ extended → problem_within form extended ≡ Some task → task.costs ≡ None
    by None is e = cc
    by (Some extended) is e = given-costs extended form.name _ _ task (same-functions domain extended form is ∙ none) e

pub problem_kept : (text : List ℕ) (domain : DomainValue) (task : CostedTask) → problem_in_text Strips domain text ≡ Some task →
    (problem_in_text Ipc domain text ≡ Some task) × (domain.functions ≡ [] → task.costs ≡ None)
unfolding problem_in_text unless_fault
problem_kept text domain task h = by (text_fault text) (problem_syntax Strips (trees text)) refl h
  where
    by : (fault : Option ReadFault) (syntax : Option ProblemForm) → problem_syntax Strips (trees text) ≡ syntax →
        unless_fault fault (option_and_then (problem_of domain) syntax) ≡ Some task →
        (unless_fault fault (option_and_then (problem_of domain) (problem_syntax Ipc (trees text))) ≡ Some task) × (domain.functions ≡ [] → task.costs ≡ None)
    by (Some fault) syntax is e = cc
    by None None is e = cc
    by None (Some form) is e = (ap (option_and_then (problem_of domain)) (problems_kept (trees text) form is) ∙ e, λ none. no-costs form domain task none e)

same-domain : (form : DomainForm) → domain_of Adl form ≡ domain_of Ipc form
unfolding domain_of head_of
same-domain form = ap (λ types. domain_headed form (head_typed form types)) (same_types form.types)

pub domain_kept_in_adl : (text : List ℕ) (domain : DomainValue) → domain_in_text Ipc text ≡ Some domain → domain_in_text Adl text ≡ Some domain
unfolding domain_in_text unless_fault
domain_kept_in_adl text domain h = by (text_fault text) (domain_syntax Ipc (trees text)) refl h
  where
    by : (fault : Option ReadFault) (syntax : Option DomainForm) → domain_syntax Ipc (trees text) ≡ syntax →
        unless_fault fault (option_and_then (domain_of Ipc) syntax) ≡ Some domain → unless_fault fault (option_and_then (domain_of Adl) (domain_syntax Adl (trees text))) ≡ Some domain
    by (Some fault) syntax is e = cc
    by None None is e = cc
    by None (Some form) is e = ap (option_and_then (domain_of Adl)) (domains_kept_in_adl (trees text) form is) ∙ same-domain form ∙ e

pub problem_kept_in_adl : (text : List ℕ) (domain : DomainValue) (task : CostedTask) → problem_in_text Ipc domain text ≡ Some task → problem_in_text Adl domain text ≡ Some task
unfolding problem_in_text unless_fault
problem_kept_in_adl text domain task h = by (text_fault text) (problem_syntax Ipc (trees text)) refl h
  where
    by : (fault : Option ReadFault) (syntax : Option ProblemForm) → problem_syntax Ipc (trees text) ≡ syntax →
        unless_fault fault (option_and_then (problem_of domain) syntax) ≡ Some task →
        unless_fault fault (option_and_then (problem_of domain) (problem_syntax Adl (trees text))) ≡ Some task
    by (Some fault) syntax is e = cc
    by None None is e = cc
    by None (Some form) is e = ap (option_and_then (problem_of domain)) (problems_kept_in_adl (trees text) form is) ∙ e

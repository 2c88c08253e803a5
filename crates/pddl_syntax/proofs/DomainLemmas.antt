-- The definitions of domains, one equation for each case.

use Rattle.std.proofs.Common.{◌≡◌, ℕ, ◌++◌, Bool, true, false, List, [], ◌∷◌, Option, Some, None, refl}
use Rattle.std.proofs.lemmas.List.{map_push}
use Rattle.std.specs.Global.{Vec}
use Rattle.std.specs.Option.{option_and_then}
use Rattle.pddl_syntax.specs.declared.dialect.Dialect.{Dialect}
use Rattle.pddl_syntax.specs.declared.heads.FormulaHead.TheVariants.{And, Not, Reserved, Name, Other}
use Rattle.pddl_syntax.specs.declared.heads.DomainSection.{DomainSection}
use Rattle.pddl_syntax.specs.declared.heads.DomainSection.TheVariants.{Requirements, Types, Constants, Predicates, Functions, Action}
use Rattle.pddl_syntax.specs.declared.syntax.PredicateSyntax.{PredicateSyntax}
use Rattle.pddl_syntax.specs.declared.syntax.ActionSyntax.{ActionSyntax}
use Rattle.pddl_syntax.specs.declared.syntax.NameGroup as groups
use Rattle.pddl_syntax.specs.Heads.{formula_head, domain_section}
use Rattle.pddl_syntax.specs.Keywords.{define_word, domain_word}
use Rattle.pddl_syntax.specs.Optional.{guard}
use Rattle.pddl_syntax.specs.Forms.{predicate_form, predicate_forms, action_syntax_form, action_forms, domain_sections_form}
use Rattle.pddl_syntax.specs.Trees.{Trees, none, word, list}
use Rattle.pddl_syntax.specs.Syntax.{NameGroup, VariableGroup, typed_variables, PredicateForm, ActionForm, DomainForm, DomainSections, ended, keywords_of, typed_names, with_requirements, with_types, with_constants, end_of, first_list, behind_word, header_of, lists_of, predicate_of, predicate_in, action_of, no_domain_sections, functions_of, with_predicates, with_functions, with_action, is_domain_section_given, domain_section_by, domain_section_headed, domain_section_in, domain_sections_of, domain_form, domain_by, domain_body, domain_in, domain_syntax}
use Rattle.pddl_syntax.proofs.AtomLemmas.{head_is_name}
use Rattle.pddl_syntax.proofs.ListsOf.{lists_steps}

pub predicate_untyped : (w : List ℕ) (f : Trees) → typed_variables [] f ≡ None → predicate_of w f ≡ None
unfolding predicate_of
predicate_untyped w f h = rw h refl

pub predicate_typed : (w : List ℕ) (f : Trees) (variables : List VariableGroup) → typed_variables [] f ≡ Some variables →
    predicate_of w f ≡ Some (record { name = w; variables = variables })
unfolding predicate_of
predicate_typed w f variables h = rw h refl

pub ruleset predicate_of_steps = (predicate_untyped, predicate_typed)

pub predicate_in_none : predicate_in none ≡ None
unfolding predicate_in
predicate_in_none = refl

pub predicate_in_list : (k f : Trees) → predicate_in (list k f) ≡ None
unfolding predicate_in
predicate_in_list k f = refl

pub predicate_in_name : (w : List ℕ) (f : Trees) → formula_head w ≡ Name → predicate_in (word w f) ≡ predicate_of w f
unfolding predicate_in
predicate_in_name w f h = rw h refl

pub predicate_in_and : (w : List ℕ) (f : Trees) → formula_head w ≡ And → predicate_in (word w f) ≡ None
unfolding predicate_in
predicate_in_and w f h = rw h refl

pub predicate_in_not : (w : List ℕ) (f : Trees) → formula_head w ≡ Not → predicate_in (word w f) ≡ None
unfolding predicate_in
predicate_in_not w f h = rw h refl

pub predicate_in_reserved : (w : List ℕ) (f : Trees) → formula_head w ≡ Reserved → predicate_in (word w f) ≡ None
unfolding predicate_in
predicate_in_reserved w f h = rw h refl

pub predicate_in_other : (w : List ℕ) (f : Trees) → formula_head w ≡ Other → predicate_in (word w f) ≡ None
unfolding predicate_in
predicate_in_other w f h = rw h refl

pub ruleset predicate_in_steps =
    (head_is_name, predicate_in_none, predicate_in_list, predicate_in_name, predicate_in_and, predicate_in_not, predicate_in_reserved, predicate_in_other)

pub no_predicates : predicate_forms [] ≡ []
unfolding predicate_forms
no_predicates = refl

pub predicate_forms-push : (ps : List PredicateSyntax) (p : PredicateSyntax) → predicate_forms (ps ++ p ∷ []) ≡ predicate_forms ps ++ predicate_form p ∷ []
unfolding predicate_forms
predicate_forms-push ps p = map_push predicate_form ps p

pub ruleset predicates_steps = (lists_steps, no_predicates, predicate_forms-push)

pub requirements_body : (dialect : Dialect) (given : DomainSections) (k : Trees) → keywords_of k ≡ Some tt → domain_section_by dialect Requirements given k ≡ Some (with_requirements given)
unfolding domain_section_by
requirements_body dialect given k h = rw h refl

pub no_requirements_body : (dialect : Dialect) (given : DomainSections) (k : Trees) → keywords_of k ≡ None → domain_section_by dialect Requirements given k ≡ None
unfolding domain_section_by
no_requirements_body dialect given k h = rw h refl

pub types_body : (dialect : Dialect) (given : DomainSections) (k : Trees) (value : List NameGroup) → typed_names [] k ≡ Some value →
    domain_section_by dialect Types given k ≡ Some (with_types given value)
unfolding domain_section_by
types_body dialect given k value h = rw h refl

pub no_types_body : (dialect : Dialect) (given : DomainSections) (k : Trees) → typed_names [] k ≡ None → domain_section_by dialect Types given k ≡ None
unfolding domain_section_by
no_types_body dialect given k h = rw h refl

pub constants_body : (dialect : Dialect) (given : DomainSections) (k : Trees) (value : List NameGroup) → typed_names [] k ≡ Some value →
    domain_section_by dialect Constants given k ≡ Some (with_constants given value)
unfolding domain_section_by
constants_body dialect given k value h = rw h refl

pub no_constants_body : (dialect : Dialect) (given : DomainSections) (k : Trees) → typed_names [] k ≡ None → domain_section_by dialect Constants given k ≡ None
unfolding domain_section_by
no_constants_body dialect given k h = rw h refl

pub predicates_body : (dialect : Dialect) (given : DomainSections) (k : Trees) (value : List PredicateForm) → lists_of predicate_in k ≡ Some value →
    domain_section_by dialect Predicates given k ≡ Some (with_predicates given value)
unfolding domain_section_by
predicates_body dialect given k value h = rw h refl

pub no_predicates_body : (dialect : Dialect) (given : DomainSections) (k : Trees) → lists_of predicate_in k ≡ None → domain_section_by dialect Predicates given k ≡ None
unfolding domain_section_by
no_predicates_body dialect given k h = rw h refl

pub functions_body : (dialect : Dialect) (given : DomainSections) (k : Trees) (value : List PredicateForm) → functions_of false k ≡ Some value →
    domain_section_by dialect Functions given k ≡ Some (with_functions given value)
unfolding domain_section_by
functions_body dialect given k value h = rw h refl

pub no_functions_body : (dialect : Dialect) (given : DomainSections) (k : Trees) → functions_of false k ≡ None → domain_section_by dialect Functions given k ≡ None
unfolding domain_section_by
no_functions_body dialect given k h = rw h refl

pub action_body : (dialect : Dialect) (given : DomainSections) (k : Trees) (value : ActionForm) → action_of dialect k ≡ Some value →
    domain_section_by dialect Action given k ≡ Some (with_action given value)
unfolding domain_section_by
action_body dialect given k value h = rw h refl

pub no_action_body : (dialect : Dialect) (given : DomainSections) (k : Trees) → action_of dialect k ≡ None → domain_section_by dialect Action given k ≡ None
unfolding domain_section_by
no_action_body dialect given k h = rw h refl

pub action_forms-push : (actions : List ActionSyntax) (a : ActionSyntax) → action_forms (actions ++ a ∷ []) ≡ action_forms actions ++ action_syntax_form a ∷ []
unfolding action_forms
action_forms-push actions a = map_push action_syntax_form actions a

pub with_action_form : (r : Bool) (t c : Option (Vec groups.NameGroup)) (p n : Option (Vec PredicateSyntax)) (old new : Vec ActionSyntax) (a : ActionSyntax) →
    new.items ≡ old.items ++ a ∷ [] →
    domain_sections_form (record { requirements = r; types = t; constants = c; predicates = p; functions = n; actions = new })
    ≡ with_action (domain_sections_form (record { requirements = r; types = t; constants = c; predicates = p; functions = n; actions = old })) (action_syntax_form a)
unfolding domain_sections_form
with_action_form r t c p n old new a h = rw (h, action_forms-push old.items a) refl

pub ruleset body_steps = (requirements_body, no_requirements_body, types_body, no_types_body, constants_body, no_constants_body, with_action_form, predicates_body, no_predicates_body, functions_body, no_functions_body, action_body, no_action_body, action_forms-push)

pub section_none : (dialect : Dialect) (given : DomainSections) → domain_section_in dialect given none ≡ None
unfolding domain_section_in
section_none dialect given = refl

pub section_list : (dialect : Dialect) (given : DomainSections) (k f : Trees) → domain_section_in dialect given (list k f) ≡ None
unfolding domain_section_in
section_list dialect given k f = refl

pub section_word : (dialect : Dialect) (given : DomainSections) (w : List ℕ) (f : Trees) → domain_section_in dialect given (word w f) ≡ domain_section_headed dialect (domain_section dialect w) given f
unfolding domain_section_in
section_word dialect given w f = refl

pub no_section_headed : (dialect : Dialect) (given : DomainSections) (f : Trees) → domain_section_headed dialect None given f ≡ None
unfolding domain_section_headed
no_section_headed dialect given f = refl

pub section_again : (dialect : Dialect) (headed : DomainSection) (given : DomainSections) (f : Trees) → is_domain_section_given headed given ≡ true →
    domain_section_headed dialect (Some headed) given f ≡ None
unfolding domain_section_headed guard
section_again dialect headed given f h = rw h refl

pub section_due : (dialect : Dialect) (headed : DomainSection) (given : DomainSections) (f : Trees) → is_domain_section_given headed given ≡ false →
    domain_section_headed dialect (Some headed) given f ≡ domain_section_by dialect headed given f
unfolding domain_section_headed guard
section_due dialect headed given f h = rw h refl

pub ruleset section_steps = (section_none, section_list, section_word, no_section_headed, section_again, section_due)

-- what is read behind a section
unfoldable pub sections_behind : Dialect → Option DomainSections → Trees → Option DomainSections
sections_behind dialect None others = None
sections_behind dialect (Some given) others = domain_sections_of dialect given others

sections_read : (dialect : Dialect) (given : Option DomainSections) (f : Trees) → option_and_then (λ more. domain_sections_of dialect more f) given ≡ sections_behind dialect given f
unfolding sections_behind
sections_read dialect None f = refl
sections_read dialect (Some given) f = refl

pub sections_end : (dialect : Dialect) (given : DomainSections) → domain_sections_of dialect given none ≡ Some given
unfolding domain_sections_of
sections_end dialect given = refl

pub sections_word : (dialect : Dialect) (given : DomainSections) (w : List ℕ) (f : Trees) → domain_sections_of dialect given (word w f) ≡ None
unfolding domain_sections_of
sections_word dialect given w f = refl

pub sections_list : (dialect : Dialect) (given : DomainSections) (k f : Trees) → domain_sections_of dialect given (list k f) ≡ sections_behind dialect (domain_section_in dialect given k) f
unfolding domain_sections_of
sections_list dialect given k f = sections_read dialect (domain_section_in dialect given k) f

pub no_sections_behind : (dialect : Dialect) (f : Trees) → sections_behind dialect None f ≡ None
unfolding sections_behind
no_sections_behind dialect f = refl

pub some_sections_behind : (dialect : Dialect) (given : DomainSections) (f : Trees) → sections_behind dialect (Some given) f ≡ domain_sections_of dialect given f
unfolding sections_behind
some_sections_behind dialect given f = refl

pub no_sections_form : (actions : Vec ActionSyntax) → actions.items ≡ [] →
    domain_sections_form (record { requirements = false; types = None; constants = None; predicates = None; functions = None; actions = actions }) ≡ no_domain_sections
unfolding no_domain_sections domain_sections_form action_forms
no_sections_form actions h = rw h refl

pub ruleset sections_steps = (no_sections_form, sections_end, sections_word, sections_list, no_sections_behind, some_sections_behind)

-- what is read behind `define`
unfoldable pub body_behind : Dialect → Option Trees → Option DomainForm
body_behind dialect None = None
body_behind dialect (Some f) = domain_body dialect f

body_read : (dialect : Dialect) (f : Option Trees) → option_and_then (domain_body dialect) f ≡ body_behind dialect f
unfolding body_behind
body_read dialect None = refl
body_read dialect (Some f) = refl

pub domain_behind : (dialect : Dialect) (f : Trees) → domain_in dialect f ≡ body_behind dialect (behind_word define_word f)
unfolding domain_in
domain_behind dialect f = body_read dialect (behind_word define_word f)

pub body_behind_none : (dialect : Dialect) → body_behind dialect None ≡ None
unfolding body_behind
body_behind_none dialect = refl

pub body_behind_some : (dialect : Dialect) (f : Trees) → body_behind dialect (Some f) ≡ domain_body dialect f
unfolding body_behind
body_behind_some dialect f = refl

pub no_body_list : (dialect : Dialect) (f : Trees) → first_list f ≡ None → domain_body dialect f ≡ None
unfolding domain_body first_list
no_body_list dialect none h = refl
no_body_list dialect (word w f) h = refl
no_body_list dialect (list k f) h = cc

pub body_list : (dialect : Dialect) (k f : Trees) → domain_body dialect (list k f) ≡ domain_by (header_of domain_word k) (domain_sections_of dialect no_domain_sections f)
unfolding domain_body
body_list dialect k f = refl

pub by_no_name : (given : Option DomainSections) → domain_by None given ≡ None
unfolding domain_by
by_no_name given = refl

pub by_no_sections : (name : List ℕ) → domain_by (Some name) None ≡ None
unfolding domain_by
by_no_sections name = refl

pub by_both : (name : List ℕ) (given : DomainSections) → domain_by (Some name) (Some given) ≡ Some (domain_form name given)
unfolding domain_by
by_both name given = refl

pub ruleset domain_steps = (domain_behind, body_behind_none, body_behind_some, no_body_list, body_list, by_no_name, by_no_sections, by_both)

pub domain_no_list : (dialect : Dialect) (f : Trees) → first_list f ≡ None → domain_syntax dialect f ≡ None
unfolding domain_syntax first_list
domain_no_list dialect none h = refl
domain_no_list dialect (word w f) h = refl
domain_no_list dialect (list k f) h = cc

pub domain_refused : (dialect : Dialect) (k f : Trees) → domain_in dialect k ≡ None → domain_syntax dialect (list k f) ≡ None
unfolding domain_syntax ended
domain_refused dialect k none h = h
domain_refused dialect k (word w f) h = refl
domain_refused dialect k (list j f) h = refl

pub domain_more : (dialect : Dialect) (k f : Trees) → end_of f ≡ None → domain_syntax dialect (list k f) ≡ None
unfolding domain_syntax end_of ended
domain_more dialect k none h = cc
domain_more dialect k (word w f) h = refl
domain_more dialect k (list j f) h = refl

pub domain_alone : (dialect : Dialect) (k f : Trees) → end_of f ≡ Some tt → domain_syntax dialect (list k f) ≡ domain_in dialect k
unfolding domain_syntax end_of ended
domain_alone dialect k none h = refl
domain_alone dialect k (word w f) h = cc
domain_alone dialect k (list j f) h = cc

pub ruleset domain_text_steps = (domain_no_list, domain_refused, domain_more, domain_alone)

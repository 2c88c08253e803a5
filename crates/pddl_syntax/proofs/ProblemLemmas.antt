-- The definitions of problems, one equation for each case.

use Rattle.std.proofs.Common.{◌≡◌, ℕ, Bool, true, false, List, [], Option, Some, None, unwrap_or, refl}
use Rattle.std.specs.Global.{Vec}
use Rattle.std.specs.Option.{option_map, option_and_then}
use Rattle.pddl_syntax.specs.declared.dialect.Dialect.{Dialect}
use Rattle.pddl_syntax.specs.declared.heads.Context.TheVariants as context
use Rattle.pddl_syntax.specs.declared.heads.ProblemSection.{ProblemSection}
use Rattle.pddl_syntax.specs.declared.heads.ProblemSection.TheVariants.{Domain, Requirements, Objects, Init, Goal, Metric, Length}
use Rattle.pddl_syntax.specs.declared.syntax.NameGroup as groups
use Rattle.pddl_syntax.specs.declared.walk.NameWord.{NameWord}
use Rattle.pddl_syntax.specs.Heads.{problem_section, scope_at}
use Rattle.pddl_syntax.specs.Keywords.{define_word, problem_word}
use Rattle.pddl_syntax.specs.Optional.{guard}
use Rattle.pddl_syntax.specs.Forms.{name_groups, problem_sections_form}
use Rattle.pddl_syntax.specs.Trees.{Trees, none, word, list}
use Rattle.pddl_syntax.specs.Syntax.{NameGroup, keywords_of, typed_names, with_problem_requirements, with_objects, with_metric, with_length, InitialForm, FormulaForm, ProblemForm, ProblemSections, ended, end_of, first_list, behind_word, lone_name, header_of, initial_in, lone_formula, goal_of, no_problem_sections, with_domain, with_init, with_goal, is_problem_section_given, problem_section_by, problem_section_headed, problem_section_in, problem_sections_of, problem_form, problem_by, problem_body, problem_in, problem_syntax}

pub goal_lone : (dialect : Dialect) (f : Trees) → goal_of dialect f ≡ lone_formula (scope_at dialect context.Goal) f
unfolding goal_of
goal_lone dialect f = refl

pub ruleset goal_steps = (goal_lone)

pub domain_body : (dialect : Dialect) (given : ProblemSections) (k : Trees) (value : List ℕ) → lone_name k ≡ Some value →
    problem_section_by dialect Domain given k ≡ Some (with_domain given value)
unfolding problem_section_by
domain_body dialect given k value h = rw h refl

pub no_domain_body : (dialect : Dialect) (given : ProblemSections) (k : Trees) → lone_name k ≡ None → problem_section_by dialect Domain given k ≡ None
unfolding problem_section_by
no_domain_body dialect given k h = rw h refl

pub requirements_body : (dialect : Dialect) (given : ProblemSections) (k : Trees) → keywords_of k ≡ Some tt → problem_section_by dialect Requirements given k ≡ Some (with_problem_requirements given)
unfolding problem_section_by
requirements_body dialect given k h = rw h refl

pub no_requirements_body : (dialect : Dialect) (given : ProblemSections) (k : Trees) → keywords_of k ≡ None → problem_section_by dialect Requirements given k ≡ None
unfolding problem_section_by
no_requirements_body dialect given k h = rw h refl

pub objects_body : (dialect : Dialect) (given : ProblemSections) (k : Trees) (value : List NameGroup) → typed_names [] k ≡ Some value →
    problem_section_by dialect Objects given k ≡ Some (with_objects given value)
unfolding problem_section_by
objects_body dialect given k value h = rw h refl

pub no_objects_body : (dialect : Dialect) (given : ProblemSections) (k : Trees) → typed_names [] k ≡ None → problem_section_by dialect Objects given k ≡ None
unfolding problem_section_by
no_objects_body dialect given k h = rw h refl

pub metric_body : (dialect : Dialect) (given : ProblemSections) (k : Trees) → problem_section_by dialect Metric given k ≡ Some (with_metric given)
unfolding problem_section_by
metric_body dialect given k = refl

pub length_body : (dialect : Dialect) (given : ProblemSections) (k : Trees) → problem_section_by dialect Length given k ≡ Some (with_length given)
unfolding problem_section_by
length_body dialect given k = refl

pub init_body : (dialect : Dialect) (given : ProblemSections) (k : Trees) (value : List InitialForm) → initial_in dialect k ≡ Some value →
    problem_section_by dialect Init given k ≡ Some (with_init given value)
unfolding problem_section_by
init_body dialect given k value h = rw h refl

pub no_init_body : (dialect : Dialect) (given : ProblemSections) (k : Trees) → initial_in dialect k ≡ None → problem_section_by dialect Init given k ≡ None
unfolding problem_section_by
no_init_body dialect given k h = rw h refl

pub goal_body : (dialect : Dialect) (given : ProblemSections) (k : Trees) (value : FormulaForm) → goal_of dialect k ≡ Some value →
    problem_section_by dialect Goal given k ≡ Some (with_goal given value)
unfolding problem_section_by
goal_body dialect given k value h = rw h refl

pub no_goal_body : (dialect : Dialect) (given : ProblemSections) (k : Trees) → goal_of dialect k ≡ None → problem_section_by dialect Goal given k ≡ None
unfolding problem_section_by
no_goal_body dialect given k h = rw h refl

pub ruleset body_steps = (requirements_body, no_requirements_body, objects_body, no_objects_body, metric_body, length_body, domain_body, no_domain_body, init_body, no_init_body, goal_body, no_goal_body)

pub section_none : (dialect : Dialect) (given : ProblemSections) → problem_section_in dialect given none ≡ None
unfolding problem_section_in
section_none dialect given = refl

pub section_list : (dialect : Dialect) (given : ProblemSections) (k f : Trees) → problem_section_in dialect given (list k f) ≡ None
unfolding problem_section_in
section_list dialect given k f = refl

pub section_word : (dialect : Dialect) (given : ProblemSections) (w : List ℕ) (f : Trees) → problem_section_in dialect given (word w f) ≡ problem_section_headed dialect (problem_section w) given f
unfolding problem_section_in
section_word dialect given w f = refl

pub no_section_headed : (dialect : Dialect) (given : ProblemSections) (f : Trees) → problem_section_headed dialect None given f ≡ None
unfolding problem_section_headed
no_section_headed dialect given f = refl

pub section_again : (dialect : Dialect) (headed : ProblemSection) (given : ProblemSections) (f : Trees) → is_problem_section_given headed given ≡ true →
    problem_section_headed dialect (Some headed) given f ≡ None
unfolding problem_section_headed guard
section_again dialect headed given f h = rw h refl

pub section_due : (dialect : Dialect) (headed : ProblemSection) (given : ProblemSections) (f : Trees) → is_problem_section_given headed given ≡ false →
    problem_section_headed dialect (Some headed) given f ≡ problem_section_by dialect headed given f
unfolding problem_section_headed guard
section_due dialect headed given f h = rw h refl

pub ruleset section_steps = (section_none, section_list, section_word, no_section_headed, section_again, section_due)

-- what is read behind a section
unfoldable pub sections_behind : Dialect → Option ProblemSections → Trees → Option ProblemSections
sections_behind dialect None others = None
sections_behind dialect (Some given) others = problem_sections_of dialect given others

sections_read : (dialect : Dialect) (given : Option ProblemSections) (f : Trees) → option_and_then (λ more. problem_sections_of dialect more f) given ≡ sections_behind dialect given f
unfolding sections_behind
sections_read dialect None f = refl
sections_read dialect (Some given) f = refl

pub sections_end : (dialect : Dialect) (given : ProblemSections) → problem_sections_of dialect given none ≡ Some given
unfolding problem_sections_of
sections_end dialect given = refl

pub sections_word : (dialect : Dialect) (given : ProblemSections) (w : List ℕ) (f : Trees) → problem_sections_of dialect given (word w f) ≡ None
unfolding problem_sections_of
sections_word dialect given w f = refl

pub sections_list : (dialect : Dialect) (given : ProblemSections) (k f : Trees) → problem_sections_of dialect given (list k f) ≡ sections_behind dialect (problem_section_in dialect given k) f
unfolding problem_sections_of
sections_list dialect given k f = sections_read dialect (problem_section_in dialect given k) f

pub no_sections_behind : (dialect : Dialect) (f : Trees) → sections_behind dialect None f ≡ None
unfolding sections_behind
no_sections_behind dialect f = refl

pub some_sections_behind : (dialect : Dialect) (given : ProblemSections) (f : Trees) → sections_behind dialect (Some given) f ≡ problem_sections_of dialect given f
unfolding sections_behind
some_sections_behind dialect given f = refl

pub no_sections_form : problem_sections_form (record { domain = None; requirements = false; objects = None; init = None; goal = None; metric = false; length = false }) ≡ no_problem_sections
unfolding problem_sections_form no_problem_sections
no_sections_form = refl

pub ruleset sections_steps = (no_sections_form, sections_end, sections_word, sections_list, no_sections_behind, some_sections_behind)

-- what is read behind `define`
unfoldable pub body_behind : Dialect → Option Trees → Option ProblemForm
body_behind dialect None = None
body_behind dialect (Some f) = problem_body dialect f

body_read : (dialect : Dialect) (f : Option Trees) → option_and_then (problem_body dialect) f ≡ body_behind dialect f
unfolding body_behind
body_read dialect None = refl
body_read dialect (Some f) = refl

pub problem_behind : (dialect : Dialect) (f : Trees) → problem_in dialect f ≡ body_behind dialect (behind_word define_word f)
unfolding problem_in
problem_behind dialect f = body_read dialect (behind_word define_word f)

pub body_behind_none : (dialect : Dialect) → body_behind dialect None ≡ None
unfolding body_behind
body_behind_none dialect = refl

pub body_behind_some : (dialect : Dialect) (f : Trees) → body_behind dialect (Some f) ≡ problem_body dialect f
unfolding body_behind
body_behind_some dialect f = refl

pub no_body_list : (dialect : Dialect) (f : Trees) → first_list f ≡ None → problem_body dialect f ≡ None
unfolding problem_body first_list
no_body_list dialect none h = refl
no_body_list dialect (word w f) h = refl
no_body_list dialect (list k f) h = cc

pub body_list : (dialect : Dialect) (k f : Trees) → problem_body dialect (list k f) ≡ problem_by (header_of problem_word k) (problem_sections_of dialect no_problem_sections f)
unfolding problem_body
body_list dialect k f = refl

pub by_no_name : (given : Option ProblemSections) → problem_by None given ≡ None
unfolding problem_by
by_no_name given = refl

pub by_no_sections : (name : List ℕ) → problem_by (Some name) None ≡ None
unfolding problem_by
by_no_sections name = refl

pub by_no_domain : (name : List ℕ) (r m l : Bool) (objects : Option (Vec groups.NameGroup)) (init : Option (List InitialForm)) (goal : Option FormulaForm) →
    problem_by (Some name) (Some (problem_sections_form
    (record { domain = None; requirements = r; objects = objects; init = init; goal = goal; metric = m; length = l }))) ≡ None
unfolding problem_by problem_sections_form problem_form
by_no_domain name r m l objects init goal = refl

pub by_no_goal : (name : List ℕ) (r m l : Bool) (domain : NameWord) (objects : Option (Vec groups.NameGroup)) (init : Option (List InitialForm)) →
    problem_by (Some name) (Some (problem_sections_form
    (record { domain = Some domain; requirements = r; objects = objects; init = init; goal = None; metric = m; length = l }))) ≡ None
unfolding problem_by problem_sections_form problem_form
by_no_goal name r m l domain objects init = refl

pub by_all : (name : List ℕ) (r m l : Bool) (domain : NameWord) (objects : Option (Vec groups.NameGroup)) (init : Option (List InitialForm)) (goal : FormulaForm) →
    problem_by (Some name) (Some (problem_sections_form
    (record { domain = Some domain; requirements = r; objects = objects; init = init; goal = Some goal; metric = m; length = l })))
    ≡ Some (record {
      name = name;
      domain = domain.text.now;
      objects = unwrap_or (option_map (λ v. name_groups v.items) objects) [];
      init = unwrap_or init [];
      goal = goal;
    })
unfolding problem_by problem_sections_form problem_form
by_all name r m l domain objects init goal = refl

pub ruleset problem_steps = (problem_behind, body_behind_none, body_behind_some, no_body_list, body_list, by_no_name, by_no_sections, by_no_domain, by_no_goal, by_all)

pub problem_no_list : (dialect : Dialect) (f : Trees) → first_list f ≡ None → problem_syntax dialect f ≡ None
unfolding problem_syntax first_list
problem_no_list dialect none h = refl
problem_no_list dialect (word w f) h = refl
problem_no_list dialect (list k f) h = cc

pub problem_refused : (dialect : Dialect) (k f : Trees) → problem_in dialect k ≡ None → problem_syntax dialect (list k f) ≡ None
unfolding problem_syntax ended
problem_refused dialect k none h = h
problem_refused dialect k (word w f) h = refl
problem_refused dialect k (list j f) h = refl

pub problem_more : (dialect : Dialect) (k f : Trees) → end_of f ≡ None → problem_syntax dialect (list k f) ≡ None
unfolding problem_syntax end_of ended
problem_more dialect k none h = cc
problem_more dialect k (word w f) h = refl
problem_more dialect k (list j f) h = refl

pub problem_alone : (dialect : Dialect) (k f : Trees) → end_of f ≡ Some tt → problem_syntax dialect (list k f) ≡ problem_in dialect k
unfolding problem_syntax end_of ended
problem_alone dialect k none h = refl
problem_alone dialect k (word w f) h = cc
problem_alone dialect k (list j f) h = cc

pub ruleset problem_text_steps = (problem_no_list, problem_refused, problem_more, problem_alone)

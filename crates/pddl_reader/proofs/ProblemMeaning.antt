-- What the syntax of a problem stands for, one equation for each case.

use Rattle.std.proofs.Common.{◌≡◌, List, [], Option, Some, None, unwrap_or, refl}
use Rattle.std.specs.Global.{Vec}
use Rattle.formulas.specs.Tree.{Tree}
use Rattle.pddl_syntax.specs.declared.syntax.ProblemSyntax.{ProblemSyntax}
use Rattle.pddl_syntax.specs.Forms.{name_groups, problem_syntax_form}
use Rattle.pddl_syntax.specs.Syntax.{ProblemForm}
use Rattle.pddl_reader.specs.Parts.{part_items}
use Rattle.pddl_syntax.specs.declared.syntax.NameGroup as groups
use Rattle.pddl_reader.specs.declared.resolution.initial.InitialState.{InitialState}
use Rattle.pddl_reader.specs.Conditions.{conditions_of}
use Rattle.pddl_reader.specs.Domain.{DomainValue}
use Rattle.pddl_reader.specs.Scopes.{outermost}
use Rattle.pddl_reader.specs.Variables.{no_variables}
use Rattle.pddl_reader.specs.Problem.{vocabulary_in, initial_of, costed_value, task_with, domain_extended, problem_within, problem_of}

pub meant_parts : (domain : DomainValue) (syntax : ProblemSyntax) → problem_within (problem_syntax_form syntax) (Some domain)
    ≡ task_with domain syntax.name.text.now (initial_of (vocabulary_in domain) (unwrap_or syntax.init []))
    (conditions_of domain.types (vocabulary_in domain).atoms (outermost no_variables) syntax.goal)
unfolding problem_within
meant_parts domain syntax = refl

pub no_goal : (domain : DomainValue) (syntax : ProblemSyntax) (init : InitialState) → initial_of (vocabulary_in domain) (unwrap_or syntax.init []) ≡ Some init →
    conditions_of domain.types (vocabulary_in domain).atoms (outermost no_variables) syntax.goal ≡ None → problem_within (problem_syntax_form syntax) (Some domain) ≡ None
unfolding task_with
no_goal domain syntax init h e = rw (meant_parts domain syntax, h, e) refl

pub problem_meant : (domain : DomainValue) (syntax : ProblemSyntax) (init : InitialState) (goal : List Tree) →
    initial_of (vocabulary_in domain) (unwrap_or syntax.init []) ≡ Some init →
    conditions_of domain.types (vocabulary_in domain).atoms (outermost no_variables) syntax.goal ≡ Some goal →
    problem_within (problem_syntax_form syntax) (Some domain) ≡ Some (costed_value domain syntax.name.text.now init goal)
unfolding task_with
problem_meant domain syntax init goal h e = rw (meant_parts domain syntax, h, e) refl

pub ruleset problem_steps = (no_goal)

pub objects_given : (syntax : ProblemSyntax) → (problem_syntax_form syntax).objects ≡ name_groups (part_items syntax.objects)
unfolding part_items name_groups
objects_given syntax = by syntax.objects
  where
    by : (objects : Option (Vec groups.NameGroup)) → (problem_syntax_form (record syntax { objects = objects })).objects ≡ name_groups (part_items objects)
    by None = refl
    by (Some v) = refl

pub when_extended : (domain more : DomainValue) (problem : ProblemForm) → domain_extended domain problem.objects ≡ Some more →
    problem_of domain problem ≡ problem_within problem (Some more)
unfolding problem_of
when_extended domain more problem h = rw h refl

-- What whole texts stand for, one equation for each case.

use Rattle.std.proofs.Common.{◌≡◌, ℕ, List, Some, None, refl}
use Rattle.strips_task.specs.declared.costs.CostedTask.{CostedTask}
use Rattle.pddl_syntax.specs.declared.dialect.Dialect.{Dialect}
use Rattle.pddl_syntax.specs.declared.dialect.Dialect.TheVariants.{Strips}
use Rattle.pddl_syntax.specs.declared.fault.ReadFault.{ReadFault}
use Rattle.pddl_reader.specs.Domain.{DomainValue, domain_of}
use Rattle.pddl_syntax.specs.Levels.{trees}
use Rattle.pddl_reader.specs.Problem.{problem_of}
use Rattle.pddl_syntax.specs.Syntax.{DomainForm, ProblemForm, domain_syntax, problem_syntax}
use Rattle.pddl_reader.specs.Texts.{unless_fault, domain_in_text, domain_of_text, problem_in_text, problem_of_text}
use Rattle.pddl_syntax.specs.Trees.{text_fault}

pub domain_fault : (dialect : Dialect) (text : List ℕ) (e : ReadFault) → text_fault text ≡ Some e → domain_in_text dialect text ≡ None
unfolding domain_in_text unless_fault
domain_fault dialect text e h = rw h refl

pub domain_no_syntax : (dialect : Dialect) (text : List ℕ) → text_fault text ≡ None → domain_syntax dialect (trees text) ≡ None → domain_in_text dialect text ≡ None
unfolding domain_in_text unless_fault
domain_no_syntax dialect text h e = rw (h, e) refl

pub domain_form_of : (dialect : Dialect) (text : List ℕ) (form : DomainForm) → text_fault text ≡ None → domain_syntax dialect (trees text) ≡ Some form →
    domain_in_text dialect text ≡ domain_of dialect form
unfolding domain_in_text unless_fault
domain_form_of dialect text form h e = rw (h, e) refl

pub ruleset domain_text_steps = (domain_fault, domain_no_syntax, domain_form_of)

pub problem_fault : (dialect : Dialect) (domain : DomainValue) (text : List ℕ) (e : ReadFault) → text_fault text ≡ Some e →
    problem_in_text dialect domain text ≡ None
unfolding problem_in_text unless_fault
problem_fault dialect domain text e h = rw h refl

pub problem_no_syntax : (dialect : Dialect) (domain : DomainValue) (text : List ℕ) → text_fault text ≡ None → problem_syntax dialect (trees text) ≡ None →
    problem_in_text dialect domain text ≡ None
unfolding problem_in_text unless_fault
problem_no_syntax dialect domain text h e = rw (h, e) refl

pub problem_form_of : (dialect : Dialect) (domain : DomainValue) (text : List ℕ) (form : ProblemForm) → text_fault text ≡ None →
    problem_syntax dialect (trees text) ≡ Some form → problem_in_text dialect domain text ≡ problem_of domain form
unfolding problem_in_text unless_fault
problem_form_of dialect domain text form h e = rw (h, e) refl

pub ruleset problem_text_steps = (problem_fault, problem_no_syntax, problem_form_of)

pub domain_default : (text : List ℕ) → domain_of_text text ≡ domain_in_text Strips text
unfolding domain_of_text
domain_default text = refl

pub problem_default_none : (domain : DomainValue) (text : List ℕ) → problem_in_text Strips domain text ≡ None → problem_of_text domain text ≡ None
unfolding problem_of_text
problem_default_none domain text h = rw h refl

pub problem_default : (domain : DomainValue) (text : List ℕ) (costed : CostedTask) → problem_in_text Strips domain text ≡ Some costed →
    problem_of_text domain text ≡ Some costed.task
unfolding problem_of_text
problem_default domain text costed h = rw h refl

pub ruleset default_steps = (domain_default, problem_default_none, problem_default)

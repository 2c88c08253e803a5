-- The domain and the task that texts stand for.

use Rattle.std.specs.Prelude.{ℕ, List, Option, Some, None}
use Rattle.std.specs.Option.{option_and_then, option_map}
use Rattle.strips_task.specs.declared.tasks.TaskParts.{TaskParts}
use Rattle.strips_task.specs.declared.costs.CostedTask.{CostedTask}
use Rattle.pddl_syntax.specs.declared.fault.ReadFault.{ReadFault}
use Rattle.pddl_reader.specs.Domain.{DomainValue, domain_of}
use Rattle.pddl_syntax.specs.Levels.{trees}
use Rattle.pddl_reader.specs.Problem.{problem_of}
use Rattle.pddl_syntax.specs.declared.dialect.Dialect.{Dialect}
use Rattle.pddl_syntax.specs.declared.dialect.Dialect.TheVariants.{Strips}
use Rattle.pddl_syntax.specs.Syntax.{domain_syntax, problem_syntax}
use Rattle.pddl_syntax.specs.Trees.{text_fault}

-- the value of a text that has no text fault
unfoldable pub unless_fault : {A : Type 0} → Option ReadFault → Option A → Option A
unless_fault None value = value
unless_fault (Some fault) value = None

-- the domain that a text stands for in a dialect
unfoldable pub domain_in_text : Dialect → List ℕ → Option DomainValue
domain_in_text dialect text = unless_fault (text_fault text) (option_and_then (domain_of dialect) (domain_syntax dialect (trees text)))

-- the task that a text and a domain stand for in a dialect, and what it says about costs
unfoldable pub problem_in_text : Dialect → DomainValue → List ℕ → Option CostedTask
problem_in_text dialect domain text = unless_fault (text_fault text) (option_and_then (problem_of domain) (problem_syntax dialect (trees text)))

-- the domain that a text stands for, without what the larger dialects add
unfoldable pub domain_of_text : List ℕ → Option DomainValue
domain_of_text text = domain_in_text Strips text

-- the task that a text and a domain stand for, without what the larger dialects add
unfoldable pub problem_of_text : DomainValue → List ℕ → Option TaskParts
problem_of_text domain text = option_map (λ costed. costed.task) (problem_in_text Strips domain text)

-- the task that a domain text and a problem text stand for in a dialect
unfoldable pub task_in : Dialect → List ℕ → List ℕ → Option CostedTask
task_in dialect domain problem = option_and_then (λ value. problem_in_text dialect value problem) (domain_in_text dialect domain)

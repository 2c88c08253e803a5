-- Domains and tasks put together from their parts.

use Rattle.strips_task.specs.declared.tasks.TaskParts.{TaskParts}
use Rattle.strips_task.specs.declared.costs.CostedTask.{CostedTask}
use Rattle.pddl_reader.specs.declared.resolution.domain.Head.{Head}
use Rattle.pddl_reader.specs.declared.resolution.domain.Tables.{Tables}
use Rattle.pddl_reader.specs.declared.resolution.problem.Given.{Given}
use Rattle.pddl_reader.specs.Domain.{DomainValue, domain_value}
use Rattle.pddl_reader.specs.Functions.{costs_of}
use Rattle.pddl_reader.specs.Problem.{task_named}

-- a domain of these parts
abbrev pub domain_assembled : Head → Tables → DomainValue
domain_assembled head tables = domain_value head tables.predicates tables.functions tables.actions

-- a task of a domain and what a problem gives
abbrev pub task_assembled : DomainValue → Given → TaskParts
task_assembled domain given = task_named domain given.problem given.atoms given.goal

-- the same, with what it says about costs
abbrev pub costed_assembled : DomainValue → Given → CostedTask
costed_assembled domain given = record {
  task = task_assembled domain given;
  costs = costs_of domain.functions domain.increases given.values;
}

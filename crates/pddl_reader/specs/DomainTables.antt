-- What contracts see of a domain that is kept in tables.

use Rattle.std.specs.Prelude.{◌≡◌, ◌≤◌, length, []}
use Rattle.pddl_reader.specs.declared.resolution.domain.Domain.TheInside.{Inside}
use Rattle.strips_task.specs.WellFormed.{IsWellFormed, most_predicates}
use Rattle.pddl_reader.specs.Domain.{DomainValue, domain_value, type_table}
use Rattle.strips_task.specs.declared.tasks.TaskParts.{TaskParts}

-- the record of what is kept
abbrev pub domain_kept : Inside → DomainValue
domain_kept d = domain_value d.head d.tables.predicates d.tables.functions d.tables.actions

-- the domain as a task without initial atoms and without goal conditions
abbrev pub bare_task : DomainValue → TaskParts
bare_task domain = record {
  domain = domain.name;
  problem = [];
  types = type_table domain.types;
  parents = domain.parents;
  objects = domain.objects;
  preds = domain.predicates;
  actions = domain.actions;
  init = [];
  goal = [];
}

-- a domain is well formed, each of its types has a name, and there are few functions
pub record IsDomain (domain : DomainValue) : Type 0 where
  pub fits : IsWellFormed (bare_task domain)
  pub types_named : length domain.types ≡ length domain.parents
  pub few_functions : length domain.functions ≤ most_predicates

-- A task put together from its parts has the tables of its domain.

use Rattle.std.proofs.Common.{◌≡◌, [], ◌∷◌, Option, refl, ap, sym, subst}
use Rattle.std.specs.Map.{keys_of}
use Rattle.strips_task.specs.declared.costs.Costs.{Costs}
use Rattle.strips_task.specs.declared.tasks.TaskParts.{TaskParts}
use Rattle.strips_task.specs.WellFormed.{IsWellFormed}
use Rattle.pddl_reader.specs.declared.resolution.domain.Head.{Head}
use Rattle.pddl_reader.specs.declared.resolution.domain.Tables.{Tables}
use Rattle.pddl_reader.specs.declared.resolution.problem.Given.{Given}
use Rattle.pddl_reader.specs.Assembled.{domain_assembled, task_assembled, costed_assembled}
use Rattle.pddl_reader.specs.Domain.{DomainValue, type_table}
use Rattle.pddl_reader.specs.Functions.{costs_of}
use Rattle.pddl_reader.specs.TypeOrder.{TypeNames}

-- a table of types is that of its names
same_table : (table : TypeNames) → type_table (keys_of table) ≡ table
same_table [] = refl
same_table ((name, u) ∷ entries) = ap (λ (rest : TypeNames). (name, u) ∷ rest) (same_table entries)

module _ (head : Head) (tables : Tables) (given : Given) where
  -- the parts of a task with this table of types
  abbrev parts_with : TypeNames → TaskParts
  parts_with types = record {
    domain = head.name;
    problem = given.problem;
    types = types;
    parents = head.parents;
    objects = head.objects;
    preds = tables.predicates;
    actions = tables.actions.actions;
    init = given.atoms;
    goal = given.goal;
  }

  pub parts_well_formed : (domain : DomainValue) → domain_assembled head tables ≡ domain → IsWellFormed (task_assembled domain given) → IsWellFormed (parts_with head.types)
  parts_well_formed domain is h =
      subst (λ types. IsWellFormed (parts_with types)) (same_table head.types) (subst (λ d. IsWellFormed (task_assembled d given)) (sym is) h)

  pub task_put_together : (domain : DomainValue) (task : TaskParts) (costs : Option Costs) → domain_assembled head tables ≡ domain → task ≡ parts_with head.types →
      costs ≡ costs_of tables.functions tables.actions.increases given.values → record { task = task; costs = costs } ≡ costed_assembled domain given
  task_put_together domain task costs is task_is costs_are =
      rw (← is, task_is, costs_are)
      (ap (λ types. record { task = parts_with types; costs = costs_of tables.functions tables.actions.increases given.values }) (sym (same_table head.types)))

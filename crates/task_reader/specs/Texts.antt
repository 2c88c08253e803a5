-- The task that two texts stand for.

use Rattle.std.specs.Prelude.{ℕ, List, Option, None, Some}
use Rattle.std.specs.Option.{option_and_then}
use Rattle.strips_task.specs.declared.costs.CostedTask.{CostedTask}
use Rattle.pddl_reader.specs.Texts as reader
use Rattle.pddl_syntax.specs.declared.dialect.Dialect.{Dialect}
use Rattle.task_reader.specs.declared.excess.Excess.{Excess}
use Rattle.task_reader.specs.Bindings.{excess}

-- a task, unless something in it passes the limit of bindings
unfoldable pub unless_excess : Option Excess → CostedTask → Option CostedTask
unless_excess None task = Some task
unless_excess (Some past) task = None

-- a task within the limit of bindings
unfoldable pub within_limit : CostedTask → Option CostedTask
within_limit task = unless_excess (excess task.task) task

-- the task that a domain text and a problem text stand for in a dialect. There is none if either text is not of the dialect, or if the quantifiers of an action or
-- of the goal have more bindings than the limit allows
unfoldable pub task_in : Dialect → List ℕ → List ℕ → Option CostedTask
task_in dialect domain problem = option_and_then within_limit (reader.task_in dialect domain problem)

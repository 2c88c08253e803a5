-- Refusals of a pair of texts.

use Rattle.std.specs.Prelude.{◌≡◌, ◌≢◌, ◌⊎◌, ℕ, Bool, true, false, List, Option, Some, None}
use Rattle.strips_task.specs.declared.costs.CostedTask.{CostedTask}
use Rattle.pddl_syntax.specs.declared.dialect.Dialect.{Dialect}
use Rattle.pddl_syntax.specs.declared.fault.FaultKind.{FaultKind}
use Rattle.pddl_syntax.specs.declared.fault.FaultKind.TheVariants.{OutOfMemory, TooMany}
use Rattle.pddl_syntax.specs.declared.fault.ReadFault.{ReadFault}
use Rattle.pddl_syntax.specs.Trees.{text_fault}
use Rattle.pddl_reader.specs.Domain.{DomainValue}
use Rattle.pddl_reader.specs.Texts.{domain_in_text, problem_in_text}
use Rattle.pddl_reader.specs.Texts as reader
use Rattle.task_reader.specs.declared.excess.Excess.{Excess}
use Rattle.task_reader.specs.declared.excess.Whose.{Whose}
use Rattle.task_reader.specs.declared.excess.Whose.TheVariants.{Action, Goal}
use Rattle.task_reader.specs.Bindings as bindings
use Rattle.task_reader.specs.declared.readers.TaskFault.{TaskFault}
use Rattle.task_reader.specs.declared.readers.TaskFault.TheVariants.{Domain, Problem}

-- the kind of the fault, of whichever text
abbrev pub kind_of : TaskFault → FaultKind
kind_of (Domain fault) = fault.kind
kind_of (Problem fault) = fault.kind

-- the fault is one of the text, which has no value; if bytes or parentheses of the text are wrong, it is the first such fault
pub record IsFaultOf {A : Type 0} (text : List ℕ) (value : Option A) (fault : ReadFault) : Type 0 where
  pub no_value : value ≡ None
  pub of_the_text : fault.kind ≢ OutOfMemory
  pub first : (e : ReadFault) → text_fault text ≡ Some e → fault ≡ e

-- the fault is that the task of the two texts passes the limit of bindings, in an action or in the goal
pub record IsPastLimit (dialect : Dialect) (domain problem : List ℕ) (is_there : Whose → Bool) (fault : ReadFault) : Type 0 where
  pub task : CostedTask
  pub of_texts : reader.task_in dialect domain problem ≡ Some task
  pub excess : Excess
  pub is_past : bindings.excess task.task ≡ Some excess
  pub there : is_there excess.whose ≡ true
  pub too_many : fault.kind ≡ TooMany

-- the excess is one of an action
abbrev pub is_of_action : Whose → Bool
is_of_action (Action number) = true
is_of_action Goal = false

-- the excess is one of the goal
abbrev pub is_of_goal : Whose → Bool
is_of_goal (Action number) = false
is_of_goal Goal = true

-- the refusal that a domain text and a problem text call for in a dialect: what is wrong in the domain comes first, since a problem is read with its domain, then what
-- is wrong in the problem, and then the limit of bindings
abbrev pub CallsFor : Dialect → List ℕ → List ℕ → TaskFault → Type 0
CallsFor dialect domain problem (Domain fault) = IsFaultOf domain (domain_in_text dialect domain) fault ⊎ IsPastLimit dialect domain problem is_of_action fault
CallsFor dialect domain problem (Problem fault) =
    ((value : DomainValue) × (domain_in_text dialect domain ≡ Some value) × IsFaultOf problem (problem_in_text dialect value problem) fault)
    ⊎ IsPastLimit dialect domain problem is_of_goal fault

-- the refusal tells that this excess passes the limit of bindings: of the text where it is, unless memory runs out
abbrev pub IsFaultOfExcess : Excess → TaskFault → Type 0
IsFaultOfExcess excess (Domain fault) = (is_of_action excess.whose ≡ true) × (fault.kind ≢ OutOfMemory → fault.kind ≡ TooMany)
IsFaultOfExcess excess (Problem fault) = (is_of_goal excess.whose ≡ true) × (fault.kind ≢ OutOfMemory → fault.kind ≡ TooMany)

-- The refusal that the texts of a run call for: why they have no answer.

use Rattle.std.specs.Prelude.{⊤, ◌≡◌, ℕ, ◌<◌, ◌≤◌, List, length, Option, Some, None}
use Rattle.judge_bench.specs.declared.running.RunFault.{RunFault}
use Rattle.judge_bench.specs.declared.running.RunFault.TheVariants as run
use Rattle.pddl_syntax.specs.declared.dialect.Dialect.{Dialect}
use Rattle.pddl_syntax.specs.declared.dialect.Dialect.TheVariants.{Strips}
use Rattle.strips_task.specs.declared.costs.CostedTask.{CostedTask}
use Rattle.judge_engine.specs.declared.fault.JudgeFault.{JudgeFault}
use Rattle.judge_engine.specs.declared.fault.JudgeFault.TheVariants.{TooLarge, TooManyPlanners, Domain, Problem, TooManyPlans, Steps, OutOfMemory, NoThread, Held}
use Rattle.task_reader.specs.declared.readers.TaskFault.TheVariants as reader
use Rattle.task_reader.specs.Faults.{CallsFor}
use Rattle.task_reader.specs.Texts.{task_in}
use Rattle.judge_engine.specs.Answer.{too_large, plan_count, most_planners, most_plans}
use Rattle.judge_engine.specs.Bundle.{BundleValue}

-- the fault lies in the texts, and not in the run over them
abbrev pub IsOfTexts : JudgeFault → Type 0
IsOfTexts (TooLarge large) = ⊤
IsOfTexts TooManyPlanners = ⊤
IsOfTexts (Domain fault) = ⊤
IsOfTexts (Problem fault) = ⊤
IsOfTexts TooManyPlans = ⊤
IsOfTexts (Steps fault) = ⊤
IsOfTexts OutOfMemory = ⊥
IsOfTexts NoThread = ⊥
IsOfTexts (Held job) = ⊥

-- the fault lies in the threads of the run: one could not be started, or a job is held
abbrev pub IsOfThreads : JudgeFault → Type 0
IsOfThreads (TooLarge large) = ⊥
IsOfThreads TooManyPlanners = ⊥
IsOfThreads (Domain fault) = ⊥
IsOfThreads (Problem fault) = ⊥
IsOfThreads TooManyPlans = ⊥
IsOfThreads (Steps fault) = ⊥
IsOfThreads OutOfMemory = ⊥
IsOfThreads NoThread = ⊤
IsOfThreads (Held job) = ⊤

-- the refusal for a fault of the run over the texts
abbrev pub refusal_of_run : RunFault → JudgeFault
refusal_of_run run.OutOfMemory = OutOfMemory
refusal_of_run run.NoThread = NoThread
refusal_of_run (run.Held job) = Held job

-- the refusal that a domain text and a problem text call for in a dialect
abbrev pub ReadingCallsFor : Dialect → List ℕ → List ℕ → JudgeFault → Type 0
ReadingCallsFor dialect domain problem (Domain fault) = CallsFor dialect domain problem (reader.Domain fault)
ReadingCallsFor dialect domain problem (Problem fault) = CallsFor dialect domain problem (reader.Problem fault)
ReadingCallsFor dialect domain problem (TooLarge large) = ⊥
ReadingCallsFor dialect domain problem TooManyPlanners = ⊥
ReadingCallsFor dialect domain problem TooManyPlans = ⊥
ReadingCallsFor dialect domain problem (Steps fault) = ⊥
ReadingCallsFor dialect domain problem OutOfMemory = ⊥
ReadingCallsFor dialect domain problem NoThread = ⊥
ReadingCallsFor dialect domain problem (Held job) = ⊥

-- the refusal that the texts of a run call for in a dialect, the first of: a text that is too large, too many planners, what is wrong in
-- the domain or the problem, too many plans
abbrev pub TextsCallForIn : Dialect → List ℕ → List ℕ → List BundleValue → JudgeFault → Type 0
TextsCallForIn dialect domain problem bundles (TooLarge large) = too_large domain problem bundles ≡ Some large
TextsCallForIn dialect domain problem bundles TooManyPlanners = (too_large domain problem bundles ≡ None) × (most_planners < length bundles)
TextsCallForIn dialect domain problem bundles (Domain fault) =
    (too_large domain problem bundles ≡ None) × (length bundles ≤ most_planners) × ReadingCallsFor dialect domain problem (Domain fault)
TextsCallForIn dialect domain problem bundles (Problem fault) =
    (too_large domain problem bundles ≡ None) × (length bundles ≤ most_planners) × ReadingCallsFor dialect domain problem (Problem fault)
TextsCallForIn dialect domain problem bundles TooManyPlans =
    (too_large domain problem bundles ≡ None) × (length bundles ≤ most_planners) × ((task : CostedTask) × (task_in dialect domain problem ≡ Some task)) × (most_plans < plan_count bundles)
TextsCallForIn dialect domain problem bundles (Steps fault) = ⊥
TextsCallForIn dialect domain problem bundles OutOfMemory = ⊥
TextsCallForIn dialect domain problem bundles NoThread = ⊥
TextsCallForIn dialect domain problem bundles (Held job) = ⊥

-- whether a fault is the right one for these texts, in the default dialect
abbrev pub TextsCallFor : List ℕ → List ℕ → List BundleValue → JudgeFault → Type 0
TextsCallFor domain problem bundles fault = TextsCallForIn Strips domain problem bundles fault

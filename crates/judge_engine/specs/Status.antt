-- Exit statuses.

use Rattle.std.specs.Prelude.{ℕ}
use Rattle.judge_engine.specs.declared.fault.JudgeFault.{JudgeFault}
use Rattle.judge_engine.specs.declared.fault.JudgeFault.TheVariants.{TooLarge, TooManyPlanners, Domain, Problem, TooManyPlans, Steps, OutOfMemory, NoThread, Held}

-- 1 if an input is refused, 3 if memory or threads are missing or a gate held a job
abbrev pub status_of : JudgeFault → ℕ
status_of (TooLarge large) = 1
status_of TooManyPlanners = 1
status_of (Domain fault) = 1
status_of (Problem fault) = 1
status_of TooManyPlans = 1
status_of (Steps fault) = 1
status_of OutOfMemory = 3
status_of NoThread = 3
status_of (Held job) = 3

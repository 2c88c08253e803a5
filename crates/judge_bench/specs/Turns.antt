-- What becomes of a job that a worker took.

use Rattle.std.specs.Prelude.{◌≡◌, ℕ, ⊤}
use Rattle.intake_rules.specs.Jobs.{AcceptedPlan}
use Rattle.judge_bench.specs.declared.working.WorkFault.{WorkFault}
use Rattle.judge_bench.specs.declared.working.WorkFault.TheVariants.{OutOfMemory, Held, Idle}

-- why a job was not judged: memory ran out, or the gate held this very job, as it may
abbrev pub NotJudgedFor : (ℕ → Type 0) → AcceptedPlan → WorkFault → Type 0
NotJudgedFor MayHold job OutOfMemory = ⊤
NotJudgedFor MayHold job (Held number) = (number ≡ job.number) × MayHold number
NotJudgedFor MayHold job Idle = ⊥

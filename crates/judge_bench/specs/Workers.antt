-- What is known of the workers of a run.

use Rattle.std.specs.Prelude.{◌≡◌, ℕ, List, [], ◌∷◌, Option, Some, None}
use Rattle.std.specs.declared.thread.PromisedHandle.{PromisedHandle}
use Rattle.judge_bench.specs.declared.crew.WorksAt.{WorksAt}
use Rattle.judge_bench.specs.declared.working.Ended.{Ended}
use Rattle.judge_bench.specs.declared.working.WorkFault.{WorkFault}
use Rattle.judge_bench.specs.declared.working.WorkFault.TheVariants.{Held}
use Rattle.bench_rule.specs.Views.{worker_view}
use Rattle.judge_bench.specs.Seats.{BenchFacts, SitsAt}
use Rattle.judge_bench.specs.Work.{Worked}

-- after how many rounds without a job a worker of a run ends
abbrev pub idle_rounds : ℕ
idle_rounds = 1000000000

-- a worker's seat came back and holds nothing; a job that it says the gate held is one that the gate may hold; and it worked from its first job on
pub record CameBack (bench : BenchFacts) (MayHold : ℕ → Type 0) (ended : Ended) : Type 0 where
  pub seat : SitsAt bench ended.seat
  pub nothing_held : ended.seat.view.held ≡ []
  pub may_hold : (job : ℕ) → ended.refused ≡ Some (Held job) → MayHold job
  pub worked : Worked MayHold bench.setting.slots idle_rounds (worker_view (Some bench.setting)) ended.seat.view ended.refused

-- the job that was held first: the known one, or else the one for which this worker ended
abbrev pub first_held : Option ℕ → Option WorkFault → Option ℕ
first_held (Some job) refused = Some job
first_held None (Some (Held job)) = Some job
first_held None refused = None

-- all these workers are at this bench and ask this gate
module _ {G : Type 0} where
  abbrev pub AllWorkAt : BenchFacts → G → List (PromisedHandle Ended (WorksAt G)) → Type 0
  AllWorkAt bench gate [] = Unit {0}
  AllWorkAt bench gate (child ∷ others) = (child.promise.bench.value ≡ bench) × (child.promise.gate.value ≡ gate) × AllWorkAt bench gate others

-- Workers, one more and one less.

use Rattle.std.proofs.Common.{◌≡◌, ℕ, List, [], ◌∷◌, ◌++◌, Some, None, length, refl, ap, ◌∙◌, subst}
use Rattle.std.specs.Prelude.{IfSome, Option}
use Rattle.std.specs.declared.thread.PromisedHandle.{PromisedHandle}
use Rattle.judge_bench.specs.declared.crew.WorksAt.{WorksAt}
use Rattle.judge_bench.specs.declared.working.Ended.{Ended}
use Rattle.judge_bench.specs.declared.working.WorkFault.{WorkFault}
use Rattle.judge_bench.specs.declared.working.WorkFault.TheVariants.{Held, Idle, OutOfMemory}
use Rattle.bench_rule.specs.declared.views.View.{View}
use Rattle.bench_rule.specs.Views.{worker_view}
use Rattle.judge_bench.specs.Seats.{BenchFacts, SitsAt}
use Rattle.judge_bench.specs.Work.{EndsFor, Worked}
use Rattle.judge_bench.specs.Workers.{AllWorkAt, CameBack, first_held, idle_rounds}

module _ {G : Type 0} (bench : BenchFacts) (gate : G) where
  -- one worker more that is at this bench and asks this gate
  pub one_works_too : (children : List (PromisedHandle Ended (WorksAt G))) (child : PromisedHandle Ended (WorksAt G)) → AllWorkAt bench gate children
      → child.promise.bench.value ≡ bench → child.promise.gate.value ≡ gate → AllWorkAt bench gate (children ++ child ∷ [])
  one_works_too [] child all at asks = (at, asks, tt)
  one_works_too (first ∷ children) child all at asks = (all.0, all.1, one_works_too children child all.2 at asks)

-- the job that was held first may be held, where the one that is known may, and the one for which a worker ended
pub first_may_be_held : (MayHold : ℕ → Type 0) (known : Option ℕ) (refused : Option WorkFault) → IfSome known MayHold → ((job : ℕ) → refused ≡ Some (Held job) → MayHold job)
    → IfSome (first_held known refused) MayHold
first_may_be_held MayHold (Some job) refused may its = may
first_may_be_held MayHold None (Some (Held job)) may its = its job refl
first_may_be_held MayHold None (Some OutOfMemory) may its = tt
first_may_be_held MayHold None (Some Idle) may its = tt
first_may_be_held MayHold None None may its = tt

-- a worker that began with a new seat came back
pub came_back : (bench : BenchFacts) (MayHold : ℕ → Type 0) (before : View) (ended : Ended) → SitsAt bench ended.seat → before ≡ worker_view (Some bench.setting)
    → Worked MayHold bench.setting.slots idle_rounds before ended.seat.view ended.refused → CameBack bench MayHold ended
came_back bench MayHold before ended at new worked = record {
  seat = at;
  nothing_held = worked.went.held ∙ ap (λ (v : View). v.held) new;
  may_hold = λ job is. let ends = subst (EndsFor MayHold idle_rounds ended.seat.view worked.rounds (length worked.done)) is worked.ends in ends.1;
  worked = subst (λ v. Worked MayHold bench.setting.slots idle_rounds v ended.seat.view ended.refused) new worked;
}

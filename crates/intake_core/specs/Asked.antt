-- What a step asks, with the content of its plan, whichever owner of the plan the step has.

use Rattle.std.specs.Prelude.{ℕ}
use Rattle.std.specs.Arc.{arc_value}
use Rattle.strips_task.specs.declared.plans.Plan.{Plan}
use Rattle.intake_core.specs.declared.replaying.Step.{Step}
use Rattle.intake_core.specs.declared.replaying.Step.TheVariants as step

-- to submit a plan for a planner, to close a planner, to give out a job, to hand a job back, to finish the first job with the finding of the second,
-- to emit the next finding of a planner
pub data Asked : Type 0 where
  to_submit : ℕ → Plan → Asked
  to_close : ℕ → Asked
  to_take : Asked
  to_hand_back : ℕ → Asked
  to_finish : ℕ → ℕ → Asked
  to_emit : ℕ → Asked

-- a step without the owners of its plan
abbrev pub asked : Step → Asked
asked (step.Submit planner plan) = to_submit planner (arc_value plan)
asked (step.Close planner) = to_close planner
asked step.Take = to_take
asked (step.HandBack job) = to_hand_back job
asked (step.Finish job of) = to_finish job of
asked (step.Emit planner) = to_emit planner

use Rattle.judge_engine.proofs.Fronts.{AreOfFront}
use Rattle.judge_engine.proofs.plans.cut_plans.Given as goal

-- The plans of the files so far are there, and are not too many.
abbrev pub invariant-loop-planner : goal.invariant-loop-planner
invariant-loop-planner l = AreOfFront l.bundles l.cuts.items l.planner

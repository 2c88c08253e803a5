use Rattle.std.proofs.Common.{◌≡◌, ◌++◌, drop, length}
use Rattle.judge_engine.specs.Plans.{plans_of_cuts}
use Rattle.judge_engine.specs.ReportPosition.{IsPosition, rest_text, start_of}
use Rattle.judge_engine.proofs.planner.push_plans.Given as goal

-- What was added so far and the rest are all.
abbrev pub invariant-loop-index : goal.invariant-loop-index
invariant-loop-index l = record {
  text : l.text ++ rest_text l.format l.task l.bundles l.position (plans_of_cuts l.bundles (drop l.index l.cuts))
      ≡ l.fn.text ++ rest_text l.format l.task l.bundles (start_of 0) (plans_of_cuts l.bundles l.cuts);
  position : IsPosition (length l.bundles) l.index l.position;
}

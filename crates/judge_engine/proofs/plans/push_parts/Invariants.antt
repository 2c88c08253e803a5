use Rattle.std.proofs.Common.{◌≡◌, ◌≤◌, ◌++◌, ◌-◌, length, map}
use Rattle.plan_text.specs.Bundle.{parts}
use Rattle.judge_engine.specs.Answer.{most_plans}
use Rattle.judge_engine.specs.Plans.{AreCutsOf, bytes_of, plan_of_part, plans_of_cuts}
use Rattle.judge_engine.proofs.Cutting.{plans_from}
use Rattle.judge_engine.proofs.plans.push_parts.Given as goal

-- With the plans from here on there are those of before and those of the file.
abbrev pub invariant-parts : goal.invariant-parts
invariant-parts l = record {
  start : l.start ≤ length (bytes_of l.bundles l.planner);
  few : length l.cuts.items ≤ most_plans;
  within : AreCutsOf l.bundles l.cuts.items;
  same : plans_of_cuts l.bundles l.cuts.items ++ plans_from l.planner (bytes_of l.bundles l.planner) l.start
      ≡ plans_of_cuts l.bundles l.fn.cuts.items ++ map (plan_of_part l.planner) (parts (bytes_of l.bundles l.planner));
}

abbrev pub decreases-parts : goal.decreases-parts
decreases-parts l = most_plans - length l.cuts.items

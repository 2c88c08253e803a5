use Rattle.std.proofs.Common.{◌≡◌, ◌++◌, drop, length}
use Rattle.judge_engine.specs.Plans.{plans_of_cuts}
use Rattle.judge_engine.specs.ReportPosition.{IsPosition, rest_text, start_of}
use Rattle.judge_engine.proofs.alone.push_each.Given as goal

-- What was added so far and the rest are all.
abbrev pub invariant-loop-cut : goal.invariant-loop-cut
invariant-loop-cut l = record {
  text : l.text ++ rest_text l.format l.fn.judge l.bundles l.position (plans_of_cuts l.bundles (drop l.cut-index l.cuts))
      ≡ l.fn.text ++ rest_text l.format l.fn.judge l.bundles (start_of 0) (plans_of_cuts l.bundles l.cuts);
  position : IsPosition (length l.bundles) l.cut-index l.position;
  task : l.judge ≡ l.fn.judge;
}

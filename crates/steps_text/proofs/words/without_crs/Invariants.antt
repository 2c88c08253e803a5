use Rattle.std.proofs.Common.{◌≡◌, ◌≤◌, ◌-◌, length, take}
use Rattle.std.specs.Prelude.{◌==◌}
use Rattle.std.specs.List.{suffix_len}
use Rattle.steps_text.proofs.words.without_crs.Given as goal

-- what lies behind the end are CRs
abbrev pub invariant-loop-end : goal.invariant-loop-end
invariant-loop-end l = record {
  within : l.end ≤ length l.line;
  same : take (l.end - suffix_len (λ b. b == 13) (take l.end l.line)) (take l.end l.line) ≡ take (length l.line - suffix_len (λ b. b == 13) l.line) l.line;
}

abbrev pub decreases-loop-end : goal.decreases-loop-end
decreases-loop-end l = l.end

-- Findings, planner by planner.

use Rattle.std.proofs.Common.{◌≡◌, ℕ, ◌+◌, zero, suc, List, [], ◌∷◌, map, refl, sym}
use Rattle.std.specs.Prelude.{replicate}
use Rattle.std.specs.List.{range_with_len}
use Rattle.judge_bench.specs.Findings.{of_planner, by_planner, nothing_kept}

-- where there is no finding, no planner has one
no_rows : (first planners : ℕ) → map (of_planner []) (range_with_len first planners) ≡ replicate planners []
no_rows first zero = refl
no_rows first (suc planners) = (λ i. [] ∷ no_rows (first + 1) planners i)

pub nothing_found : (planners : ℕ) → nothing_kept planners ≡ by_planner planners []
nothing_found planners = sym (no_rows 0 planners)

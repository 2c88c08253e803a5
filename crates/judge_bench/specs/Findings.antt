-- What a run finds.

use Rattle.std.specs.Prelude.{ℕ, List, [], ◌∷◌, ◌++◌, map, filter, nat_eq, replicate, slice_index_or, slice_set}
use Rattle.std.specs.List.{range_with_len}
use Rattle.strips_task.specs.declared.costs.CostedTask.{CostedTask}
use Rattle.intake_rules.specs.declared.finding.Finding.{Finding}
use Rattle.intake_rules.specs.Findings.{right_finding}
use Rattle.judge_bench.specs.Submissions.{SubmissionParts, jobs_from}

-- the findings of the jobs of a planner, in order
abbrev pub of_planner : List Finding → ℕ → List Finding
of_planner findings planner = filter (λ finding. nat_eq finding.job.planner planner) findings

-- for each planner the findings of its jobs
abbrev pub by_planner : ℕ → List Finding → List (List Finding)
by_planner planners findings = map (of_planner findings) (range_with_len 0 planners)

-- what a run finds: for each planner one right finding for each of its plans, in the order in which they were handed in
unfoldable pub findings_of : CostedTask → ℕ → List SubmissionParts → List (List Finding)
findings_of task planners plans = by_planner planners (map (right_finding task) (jobs_from 0 plans))

-- no findings, for `planners` planners
abbrev pub nothing_kept : ℕ → List (List Finding)
nothing_kept planners = replicate planners []

-- one more finding, after those of its planner
abbrev pub kept : List (List Finding) → Finding → List (List Finding)
kept lists finding = slice_set lists finding.job.planner (slice_index_or lists finding.job.planner [] ++ finding ∷ [])

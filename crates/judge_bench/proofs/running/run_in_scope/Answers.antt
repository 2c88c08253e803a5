use Rattle.std.proofs.Common.{◌≡◌, map, ap, sym, subst, ◌∙◌, List}
use Rattle.intake_rules.specs.declared.finding.Finding.{Finding}
use Rattle.judge_bench.specs.Findings.{by_planner, findings_of}
use Rattle.intake_rules.specs.Findings.{right_finding}
use Rattle.judge_bench.specs.Bookkeeping.{Numbered}
use Rattle.judge_bench.proofs.JobsOf.{numbered_from_zero}
use Rattle.judge_bench.proofs.running.run_in_scope.Goals as goal

pub finish-requires-clause-jobs : goal.finish-requires-clause-jobs
finish-requires-clause-jobs g c =
    subst Numbered (sym c.in_ok-judge_with_crew.ensures.accepted.jobs) (numbered_from_zero (g.I.Intake.to_come c.args.intake.now))

pub returns : goal.returns
unfolding findings_of
returns g c = record {
  findings = c.in_ok-finish.ensures ∙ ap (λ l. by_planner c.args.shared.now.planners (map (right_finding c.args.shared.now.task.now) l)) c.in_ok-judge_with_crew.ensures.accepted.jobs;
  held = tt;
}

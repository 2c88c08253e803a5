use Rattle.std.proofs.Common.{length, sym, subst}
use Rattle.std.proofs.lemmas.Option.{MatchOption-at_none, MatchOption-at_some}
use Rattle.judge_bench.specs.Keeping.{KeptFindings}
use Rattle.judge_bench.specs.Submissions.{job_of}
use Rattle.judge_bench.proofs.Emissions.{posted}
use Rattle.judge_bench.proofs.OwnersRun.{all_accepted, one_accepted}
use Rattle.judge_bench.proofs.collector.Collector.accept_all.Goals as goal

pub loop-submission-preserved : goal.loop-submission-preserved
loop-submission-preserved g c =
    let setting = c.args.bench.now.setting in
    let to_come = g.I.Intake.to_come in
    let view = c.loop-submission.self.owner.view in
    let findings = c.loop-submission.self.findings in
    let later = c.accept.new.self.owner.view in
    let job = job_of (length view.jobs) c.in-Some.submission in
    let at = MatchOption-at_some _ _ c.in-Some.submission c.in-Some.is c.in_ok-submission.ensures in record {
      sits = c.accept.ensures.seat;
      kept = subst (KeptFindings setting.task.value setting.planners later) (sym c.accept.ensures.findings)
          (subst (λ v. KeptFindings setting.task.value setting.planners v findings) (sym c.accept.ensures.view)
          (posted setting.task.value setting.planners view findings c.loop-submission.invariant.kept job));
      so_far = one_accepted setting.slots setting.planners c.args.self.now.owner.view view (to_come c.args.intake.now) (to_come c.loop-submission.intake) c.loop-submission.invariant.so_far
          c.in-Some.submission (to_come c.next.new.self) at later c.accept.ensures.view;
    }

pub returns-clause-jobs : goal.returns-clause-jobs
returns-clause-jobs g c =
    all_accepted _ _ _ _ _ _ c.loop-submission.invariant.so_far (MatchOption-at_none _ _ c.in_default.is c.in_ok-submission.ensures).0

use Rattle.intake_rules.proofs.SameJobs as jobs
use Rattle.intake_rules.proofs.laws.same_jobs_are_equal.Goals as goal

pub returns : goal.returns
returns c = jobs.compares_jobs c.args._job.now c.args._other.now

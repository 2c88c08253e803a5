use Rattle.intake_core.proofs.Runs.{headline}
use Rattle.intake_core.proofs.replaying.replay.Goals as goal

pub returns-in-Err-clause-headline : goal.returns-in-Err-clause-headline
returns-in-Err-clause-headline c = headline _ _ _ _

pub returns-in-Ok-clause-headline : goal.returns-in-Ok-clause-headline
returns-in-Ok-clause-headline c = headline _ _ _ _

-- The refusals by name.

use Rattle.std.specs.Prelude.{ℕ, List, codes}
use Rattle.intake_rules.specs.declared.refusal.Refusal.{Refusal}
use Rattle.intake_rules.specs.declared.refusal.Refusal.TheVariants.{NoPlanner, Closed, Full, AlreadyClosed, UnknownJob, AlreadyFinished, NotOut, OtherPlan, NotReady, NothingYet, Complete}

-- the name of a refusal, as reports print it
abbrev pub refusal_word : Refusal → List ℕ
refusal_word NoPlanner = codes "NoPlanner"
refusal_word Closed = codes "Closed"
refusal_word Full = codes "Full"
refusal_word AlreadyClosed = codes "AlreadyClosed"
refusal_word UnknownJob = codes "UnknownJob"
refusal_word AlreadyFinished = codes "AlreadyFinished"
refusal_word NotOut = codes "NotOut"
refusal_word OtherPlan = codes "OtherPlan"
refusal_word (NotReady job) = codes "NotReady"
refusal_word NothingYet = codes "NothingYet"
refusal_word Complete = codes "Complete"

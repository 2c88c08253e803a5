-- What single steps of the reader do to an open plan.

use Rattle.std.specs.Prelude.{◌≡◌, ℕ, ◌<◌, [], length, Option, Some, None}
use Rattle.strips_task.specs.OpenPlan.{OpenPlan}
use Rattle.plan_text.specs.declared.want.Want.{Want}
use Rattle.plan_text.specs.declared.want.Want.TheVariants.{Step, Number, Opening, Action, Argument}
use Rattle.plan_text.specs.declared.want.Expected.{Expected}
use Rattle.plan_text.specs.PlanGrammar.{Symbol, most_steps}
use Rattle.plan_text.specs.PlanReading.{Reading, read_on}

-- what was read, as an open plan and what is expected hold it
abbrev pub reading : Expected → OpenPlan → Reading
reading expected plan = record { want = expected.want; least = expected.least_stamp; steps = plan.steps; words = plan.words }

-- the open plan fits what may come next: between steps no word is open, and a step that is begun has room and, once named, a word
abbrev pub IsReady : Want → OpenPlan → Type 0
IsReady Step plan = plan.words ≡ []
IsReady Number plan = plan.words ≡ []
IsReady Opening plan = (plan.words ≡ []) × (length plan.steps < most_steps)
IsReady Action plan = (plan.words ≡ []) × (length plan.steps < most_steps)
IsReady Argument plan = (0 < length plan.words) × (length plan.steps < most_steps)

-- a token was read and led to this reading, or it may not come here
abbrev pub LeadsTo : Option Expected → OpenPlan → Option Reading → Type 0
LeadsTo None new next = next ≡ None
LeadsTo (Some expected) new next = (next ≡ Some (reading expected new)) × IsReady expected.want new

-- a token was read, or it may not come here
abbrev pub ReadsOn : Option Expected → Expected → OpenPlan → Symbol → OpenPlan → Type 0
ReadsOn next expected old symbol new = LeadsTo next new (read_on (reading expected old) symbol)

-- a token outside steps was read, or it may not come here, whichever `steps` steps are before it
abbrev pub ReadsBetween : Option Expected → Expected → ℕ → Symbol → Type 0
ReadsBetween next expected steps symbol =
    (plan : OpenPlan) → length plan.steps ≡ steps → IsReady expected.want plan → ReadsOn next expected plan symbol plan

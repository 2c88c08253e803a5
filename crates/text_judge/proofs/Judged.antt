-- A walk and a judge that go together.

use Rattle.std.proofs.Common.{List}
use Rattle.strips_task.specs.declared.steps.StepText.{StepText}
use Rattle.plan_text.specs.Walks.{Walk}
use Rattle.text_judge.specs.Judging.{Judging, HasTaken}
use Rattle.text_judge.specs.Passes.{AreTogether}

-- only the judge changes, and it has taken the same steps
pub together_still : (walk : Walk) (judging after : Judging) → AreTogether walk judging
    → ((steps : List StepText) → HasTaken judging steps → HasTaken after steps) → AreTogether walk after
together_still walk judging after before same = (before.0, before.1, same before.0 before.2)

-- What a reader keeps of a line, as the definitions name it.

use Rattle.intake_core.specs.Asked.{asked}
use Rattle.steps_text.specs.declared.line.Meaning.{Meaning}
use Rattle.steps_text.specs.declared.line.Meaning.TheVariants as kept
use Rattle.steps_text.specs.Lines as lines

-- the meaning of a line as the definitions see it
abbrev pub shown : Meaning → lines.Meaning
shown (kept.Desk planners slots) = lines.desk planners slots
shown (kept.Step step) = lines.step (asked step)
shown kept.Strange = lines.strange

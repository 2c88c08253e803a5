-- How a desk is related to histories of events and replies.

use Rattle.std.specs.Prelude.{◌≡◌, ◌++◌, ℕ, [], ◌∷◌}
use Rattle.intake_rules.specs.declared.reply.Reply.{Reply}
use Rattle.intake_rules.specs.History.{History, IsLawful, TakesLeast, left_by}
use Rattle.intake_rules.specs.Rules.{Event}
use Rattle.intake_core.specs.State.{DeskState}

-- a lawful history for `planners` planners, in which each take gave out the least job that waited, leaves the desk as it is
pub record Leaves (planners : ℕ) (history : History) (desk : DeskState) : Type 0 where
  pub lawful : IsLawful planners desk.slots history
  pub least : TakesLeast planners history
  pub left : left_by planners history ≡ desk.intake

-- every history that leaves the old desk leaves the new one once this event and this reply are added at its end
abbrev pub GoesOn : DeskState → DeskState → Event → Reply → Type 0
GoesOn old new event answer = (planners : ℕ) (history : History) → Leaves planners history old → Leaves planners (history ++ (event, answer) ∷ []) new

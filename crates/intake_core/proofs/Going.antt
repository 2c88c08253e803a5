-- A call that answers by the rules takes each history on.

use Rattle.std.proofs.Common.{◌≡◌, ◌++◌, ℕ, [], ◌∷◌, ap, sym, ◌∙◌, subst}
use Rattle.intake_rules.specs.declared.reply.Reply.{Reply}
use Rattle.intake_rules.specs.History.{History, TakesLeast, left_by}
use Rattle.intake_rules.specs.Intake.{empty_intake}
use Rattle.intake_rules.specs.Rules.{Event, Allows, reply_to, after}
use Rattle.intake_rules.proofs.Lawful.{empty_history, one_more, least_goes_on}
use Rattle.intake_core.specs.Histories.{Leaves, GoesOn}
use Rattle.intake_core.specs.State.{DeskState, desk_reply, desk_after}

-- the history with the answer of the rules
by_rules : (old : DeskState) (event : Event) (planners : ℕ) (history : History) → Leaves planners history old
    → Leaves planners (history ++ (event, desk_reply old event) ∷ []) (desk_after old event (desk_reply old event))
by_rules old event planners history leaves =
    let answer_is : reply_to old.slots (left_by planners history) event ≡ desk_reply old event = ap (λ intake. reply_to old.slots intake event) leaves.left in
    let next = least_goes_on planners old.slots history event in
    let allowed : Allows old.slots (left_by planners history) event (desk_reply old event) = subst (Allows old.slots (left_by planners history) event) answer_is next.0 in
    let more = one_more planners old.slots history event (desk_reply old event) leaves.lawful allowed in
    record {
      lawful = more.0;
      least = subst (λ answer. TakesLeast planners (history ++ (event, answer) ∷ [])) answer_is (next.1 leaves.least);
      left = more.1 ∙ ap (λ intake. after intake event (desk_reply old event)) leaves.left;
    }

pub goes-on : (old new : DeskState) (event : Event) (answer : Reply) → answer ≡ desk_reply old event → new ≡ desk_after old event answer → GoesOn old new event answer
goes-on old new event answer reply state planners history leaves =
    let after_is : desk_after old event (desk_reply old event) ≡ new = ap (desk_after old event) (sym reply) ∙ sym state in
    subst (Leaves planners (history ++ (event, answer) ∷ [])) after_is
    (subst (λ a. Leaves planners (history ++ (event, a) ∷ []) (desk_after old event (desk_reply old event))) (sym reply) (by_rules old event planners history leaves))

-- where nothing was asked
pub begins : (planners : ℕ) (desk : DeskState) → desk.intake ≡ empty_intake planners → Leaves planners [] desk
begins planners desk empty =
    let none = empty_history planners desk.slots in
    record { lawful = none.0; least = none.1; left = none.2 ∙ sym empty }

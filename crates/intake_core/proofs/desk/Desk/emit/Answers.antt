use Rattle.std.proofs.Common.{◌≡◌, ap, sym, ◌∙◌, refl, Some}
use Rattle.intake_rules.specs.declared.reply.Reply.TheVariants as reply
use Rattle.intake_rules.specs.Rules.{emit}
use Rattle.std.specs.Prelude.{option_map}
use Rattle.intake_rules.specs.Jobs.{AcceptedPlan}
use Rattle.intake_rules.specs.Intake.{with_emitted}
use Rattle.intake_core.specs.State.{with_intake}
use Rattle.intake_core.proofs.Going.{goes-on}
use Rattle.intake_core.proofs.desk.Desk.emit.Goals as goal

pub returns-in-Err-clause-history : goal.returns-in-Err-clause-history
returns-in-Err-clause-history c =
    goes-on c.args.self.now c.args.self.now (emit c.args.planner) (reply.Refused c.in-Err.refusal) (sym c.in-Err.ensures) refl

pub returns-in-Ok-clause-history : goal.returns-in-Ok-clause-history
returns-in-Ok-clause-history c =
    let some : Some c.in-Ok.number ≡ Some c.give_out.result.job.number = sym c.in-Ok.ensures.next ∙ ap (option_map (λ (job : AcceptedPlan). job.number)) c.give_out.ensures.next in
    let same : c.in-Ok.number ≡ c.give_out.result.job.number = cc in
    goes-on c.args.self.now _ (emit c.args.planner) (reply.Emitted c.give_out.result) (sym c.give_out.ensures.reply)
    (c.give_out.ensures.state ∙ ap (λ number. with_intake c.args.self.now (with_emitted c.args.self.now.intake c.args.planner number)) same)

use Rattle.std.proofs.Common.{ap, sym, ◌∙◌, refl}
use Rattle.std.proofs.Common.{length}
use Rattle.std.specs.Arc.{arc_value}
use Rattle.intake_rules.specs.declared.reply.Reply.TheVariants as reply
use Rattle.intake_rules.specs.Intake.{with_job}
use Rattle.intake_rules.specs.Rules.{submit, refused_or}
use Rattle.intake_core.specs.State.{with_intake}
use Rattle.intake_core.proofs.Going.{goes-on}
use Rattle.intake_core.proofs.desk.Desk.submit.Goals as goal

pub returns-in-Some-clause-history : goal.returns-in-Some-clause-history
returns-in-Some-clause-history c =
    goes-on c.args.self.now c.args.self.now (submit c.args.planner (arc_value c.args.plan)) (reply.Refused c.in-Some.refusal)
    (sym (ap (λ r. refused_or r (reply.Accepted (length c.args.self.now.intake.jobs))) (sym c.submit_refusal.ensures ∙ c.in-Some.is))) refl

pub returns-in-None-clause-history : goal.returns-in-None-clause-history
returns-in-None-clause-history c =
    goes-on c.args.self.now _ (submit c.args.planner (arc_value c.args.plan)) (reply.Accepted c.accept.result)
    (ap reply.Accepted c.accept.ensures.number ∙ sym (ap (λ r. refused_or r (reply.Accepted (length c.args.self.now.intake.jobs))) (sym c.submit_refusal.ensures ∙ c.in-None.is)))
    (c.accept.ensures.state ∙ ap (λ plan. with_intake c.args.self.now (with_job c.args.self.now.intake c.args.planner plan)) c.from_plan-plan.ensures)

use Rattle.std.proofs.Common.{ap, sym, ◌∙◌, refl}
use Rattle.intake_rules.specs.declared.reply.Reply.TheVariants as reply
use Rattle.intake_rules.specs.Rules.{close, refused_or}
use Rattle.intake_core.proofs.Going.{goes-on}
use Rattle.intake_core.proofs.desk.Desk.close.Goals as goal

pub returns-in-Some-clause-history : goal.returns-in-Some-clause-history
returns-in-Some-clause-history c =
    goes-on c.args.self.now c.args.self.now (close c.args.planner) (reply.Refused c.in-Some.refusal)
    (sym (ap (λ r. refused_or r reply.ClosedNow) (sym c.close_refusal.ensures ∙ c.in-Some.is))) refl

pub returns-in-None-clause-history : goal.returns-in-None-clause-history
returns-in-None-clause-history c =
    goes-on c.args.self.now _ (close c.args.planner) reply.ClosedNow
    (sym (ap (λ r. refused_or r reply.ClosedNow) (sym c.close_refusal.ensures ∙ c.in-None.is))) c.mark_closed.ensures

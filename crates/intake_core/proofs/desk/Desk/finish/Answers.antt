use Rattle.std.proofs.Common.{ap, sym, ◌∙◌, refl, Some}
use Rattle.intake_rules.specs.declared.reply.Reply.TheVariants as reply
use Rattle.intake_rules.specs.Rules.{finish, refused_or}
use Rattle.intake_core.proofs.Going.{goes-on}
use Rattle.intake_core.proofs.desk.Desk.finish.Goals as goal

pub returns-in-Some-clause-history : goal.returns-in-Some-clause-history
returns-in-Some-clause-history c =
    goes-on c.args.self.now c.args.self.now (finish c.args.job (Some c.args.finding)) (reply.Refused c.in-Some.refusal)
    (sym (ap (λ r. refused_or r reply.Finished) (sym c.finish_refusal.ensures ∙ c.in-Some.is))) refl

pub returns-in-None-clause-history : goal.returns-in-None-clause-history
returns-in-None-clause-history c =
    goes-on c.args.self.now _ (finish c.args.job (Some c.args.finding)) reply.Finished
    (sym (ap (λ r. refused_or r reply.Finished) (sym c.finish_refusal.ensures ∙ c.in-None.is))) c.store.ensures

use Rattle.std.proofs.Common.{◌≡◌, Some, true, false, sym, ◌∙◌, subst}
use Rattle.std.specs.Prelude.{slice_get, option_map}
use Rattle.intake_rules.specs.declared.refusal.Refusal.TheVariants as refusal
use Rattle.intake_rules.specs.declared.reply.Reply.TheVariants as reply
use Rattle.intake_rules.specs.Intake.{has_planner, next_job}
use Rattle.intake_rules.specs.Rules.{emit_reply}
use Rattle.intake_core.proofs.Emitting.{nothing, not-ready, knows, next-is, closed-of, looked-up}
use Rattle.intake_core.proofs.desk.Desk.next_ready.Goals as goal

pub returns-then-is_finished : goal.returns-then-is_finished
returns-then-is_finished c =
    let at : slice_get c.self.inside.planners.items c.args.planner ≡ Some c.in-Some.row.now = looked-up _ _ _ _ c.deref.ensures.value c.in-Some.ensures.lookup.0 c.in-Some.ensures.lookup.1 in
    record {
      known = subst (λ desk. has_planner desk.intake c.args.planner ≡ true) c.self.view_is (knows c.self.inside.table.items c.self.inside.planners.items _ _ at);
      next = subst (λ desk. option_map (λ job. job.number) (next_job desk.intake c.args.planner) ≡ Some c.in-Some-next.number) c.self.view_is
          (next-is c.self.inside.table.items c.self.inside.planners.items _ _ at (c.self.invariant.0.lines _ _ at) ∙ c.in-Some-next.is);
      finished = sym c.is_finished.ensures ∙ c.if-is_finished.true;
    }

pub returns-else-is_finished : goal.returns-else-is_finished
returns-else-is_finished c =
    let at : slice_get c.self.inside.planners.items c.args.planner ≡ Some c.in-Some.row.now = looked-up _ _ _ _ c.deref.ensures.value c.in-Some.ensures.lookup.0 c.in-Some.ensures.lookup.1 in
    not-ready c.args.self.now.intake c.args.planner c.in-Some-next.number
    (subst (λ desk. has_planner desk.intake c.args.planner ≡ true) c.self.view_is (knows c.self.inside.table.items c.self.inside.planners.items _ _ at))
    (subst (λ desk. option_map (λ job. job.number) (next_job desk.intake c.args.planner) ≡ Some c.in-Some-next.number) c.self.view_is
    (next-is c.self.inside.table.items c.self.inside.planners.items _ _ at (c.self.invariant.0.lines _ _ at) ∙ c.in-Some-next.is))
    (sym c.is_finished.ensures ∙ c.if-is_finished.false)

pub returns-in-None-next : goal.returns-in-None-next
returns-in-None-next c =
    let at : slice_get c.self.inside.planners.items c.args.planner ≡ Some c.in-Some.row.now = looked-up _ _ _ _ c.deref.ensures.value c.in-Some.ensures.lookup.0 c.in-Some.ensures.lookup.1 in
    subst (λ desk. emit_reply desk.intake c.args.planner ≡ reply.Refused refusal.Complete) c.self.view_is
    (nothing _ c.args.planner true (knows c.self.inside.table.items c.self.inside.planners.items _ _ at)
    (next-is c.self.inside.table.items c.self.inside.planners.items _ _ at (c.self.invariant.0.lines _ _ at) ∙ c.in-None-next.is)
    (closed-of c.self.inside.table.items c.self.inside.planners.items _ _ at ∙ c.if-row.true))

pub returns-in-None-2 : goal.returns-in-None-2
returns-in-None-2 c =
    let at : slice_get c.self.inside.planners.items c.args.planner ≡ Some c.in-Some.row.now = looked-up _ _ _ _ c.deref.ensures.value c.in-Some.ensures.lookup.0 c.in-Some.ensures.lookup.1 in
    subst (λ desk. emit_reply desk.intake c.args.planner ≡ reply.Refused refusal.NothingYet) c.self.view_is
    (nothing _ c.args.planner false (knows c.self.inside.table.items c.self.inside.planners.items _ _ at)
    (next-is c.self.inside.table.items c.self.inside.planners.items _ _ at (c.self.invariant.0.lines _ _ at) ∙ c.in-None-2.is)
    (closed-of c.self.inside.table.items c.self.inside.planners.items _ _ at ∙ c.if-row.false))

use Rattle.std.proofs.Common.{◌<◌, ap, sym, ◌∙◌, refl, length, arith}
use Rattle.intake_rules.specs.declared.stage.Stage.TheVariants.{Out}
use Rattle.intake_rules.specs.Rules.{taken, take_job}
use Rattle.intake_rules.specs.Intake.{with_stage, least_waiting}
use Rattle.intake_rules.specs.Answers.{take_reply}
use Rattle.intake_core.specs.Rows.{intake_in, stages_in}
use Rattle.intake_core.proofs.Keeping.{kept-waiting, kept-as, state-changes, same-intake, length-jobs}
use Rattle.intake_core.proofs.Waiting.{least-same, least-lt}
use Rattle.intake_core.specs.State.{desk_after}
use Rattle.intake_core.proofs.Going.{goes-on}
use Rattle.intake_core.proofs.desk.Desk.take.Goals as goal

pub returns-in_err-number-clause-reply : goal.returns-in_err-number-clause-reply
returns-in_err-number-clause-reply c =
    ap take_reply c.from_residual.ensures
    ∙ ap taken (sym c.in_err-number.was ∙ least-same c.self.inside.waiting (stages_in c.self.inside.table.items) c.self.invariant.0.waiting_is c.least_waiting.result c.least_waiting.ensures)
    ∙ ap (λ desk. taken (least_waiting desk.intake)) c.self.view_is

pub clear_bit-requires : goal.clear_bit-requires
clear_bit-requires c =
    let within : c.in_ok-number.number < length (stages_in c.self.inside.table.items) =
    least-lt c.self.inside.waiting (stages_in c.self.inside.table.items) c.self.invariant.0.waiting_is c.least_waiting.result c.in_ok-number.number c.least_waiting.ensures c.in_ok-number.was in
    omega (arith, within, c.self.invariant.0.staged, c.self.invariant.0.room, c.self.invariant.0.few)

pub set_stage-requires : goal.set_stage-requires
set_stage-requires c =
    let within : c.in_ok-number.number < length (stages_in c.self.inside.table.items) =
    least-lt c.self.inside.waiting (stages_in c.self.inside.table.items) c.self.invariant.0.waiting_is c.least_waiting.result c.in_ok-number.number c.least_waiting.ensures c.in_ok-number.was in
    omega (arith, within, c.self.invariant.0.staged, length-jobs c.self.inside.table.items)

pub invariant_of-self : goal.invariant_of-self
invariant_of-self c =
    let within : c.in_ok-number.number < length (stages_in c.self.inside.table.items) =
    least-lt c.self.inside.waiting (stages_in c.self.inside.table.items) c.self.invariant.0.waiting_is c.least_waiting.result c.in_ok-number.number c.least_waiting.ensures c.in_ok-number.was in (
      kept-as _ _ _ _ _ _ _ _ _ _ _ c.set_stage.ensures.jobs c.set_stage.ensures.stages c.set_stage.ensures.links refl
          (kept-waiting _ _ _ _ _ _ _ c.self.invariant.0 c.in_ok-number.number Out _ (omega (arith, within, c.self.invariant.0.staged)) c.clear_bit.ensures.changed (λ finding e. cc)),
      omega (arith, c.set_stage.ensures.capacity, c.self.invariant.1),
    )

pub returns-clause-reply : goal.returns-clause-reply
returns-clause-reply c =
    ap taken (sym c.in_ok-number.was ∙ least-same c.self.inside.waiting (stages_in c.self.inside.table.items) c.self.invariant.0.waiting_is c.least_waiting.result c.least_waiting.ensures)
    ∙ ap (λ desk. taken (least_waiting desk.intake)) c.self.view_is

pub returns-clause-state : goal.returns-clause-state
returns-clause-state c =
    state-changes c.self.inside.task.value c.self.inside.limit (intake_in c.self.inside.table.items c.self.inside.planners.items) _ c.args.self.now (λ intake. with_stage intake c.in_ok-number.number Out)
    (same-intake _ _ c.set_stage.ensures.jobs c.set_stage.ensures.stages refl refl)
    c.self.view_is

pub returns-in_err-number-clause-history : goal.returns-in_err-number-clause-history
returns-in_err-number-clause-history c =
    goes-on c.args.self.now c.args.self.now take_job (take_reply c.from_residual.result) (returns-in_err-number-clause-reply c) (ap (λ o. desk_after c.args.self.now take_job (take_reply o)) (sym c.from_residual.ensures))

pub returns-clause-history : goal.returns-clause-history
returns-clause-history c = goes-on _ _ _ _ (returns-clause-reply c) (returns-clause-state c)

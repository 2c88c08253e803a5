use Rattle.std.proofs.Common.{[], refl, sym, ◌∙◌, ap}
use Rattle.formulas.specs.Grounding.{with_objects}
use Rattle.strips_judge.specs.NumberedState.{state_of}
use Rattle.strips_judge.specs.State.{holds}
use Rattle.strips_judge.proofs.StepLaws.{mapped_more, missing-none, missing-more_holds, grounded_holds}
use Rattle.step_codes.proofs.numbered_steps.all_hold.Goals as goal

pub loop-condition-init : goal.loop-condition-init
loop-condition-init c = record { none = sym (missing-none c.args.task.now (state_of c.args.state.now)); same = refl }

pub loop-condition-preserved : goal.loop-condition-preserved
loop-condition-preserved c =
    let task = c.args.task.now in
    let objects = c.args.objects.now in
    let more = mapped_more (with_objects objects []) c.args.conditions.now c.loop-condition.condition-index c.condition-item.result c.loop-condition-test.true c.condition-item.is in
    let answer = grounded_holds task (state_of c.args.state.now) objects c.condition-item.result
    ∙ sym (c.in_ok-holds.ensures.answer ∙ ap (λ s. holds task (state_of s) objects c.condition-item.result) c.loop-condition.invariant.same) in
    record {
      none = missing-more_holds task (state_of c.args.state.now) _ _ _ (with_objects objects [] c.condition-item.result) more c.loop-condition.invariant.none (answer ∙ c.if-not-branch.false);
      same = c.holds.ensures.same ∙ c.loop-condition.invariant.same;
    }

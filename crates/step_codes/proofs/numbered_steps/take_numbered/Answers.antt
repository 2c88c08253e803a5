use Rattle.std.proofs.Common.{rules, ◌≡◌, Some, None, ap, sym, ◌∙◌}
use Rattle.strips_judge.specs.NumberedState.{state_of}
use Rattle.strips_judge.specs.Step.{after_by, hindrance, objects_named}
use Rattle.step_codes.proofs.numbered_steps.take_numbered.Goals as goal

pub returns-clause-taken : goal.returns-clause-taken
returns-clause-taken c = λ t step is. (
  (let free : hindrance c.args.task.now (state_of c.args.state.now) step ≡ None = search rules in free),
  c.in_ok-apply.ensures.state
      ∙ (λ j. after_by c.args.task.now (c.in-Some.ensures.objects step is j) (state_of (c.all_hold.ensures.same j)) (Some c.in-Some.action.now))
      ∙ ap (after_by c.args.task.now (objects_named c.args.task.now step.args) (state_of c.args.state.now)) (sym (c.in-Some.ensures.named step is)),
)

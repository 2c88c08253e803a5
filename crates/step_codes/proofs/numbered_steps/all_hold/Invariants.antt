use Rattle.std.proofs.Common.{◌≡◌, [], map, take}
use Rattle.formulas.specs.Grounding.{with_objects}
use Rattle.strips_judge.specs.NumberedState.{state_of}
use Rattle.strips_judge.specs.Step.{missing}
use Rattle.step_codes.proofs.numbered_steps.all_hold.Given as goal

abbrev pub invariant-loop-condition : goal.invariant-loop-condition
invariant-loop-condition l = record {
  none : [] ≡ missing l.task (state_of l.fn.state) (map (with_objects l.objects []) (take l.condition-index l.conditions));
  same : l.state ≡ l.fn.state;
}

use Rattle.std.proofs.Common.{◌≡◌, [], take, map}
use Rattle.formulas.specs.Grounding.{with_objects}
use Rattle.step_codes.specs.Codes.{AsksFor}
use Rattle.strips_judge.specs.NumberedState.{state_of, Grows}
use Rattle.step_codes.proofs.codes.ask_all.Given as goal

abbrev pub invariant-loop-condition : goal.invariant-loop-condition
invariant-loop-condition l =
    AsksFor l.arguments.task.now l.state.atoms (map (with_objects l.arguments.objects.now []) (take l.condition-index l.conditions)) l.code
    × (state_of l.state ≡ state_of l.initial.state) × Grows l.initial.state l.state

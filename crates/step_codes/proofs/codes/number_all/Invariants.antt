use Rattle.std.proofs.Common.{◌≡◌, take, map}
use Rattle.strips_judge.specs.NumberedState.{AreNumbers, state_of, Grows}
use Rattle.strips_judge.specs.Grounding.{ground}
use Rattle.step_codes.proofs.codes.number_all.Given as goal

abbrev pub invariant-loop-pattern : goal.invariant-loop-pattern
invariant-loop-pattern l =
    AreNumbers l.state.atoms (map (ground l.objects) (take l.pattern-index l.patterns)) l.numbers.items
    × (state_of l.state ≡ state_of l.initial.state) × Grows l.initial.state l.state

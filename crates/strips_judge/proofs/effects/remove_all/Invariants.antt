use Rattle.std.proofs.Common.{◌≡◌, map, take}
use Rattle.strips_judge.specs.Grounding.{ground}
use Rattle.strips_judge.specs.NumberedState.{Grows, state_of}
use Rattle.strips_judge.specs.State.{without}
use Rattle.strips_judge.proofs.effects.remove_all.Given as goal

abbrev pub invariant-loop-pattern : goal.invariant-loop-pattern
invariant-loop-pattern l =
    (state_of l.state ≡ without (state_of l.initial.state) (map (ground l.objects) (take l.pattern-index l.patterns))) × Grows l.initial.state l.state

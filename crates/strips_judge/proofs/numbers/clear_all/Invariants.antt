use Rattle.std.proofs.Common.{◌≡◌, take, List}
use Rattle.formulas.specs.declared.atoms.Atom.{Atom}
use Rattle.strips_judge.specs.NumberedState.{AreNumbers}
use Rattle.strips_judge.specs.NumberedState.{state_of}
use Rattle.strips_judge.specs.State.{without}
use Rattle.strips_judge.proofs.numbers.clear_all.Given as goal

abbrev pub invariant-loop-number : goal.invariant-loop-number
invariant-loop-number l =
    (l.state.atoms ≡ l.initial.state.atoms) × (l.state.initial ≡ l.initial.state.initial)
    × ((ground : List Atom) → AreNumbers l.initial.state.atoms ground l.numbers → state_of l.state ≡ without (state_of l.initial.state) (take l.number-index ground))

use Rattle.std.proofs.Common.{◌≡◌, take, List, All}
use Rattle.formulas.specs.declared.atoms.Atom.{Atom}
use Rattle.strips_judge.specs.NumberedState.{AreNumbers, state_of}
use Rattle.step_codes.proofs.codes.all_are.Given as goal

abbrev pub invariant-loop-number : goal.invariant-loop-number
invariant-loop-number l =
    (ground : List Atom) → AreNumbers l.state.atoms ground l.numbers → All (λ atom. state_of l.state atom ≡ l.truth) (take l.number-index ground)

use Rattle.std.proofs.Common.{sym, ap, ◌∙◌}
use Rattle.strips_task.specs.AtomKeys.{atom_of}
use Rattle.strips_task.specs.AtomNumbers.{number_in}
use Rattle.strips_judge.specs.NumberedState.{Numbered}
use Rattle.strips_judge.proofs.state.NumberedState.look_up_packed.Goals as goal

pub returns-in-Some-number_at-clause-number : goal.returns-in-Some-number_at-clause-number
returns-in-Some-number_at-clause-number c =
    sym (c.self.invariant.1.right c.args.key c.in-Some.cell c.in-Some-number_at.number (sym c.in-Some.ensures) c.in-Some-number_at.ensures.number)
    ∙ ap (λ (s : Numbered). number_in s.atoms (atom_of c.args.key)) c.self.view_is

use Rattle.formulas.specs.Meaning.{atom_of}
use Rattle.strips_task.proofs.Numbering.{number_in-lt}
use Rattle.strips_judge.proofs.state.NumberedState.insert.Goals as goal

pub set-requires : goal.set-requires
set-requires c = number_in-lt c.number.new.self.atoms (atom_of c.args.objects.now c.args.bound.now c.args.pattern.now) c.in_ok-number.number c.in_ok-number.ensures.number

use Rattle.formulas.proofs.Connectives.{not_moves}
use Rattle.formulas.proofs.laws.not_moves_inwards.Goals as goal

pub returns : goal.returns
returns c = not_moves

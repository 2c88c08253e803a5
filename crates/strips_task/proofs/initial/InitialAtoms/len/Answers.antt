use Rattle.std.proofs.Common.{length, ap, arith}
use Rattle.strips_task.proofs.Numbered.{length-shown}
use Rattle.strips_task.proofs.initial.InitialAtoms.len.Goals as goal

pub returns : goal.returns
returns c = omega (arith, length-shown c.self.inside.distinct c.self.inside.numbers.items c.self.invariant.0, ap length c.self.view_is)

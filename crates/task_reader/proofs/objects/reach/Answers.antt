use Rattle.std.proofs.Common.{arith}
use Rattle.task_reader.proofs.Counting.{zeros_next}
use Rattle.task_reader.proofs.objects.reach.Goals as goal

pub types-preserved : goal.types-preserved
types-preserved c =
    zeros_next c.types.exact.items c.push.new.self.items c.args.type_number _ c.in_ok-push.ensures.items (omega (arith, c.types-test.true, c.len.ensures)) c.types.invariant

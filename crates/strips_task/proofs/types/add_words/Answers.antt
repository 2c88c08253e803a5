use Rattle.std.proofs.Common.{◌<◌, ◌/◌, arith}
use Rattle.strips_task.proofs.TypeRows.{row_added}
use Rattle.strips_task.proofs.types.add_words.Goals as goal

pub returns : goal.returns
returns g c =
    λ k few.
    row_added c.args.joined.now c.words.joined c.args.table.now c.args.first k
    (c.words.invariant.done (k / 64) (let within : k / 64 < c.words.index = omega arith in within))

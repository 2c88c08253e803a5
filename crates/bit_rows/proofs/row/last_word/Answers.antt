use Rattle.bit_rows.proofs.Bits.{last_word}
use Rattle.bit_rows.proofs.row.last_word.Goals as goal

pub returns : goal.returns
returns c = last_word c.args.count

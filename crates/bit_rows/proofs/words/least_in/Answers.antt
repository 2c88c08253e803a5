use Rattle.std.proofs.Common.{w64}
use Rattle.std.proofs.lemmas.Nat.Bits.{bit_at-trailing_zeros}
use Rattle.bit_rows.proofs.words.least_in.Goals as goal

pub returns : goal.returns
returns c =
    let lowest = bit_at-trailing_zeros w64 c.args.word c.requires c.ranges.word.fits in
    record { within = lowest.0; set = lowest.1; least = lowest.2 }

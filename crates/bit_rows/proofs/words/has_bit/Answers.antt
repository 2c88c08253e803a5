use Rattle.std.proofs.Common.{ap, ◌%◌, nat_eq}
use Rattle.std.proofs.lemmas.Nat.Bits.{shr_and_one}
use Rattle.bit_rows.proofs.words.has_bit.Goals as goal

pub returns : goal.returns
returns c = ap (λ b. nat_eq b 1) (shr_and_one _ (c.args.bit % 64))

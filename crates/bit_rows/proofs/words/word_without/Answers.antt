use Rattle.std.proofs.Common.{w64}
use Rattle.std.proofs.lemmas.Nat.{and_le_l}
use Rattle.std.proofs.lemmas.Nat.Bits.{bit_at_clear_same, bit_at_clear_other}
use Rattle.bit_rows.proofs.words.word_without.Goals as goal

pub returns : goal.returns
returns c =
    record {
      cleared = bit_at_clear_same w64 _ _ c.requires;
      others = bit_at_clear_other w64 _ _ c.requires;
      no_more = and_le_l _ _;
    }

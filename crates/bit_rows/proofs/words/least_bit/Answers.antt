use Rattle.std.proofs.Common.{arith, ap, sym, ◌∙◌, ◌≡◌, ◌+◌, ◌*◌, ◌%◌, ◌<◌}
use Rattle.bit_rows.specs.Rows.{row_has}
use Rattle.bit_rows.proofs.Bits.{used-lt, row_has-in}
use Rattle.bit_rows.proofs.words.least_bit.Goals as goal

pub bounds-words-index : goal.bounds-words-index
bounds-words-index c = used-lt c.args.words.now c.args.index c.requires.used

pub returns : goal.returns
returns c =
    record {
      set = row_has-in c.args.words.now c.args.index c.least_in.result 1 c.least_in.ensures.within c.least_in.ensures.set;
      index = omega arith;
      least = λ k same lt.
          let low : k % 64 < c.least_in.result = omega arith in
          let bit : k % 64 < 64 = omega arith in
          let whole : c.args.index * 64 + k % 64 ≡ k = omega arith in
          ap (row_has c.args.words.now) (sym whole) ∙ row_has-in c.args.words.now c.args.index (k % 64) 0 bit (c.least_in.ensures.least (k % 64) low);
    }

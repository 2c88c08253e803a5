use Rattle.std.proofs.Common.{◌/◌, sym, subst, ◌<◌, get_or-set_same}
use Rattle.bit_rows.proofs.Bits.{changes, positive}
use Rattle.bit_rows.proofs.words.set_bit.Goals as goal

pub returns : goal.returns
returns c =
    record {
      changed = changes c.args.words.now c.args.bit c.word_with.result 1 c.requires c.word_with.ensures.set (λ j _ apart. c.word_with.ensures.others j apart);
      word = subst (λ w. 0 < w) (sym (get_or-set_same c.args.words.now (c.args.bit / 64) c.word_with.result 0 c.requires)) (positive _ _ c.word_with.ensures.set);
    }

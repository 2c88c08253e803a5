use Rattle.std.proofs.Common.{ap, ◌/◌, sym, subst, ◌≤◌, nat_eq, slice_index, get_or-set_same}
use Rattle.bit_rows.proofs.Bits.{changes}
use Rattle.bit_rows.proofs.words.clear_bit.Goals as goal

pub returns : goal.returns
returns c =
    let at = sym (get_or-set_same c.args.words.now (c.args.bit / 64) c.word_without-word.result 0 c.requires) in
    record {
      changed = changes c.args.words.now c.args.bit c.word_without-word.result 0 c.requires c.word_without-word.ensures.cleared c.word_without-word.ensures.others;
      word = subst (λ w. w ≤ slice_index c.args.words.now (c.args.bit / 64)) at c.word_without-word.ensures.no_more;
      empty = ap (λ w. nat_eq w 0) at;
    }

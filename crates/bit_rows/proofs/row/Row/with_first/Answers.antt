use Rattle.std.proofs.Common.{◌/◌, ◌≤◌, ◌≡◌, ◌+◌, length, arith, refl, vec_len}
use Rattle.bit_rows.proofs.Bits.{cut_last}
use Rattle.bit_rows.proofs.row.Row.with_first.Goals as goal

pub returns-clause-first : goal.returns-clause-first
returns-clause-first c =
    let empty : vec_len c.new-words.result ≤ 0 = omega (arith, c.new-words.ensures.len) in
    let long : length c.resize.new.self.items ≡ c.args.count / 64 + 1 = omega (arith, c.in_ok-resize.ensures.len) in
    cut_last c.resize.new.self.items c.args.count c.last_word.result long
    (λ j lt. c.in_ok-resize.ensures.by_index.1 j 0 refl (omega arith) lt) c.last_word.ensures

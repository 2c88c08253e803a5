use Rattle.std.proofs.Common.{arith, ◌≡◌, ◌∙◌, ◌<◌, ap, length, get_or-set_same, nat_eq}
use Rattle.std.proofs.lemmas.List.{get_or_past}
use Rattle.std.specs.Int.{bit_at}
use Rattle.bit_rows.proofs.Bits.{row_has-split, zeros_behind, none_behind}
use Rattle.bit_rows.proofs.row.set_first.Goals as goal

pub returns-then-not-is_empty-clause-first : goal.returns-then-not-is_empty-clause-first
returns-then-not-is_empty-clause-first c =
    let some : 0 < length c.fill-2.new.self = grind (arith, c.if-not-is_empty.true, c.is_empty.ensures) in
    row_has-split c.fill.new.self _ c.args.count _ c.split_at_mut-full.ensures.front_len (c.fill.ensures.after (λ y same. same))
    (λ bit within. ap (λ w. nat_eq (bit_at w bit) 1) (get_or-set_same c.fill-2.new.self 0 c.last_word.result 0 some) ∙ c.last_word.ensures bit within)
    (zeros_behind c.fill-2.new.self _ c.last_word.result (c.fill-2.ensures.after (λ y same. same)))

pub returns-else-not-is_empty-clause-first : goal.returns-else-not-is_empty-clause-first
returns-else-not-is_empty-clause-first c =
    let none : length c.fill-2.new.self ≡ 0 = grind (arith, c.if-not-is_empty.false, c.is_empty.ensures) in
    row_has-split c.fill.new.self c.fill-2.new.self c.args.count _ c.split_at_mut-full.ensures.front_len (c.fill.ensures.after (λ y same. same))
    (none_behind c.fill-2.new.self c.args.count none (omega (arith, none, c.requires, c.split_at_mut-full.ensures.back_len, c.fill-2.ensures.len)))
    (λ j behind. get_or_past c.fill-2.new.self j 0 (omega (arith, none)))

use Rattle.std.proofs.Common.{List, sym, ◌∙◌, subst}
use Rattle.atomic_table.specs.Table.{opening}
use Rattle.bench_rule.specs.declared.contents.Item.{Item}
use Rattle.bench_rule.specs.Sound.{Sound}
use Rattle.bench_rule.specs.Views.{first_view}
use Rattle.bench_rule.proofs.Seats.{starts}
use Rattle.bench_rule.proofs.tables.make_table.Goals as goal

pub new-requires : goal.new-requires
new-requires c =
    let setting = c.args.setting.now in
    subst (λ (slots : List Item). Sound setting (opening c.deref.result.now slots (first_view setting))) (sym c.in_ok-slots.ensures)
    (starts _ _ (c.deref.ensures.value ∙ c.in_ok-words.ensures.items_if_clones_equal (λ y e. e)))

use Rattle.std.proofs.Common.{◌≡◌, replicate}
use Rattle.bench_rule.specs.declared.contents.Item.TheVariants.{Nothing}
use Rattle.bench_rule.proofs.tables.empty_slots.Given as goal

-- There is nothing in each slot so far.
abbrev pub invariant-loop : goal.invariant-loop
invariant-loop l = l.slots.items ≡ replicate l.counter Nothing

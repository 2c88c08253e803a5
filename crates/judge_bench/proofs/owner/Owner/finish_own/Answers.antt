use Rattle.std.proofs.Common.{rules, ◌≡◌, ◌<◌, refl, sym, subst, ap, arith}
use Rattle.atomic_table.specs.Seated.{TableId}
use Rattle.bench_rule.specs.Views.{HoldsJob}
use Rattle.judge_bench.proofs.Holding.{slot_within}
use Rattle.judge_bench.proofs.Owning.{kept_as, finish_keeps}
use Rattle.judge_bench.proofs.owner.Owner.finish_own.Goals as goal

pub finish-requires-clause-slot : goal.finish-requires-clause-slot
finish-requires-clause-slot c =
    let held : HoldsJob c.ticket.inside.slot c.ticket.inside.job c.self.inside.seat.me.0.held = search rules in
    let table : c.words.result.now.table_id ≡ c.self.inside.seat.table_id = search rules in
    subst (λ (t : TableId). c.ticket.inside.slot < t.slots) (sym table) (slot_within _ _ _ _ c.self.invariant.0.within held)

pub invariant_of-self : goal.invariant_of-self
invariant_of-self c =
    let held : HoldsJob c.ticket.inside.slot c.ticket.inside.job c.self.inside.seat.me.0.held = search rules in
    (kept_as _ _ _ _ _ _ _ _ _ _ _ _ c.finish.ensures.seat.0 c.finish.ensures.seat.1 c.finish.ensures.finished refl (finish_keeps _ _ _ _ _ _ _ _ c.self.invariant.0 _ _ held), omega (arith, ap (λ (t : TableId). t.slots) c.finish.ensures.seat.0, c.self.invariant.1))

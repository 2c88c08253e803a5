use Rattle.std.proofs.Common.{rules, ◌≡◌, ◌<◌, refl, sym, subst, ap, arith}
use Rattle.atomic_table.specs.Seated.{TableId}
use Rattle.bench_rule.specs.Views.{HoldsJob}
use Rattle.judge_bench.specs.Bookkeeping.{OwnerBooks}
use Rattle.judge_bench.proofs.Holding.{slot_within}
use Rattle.judge_bench.proofs.Owning.{kept_as, hand_back_keeps}
use Rattle.judge_bench.proofs.owner.Owner.hand_back_own.Goals as goal

pub hand_back-requires-clause-slot : goal.hand_back-requires-clause-slot
hand_back-requires-clause-slot c =
    let held : HoldsJob c.ticket.inside.slot c.ticket.inside.job c.self.inside.seat.me.0.held = search rules in
    let table : c.words.result.now.table_id ≡ c.self.inside.seat.table_id = search rules in
    subst (λ (t : TableId). c.ticket.inside.slot < t.slots) (sym table) (slot_within _ _ _ _ c.self.invariant.0.within held)

pub invariant_of-self : goal.invariant_of-self
invariant_of-self c =
    let held : HoldsJob c.ticket.inside.slot c.ticket.inside.job c.self.inside.seat.me.0.held = search rules in
    let first = c.min-self-inside.ensures in (
      subst (OwnerBooks c.hand_back.new.seat.table_id c.hand_back.new.seat.id c.hand_back.new.seat.me c.self.inside.planners.items c.self.inside.cursors.items c.self.inside.closed.items c.self.inside.seats_out) (sym first)
          (kept_as _ _ _ _ _ _ _ _ _ _ _ _ c.hand_back.ensures.seat.0 c.hand_back.ensures.seat.1 c.hand_back.ensures.handed_back refl (hand_back_keeps _ _ _ _ _ _ _ _ c.self.invariant.0 _ _ held)),
      omega (arith, ap (λ (t : TableId). t.slots) c.hand_back.ensures.seat.0, c.self.invariant.1),
    )

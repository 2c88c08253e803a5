use Rattle.std.proofs.Common.{[], ◌∷◌, ◌++◌, ap, refl, sym, ◌∙◌, subst, arith}
use Rattle.atomic_table.specs.Seated.{TableId}
use Rattle.bench_rule.specs.declared.contents.Item.TheVariants.{Nothing}
use Rattle.bench_rule.specs.Views.{IsNext, with_emission}
use Rattle.judge_bench.specs.Seats.{SeatFacts}
use Rattle.judge_bench.proofs.Owning.{kept_as, emit_keeps}
use Rattle.judge_bench.proofs.owner.Owner.emit_next.Goals as goal

pub invariant_of-self : goal.invariant_of-self
invariant_of-self c =
    let (job, next, his, number) = c.requires.next in
    let here : IsNext c.self.inside.seat.me.0 c.args.slot job = subst (λ (s : SeatFacts). IsNext s.view c.args.slot job) (sym c.self.view_is) next in
    let emitted = (c.in-Some.ensures.emitted job here).2 ∙ ap (λ planner. (with_emission c.self.inside.seat.me.0 planner, c.self.inside.seat.me.1 ++ (c.args.slot, Nothing) ∷ [])) his in (
      kept_as _ _ _ _ _ _ _ _ _ _ _ _ c.in-Some.ensures.seat.0 c.in-Some.ensures.seat.1 emitted refl (emit_keeps _ _ _ _ _ _ _ _ c.self.invariant.0 c.args.planner c.args.slot job here his),
      omega (arith, ap (λ (t : TableId). t.slots) c.in-Some.ensures.seat.0, c.self.invariant.1),
    )

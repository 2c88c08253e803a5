use Rattle.std.proofs.Common.{rules, ◌≡◌, ◌<◌, length, None, ap, sym, ◌∙◌, subst, arith}
use Rattle.atomic_table.specs.Seated.{TableId}
use Rattle.intake_rules.specs.Rules.{submit_refusal}
use Rattle.judge_bench.specs.Seats.{SeatFacts, accepted_intake}
use Rattle.judge_bench.proofs.Opening.{open_if_accepted}
use Rattle.judge_bench.proofs.Owning.{kept_as, post_keeps}
use Rattle.judge_bench.proofs.owner.Owner.accept.Goals as goal

pub post-requires-clause-open : goal.post-requires-clause-open
post-requires-clause-open c =
    open_if_accepted c.args.bench.now.setting.slots c.self.inside.seat.me.0 c.args.planner
    (subst (λ (s : SeatFacts). submit_refusal c.args.bench.now.setting.slots (accepted_intake s.view) c.args.planner ≡ None) (sym c.self.view_is) c.requires.open)

pub invariant_of-self : goal.invariant_of-self
invariant_of-self c =
    let number : c.jobs-number.result ≡ length c.self.inside.seat.me.0.jobs = c.jobs-number.ensures ∙ ap (λ (s : SeatFacts). length s.view.jobs) (sym c.self.view_is) in
    let inside : length c.self.inside.seat.me.0.jobs < c.self.inside.seat.table_id.slots = search (rules, arith) in (
      kept_as _ _ _ _ _ _ _ _ _ _ _ _ c.post.ensures.seat.0 c.post.ensures.seat.1 c.post.ensures.posted c.push_reserved.ensures.items (post_keeps _ _ _ _ _ _ _ _ c.self.invariant.0 _ inside number),
      omega (arith, ap (λ (t : TableId). t.slots) c.post.ensures.seat.0, c.push_reserved.ensures.capacity, c.self.invariant.1),
    )

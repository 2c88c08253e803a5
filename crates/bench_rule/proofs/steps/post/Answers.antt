use Rattle.std.proofs.Common.{rules, arith, refl, ap, ◌∙◌}
use Rattle.bench_rule.proofs.Carried.{front}
use Rattle.bench_rule.proofs.Posts.{lift_allowed, lifted_up, post_allowed, posted_at}
use Rattle.bench_rule.proofs.steps.post.Goals as goal

pub load-requires : goal.load-requires
load-requires c = (search rules, omega arith, lift_allowed _ _ _ _ _ c.requires.owner.1 c.requires.slot.0 c.requires.slot.1 c.requires.owner.2)

pub exchange-requires : goal.exchange-requires
exchange-requires c = let t = c.load.ensures.2 c.args.slot refl in (search rules, (t.0, front _ _ _ _ (ap (λ z. z.1) t.1)))

pub store-requires : goal.store-requires
store-requires c = let t = c.load.ensures.2 c.args.slot refl in let e = lifted_up c.args.seat.now.me _ _ _ _ _ t.1 c.exchange.ensures.3 in
    (search rules, omega arith, post_allowed _ _ _ _ c.args.seat.now.me _ _ (c.exchange.ensures.1 ∙ (c.load.ensures.1 ∙ c.requires.owner.1)) c.requires.slot.0 c.requires.slot.1 c.requires.number e)

pub returns-clause-posted : goal.returns-clause-posted
returns-clause-posted c = let t = c.load.ensures.2 c.args.slot refl in let e = lifted_up c.args.seat.now.me _ _ _ _ _ t.1 c.exchange.ensures.3 in posted_at _ _ c.args.seat.now.me c.args.slot c.args.job e (c.store.ensures.2)

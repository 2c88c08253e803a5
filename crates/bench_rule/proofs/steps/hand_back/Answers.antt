use Rattle.std.proofs.Common.{rules, arith, refl}
use Rattle.bench_rule.specs.declared.contents.Item.TheVariants.{Waiting}
use Rattle.bench_rule.specs.Views.{with_handed_back}
use Rattle.bench_rule.proofs.Counts.{held_often}
use Rattle.bench_rule.proofs.Finishes.{hand_back_allowed, given, given_keeps}
use Rattle.bench_rule.proofs.steps.hand_back.Goals as goal

pub lay-requires-clause-held : goal.lay-requires-clause-held
lay-requires-clause-held c = held_often _ _ _ c.requires.held

pub store-requires : goal.store-requires
store-requires c = (search rules, omega arith, hand_back_allowed _ _ _ _ c.args.seat.now.me _ _ c.requires.held c.lay.ensures.laid)

pub returns-clause-handed_back : goal.returns-clause-handed_back
returns-clause-handed_back c = given c.args.seat.now.me _ _ _ (Waiting c.args.job) with_handed_back c.lay.ensures.laid (c.store.ensures.2 c.args.slot refl)

pub returns-clause-carried : goal.returns-clause-carried
returns-clause-carried c = given_keeps _ _ c.args.seat.now.me _ (with_handed_back c.args.seat.now.me.0 c.args.slot) refl c.requires.held (given c.args.seat.now.me _ _ _ (Waiting c.args.job) with_handed_back c.lay.ensures.laid (c.store.ensures.2 c.args.slot refl))

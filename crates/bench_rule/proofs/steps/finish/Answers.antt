use Rattle.std.proofs.Common.{rules, arith, refl}
use Rattle.bench_rule.specs.declared.contents.Item.TheVariants.{Done}
use Rattle.bench_rule.specs.Views.{with_finished}
use Rattle.bench_rule.proofs.Counts.{held_often}
use Rattle.bench_rule.proofs.Finishes.{finish_allowed, given, given_keeps}
use Rattle.bench_rule.proofs.steps.finish.Goals as goal

pub lay-requires-clause-held : goal.lay-requires-clause-held
lay-requires-clause-held c = held_often _ _ _ c.requires.held

pub store-requires : goal.store-requires
store-requires c = (search rules, omega arith, finish_allowed _ _ _ _ c.args.seat.now.me _ _ c.requires.held c.lay.ensures.laid c.requires.right)

pub returns-clause-finished : goal.returns-clause-finished
returns-clause-finished c = given c.args.seat.now.me _ _ _ (Done c.args.finding) with_finished c.lay.ensures.laid (c.store.ensures.2 c.args.slot refl).0

pub returns-clause-count : goal.returns-clause-count
returns-clause-count c = (c.store.ensures.2 c.args.slot refl).1

pub returns-clause-carried : goal.returns-clause-carried
returns-clause-carried c = given_keeps _ _ c.args.seat.now.me _ (with_finished c.args.seat.now.me.0 c.args.slot) refl c.requires.held (given c.args.seat.now.me _ _ _ (Done c.args.finding) with_finished c.lay.ensures.laid (c.store.ensures.2 c.args.slot refl).0)

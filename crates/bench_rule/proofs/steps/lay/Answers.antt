use Rattle.bench_rule.specs.declared.contents.Item.TheVariants.{Nothing}
use Rattle.std.proofs.Common.{rules, arith, refl, ap}
use Rattle.bench_rule.proofs.Carried.{front}
use Rattle.bench_rule.proofs.Finishes.{brings, laid}
use Rattle.bench_rule.proofs.steps.lay.Goals as goal

pub load-requires : goal.load-requires
load-requires c = (search rules, omega arith, brings _ _ _ _ _ c.requires.seat.1.0 c.requires.held c.requires.seat.1.1)

pub exchange-requires : goal.exchange-requires
exchange-requires c = (search rules, (Nothing, front _ _ _ _ (ap (λ z. z.1) (c.load.ensures.2 c.args.slot refl))))

pub returns-clause-laid : goal.returns-clause-laid
returns-clause-laid c = laid _ _ _ _ _ (c.load.ensures.2 c.args.slot refl) c.exchange.ensures.3

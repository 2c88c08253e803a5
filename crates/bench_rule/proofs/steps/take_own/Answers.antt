use Rattle.std.proofs.Common.{rules, arith, refl, ap}
use Rattle.bench_rule.specs.declared.contents.Item.TheVariants.{Waiting}
use Rattle.bench_rule.proofs.Carried.{front, front_content}
use Rattle.bench_rule.proofs.Takes.{take_own_allowed, took_out, took_keeps, same_keeps}
use Rattle.bench_rule.proofs.steps.take_own.Goals as goal

pub compare_exchange-requires : goal.compare_exchange-requires
compare_exchange-requires c = (search rules, omega arith, take_own_allowed _ _ _ _ _ c.requires.owner.1 c.requires.slot)

pub exchange-requires : goal.exchange-requires
exchange-requires c = let t = (c.compare_exchange.ensures.2 c.args.slot refl).0 c.if-compare_exchange-ne-WAITING.false in
    (search rules, (Waiting t.0, front _ _ _ _ (ap (λ z. z.1) t.1)))

pub job_in-requires : goal.job_in-requires
job_in-requires c = let t = (c.compare_exchange.ensures.2 c.args.slot refl).0 c.if-compare_exchange-ne-WAITING.false in
    (t.0, front_content _ _ _ _ _ (ap (λ z. z.1) t.1) c.exchange.ensures.2)

pub returns-clause-took : goal.returns-clause-took
returns-clause-took c = let t = (c.compare_exchange.ensures.2 c.args.slot refl).0 c.if-compare_exchange-ne-WAITING.false in took_out _ _ _ _ _ _ _ t c.exchange.ensures.2 c.job_in.ensures c.exchange.ensures.3

pub returns-then-compare_exchange-ne-WAITING-clause-took : goal.returns-then-compare_exchange-ne-WAITING-clause-took
returns-then-compare_exchange-ne-WAITING-clause-took c = (c.compare_exchange.ensures.2 c.args.slot refl).1 c.if-compare_exchange-ne-WAITING.true

pub returns-clause-alone : goal.returns-clause-alone
returns-clause-alone c = λ idle. ((c.compare_exchange.ensures.2 c.args.slot refl).2 idle).0 c.if-compare_exchange-ne-WAITING.false

pub returns-then-compare_exchange-ne-WAITING-clause-carried : goal.returns-then-compare_exchange-ne-WAITING-clause-carried
returns-then-compare_exchange-ne-WAITING-clause-carried c = same_keeps _ _ ((c.compare_exchange.ensures.2 c.args.slot refl).1 c.if-compare_exchange-ne-WAITING.true)

pub returns-clause-carried : goal.returns-clause-carried
returns-clause-carried c = let t = (c.compare_exchange.ensures.2 c.args.slot refl).0 c.if-compare_exchange-ne-WAITING.false in
    took_keeps _ _ _ _ _ (took_out _ _ _ _ _ _ _ t c.exchange.ensures.2 c.job_in.ensures c.exchange.ensures.3)

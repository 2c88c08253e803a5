use Rattle.std.proofs.Common.{rules, arith, refl, ap}
use Rattle.bench_rule.specs.declared.contents.Item.TheVariants.{Done}
use Rattle.bench_rule.proofs.Carried.{front, front_content}
use Rattle.bench_rule.proofs.Emits.{emit_allowed, emit_out, emit_keeps, miss_keeps}
use Rattle.bench_rule.proofs.steps.emit.Goals as goal

pub compare_exchange-requires : goal.compare_exchange-requires
compare_exchange-requires c = let next = c.requires.slot.1 in (search rules, omega arith, emit_allowed _ _ _ _ _ _ c.requires.owner.1 next.1 c.requires.slot.0)

pub exchange-requires : goal.exchange-requires
exchange-requires c = let next = c.requires.slot.1 in let t = (c.compare_exchange.ensures.2 c.args.slot next.0 refl next.1.job_of_slot).0 c.if-compare_exchange-ne-FINISHED.false in
    (search rules, (Done t.0, front _ _ _ _ (ap (λ z. z.1) t.3)))

pub finding_in-finding-requires : goal.finding_in-finding-requires
finding_in-finding-requires c = let next = c.requires.slot.1 in let t = (c.compare_exchange.ensures.2 c.args.slot next.0 refl next.1.job_of_slot).0 c.if-compare_exchange-ne-FINISHED.false in
    (t.0, front_content _ _ _ _ _ (ap (λ z. z.1) t.3) c.exchange.ensures.2)

pub returns-clause-emitted : goal.returns-clause-emitted
returns-clause-emitted c = λ job next. let t = (c.compare_exchange.ensures.2 c.args.slot job refl next.job_of_slot).0 c.if-compare_exchange-ne-FINISHED.false in
    emit_out _ _ _ _ _ _ _ _ t c.exchange.ensures.2 c.finding_in-finding.ensures c.exchange.ensures.3 c.turn.ensures.2

pub returns-clause-carried : goal.returns-clause-carried
returns-clause-carried c = λ carries. let next = c.requires.slot.1 in let t = (c.compare_exchange.ensures.2 c.args.slot next.0 refl next.1.job_of_slot).0 c.if-compare_exchange-ne-FINISHED.false in
    emit_keeps _ _ _ _ (emit_out _ _ _ _ _ _ _ _ t c.exchange.ensures.2 c.finding_in-finding.ensures c.exchange.ensures.3 c.turn.ensures.2).2 carries

pub returns-then-compare_exchange-ne-FINISHED-clause-carried : goal.returns-then-compare_exchange-ne-FINISHED-clause-carried
returns-then-compare_exchange-ne-FINISHED-clause-carried c = λ carries. let next = c.requires.slot.1 in
    miss_keeps _ _ _ ((c.compare_exchange.ensures.2 c.args.slot next.0 refl next.1.job_of_slot).1 c.if-compare_exchange-ne-FINISHED.true).0 carries

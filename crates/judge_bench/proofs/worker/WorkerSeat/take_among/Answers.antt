use Rattle.std.proofs.Common.{rules, ap, ◌∙◌}
use Rattle.bench_rule.specs.declared.views.View.{View}
use Rattle.bench_rule.specs.Views.{with_miss}
use Rattle.judge_bench.proofs.Rounds.{miss_more}
use Rattle.judge_bench.proofs.worker.WorkerSeat.take_among.Goals as goal

pub loop-slot-preserved : goal.loop-slot-preserved
loop-slot-preserved c = (search rules, c.in_default.ensures.took ∙ (ap (λ (v : View). with_miss v c.loop-slot.slot) c.loop-slot.invariant.1 ∙ miss_more c.args.self.now.view c.args.from c.loop-slot.slot (search rules)))

use Rattle.std.proofs.Common.{rules, ◌<◌, length, ap, sym, ◌∙◌, subst, arith}
use Rattle.intake_rules.specs.declared.reply.Reply.TheVariants.{Refused}
use Rattle.bench_rule.specs.Views.{IsNext}
use Rattle.judge_bench.specs.Seats.{AfterRefusal, SeatFacts}
use Rattle.judge_bench.proofs.NextJobs.{next_is, not_ready_reply}
use Rattle.judge_bench.proofs.Results.{if_err_more, if_ok_more}
use Rattle.judge_bench.proofs.owner.Owner.emit.Goals as goal

pub returns-in-Some-clause-refused : goal.returns-in-Some-clause-refused
returns-in-Some-clause-refused c =
    let inside : c.args.planner < length c.args.self.now.view.closed = search (rules, arith) in let (job, next, his, number) = c.in-Some.ensures.next in
    if_err_more c.emit_next.result
    (λ why h. (
      not_ready_reply c.args.self.now.view c.args.planner c.in-Some.slot job inside (next_is c.args.self.now.view c.in-Some.slot c.args.planner job next his) number ∙ ap Refused (sym h.0),
      subst (λ (s : SeatFacts). AfterRefusal s.view why c.emit_next.new.self.view) c.in-Some.ensures.same h.1,
    ))
    c.emit_next.ensures.refused

pub returns-in-Some-clause-next : goal.returns-in-Some-clause-next
returns-in-Some-clause-next c =
    let inside : c.args.planner < length c.args.self.now.view.closed = search (rules, arith) in
    if_ok_more c.emit_next.result
    (λ finding h. (inside, next_is c.args.self.now.view c.in-Some.slot c.args.planner finding.job (subst (λ (s : SeatFacts). IsNext s.view c.in-Some.slot finding.job) c.in-Some.ensures.same h.0) h.1))
    c.emit_next.ensures.next

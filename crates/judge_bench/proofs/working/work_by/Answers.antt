use Rattle.std.proofs.Common.{◌+◌, [], refl, sym, ◌∙◌, arith}
use Rattle.judge_bench.proofs.WorkDone.{ends_idle, ends_shut, ends_unjudged, job_finished, looked, nothing_done, round_without_job, still_noted}
use Rattle.judge_bench.proofs.working.work_by.Goals as goal

pub loop-rounds-init : goal.loop-rounds-init
loop-rounds-init g c = record {
  sits = c.requires.seat;
  task = c.requires.task;
  so_far = record { rounds = []; done = []; went = nothing_done c.args.bench.now.setting.slots c.args.seat.view; none = refl; all = refl };
  within = omega arith;
  shut = λ e. cc;
}

pub loop-rounds-preserved-in-Some : goal.loop-rounds-preserved-in-Some
loop-rounds-preserved-in-Some g c =
    let slots = c.args.bench.now.setting.slots in
    let was = c.loop-rounds.invariant in
    let rounds = c.loop-rounds.rounds in
    let view = c.loop-rounds.seat.view in
    let taken = c.take.new.self.view in
    let later = c.judge_one.new.seat.view in
    let took = c.in-Some.ensures.took in
    let done = c.in_default-judge_one.ensures.finished in record {
      sits = c.judge_one.ensures.seat;
      task = was.task ∙ sym c.judge_one.ensures.task;
      so_far = job_finished slots rounds c.args.seat.view view was.so_far c.in-Some.ticket taken later took done;
      within = was.within;
      shut = λ e. still_noted slots rounds c.args.seat.view view was.so_far c.in-Some.ticket taken later took done (was.shut e);
    }

pub loop-rounds-preserved : goal.loop-rounds-preserved
loop-rounds-preserved g c =
    let slots = c.args.bench.now.setting.slots in
    let was = c.loop-rounds.invariant in
    let rounds = c.loop-rounds.rounds in
    let so_far = round_without_job slots rounds c.args.seat.view c.loop-rounds.seat.view was.so_far c.take.new.self.view (rounds + 1) c.in_default.ensures.took refl in
    let seen = looked slots (rounds + 1) c.args.seat.view c.take.new.self.view so_far c.look-shut.result c.look-shut.new.self.view c.look-shut.ensures.noted in record {
      sits = c.look-shut.ensures.seat;
      task = was.task;
      so_far = seen.0;
      within = omega arith;
      shut = seen.1;
    }

pub returns-in-Err-clause-worked : goal.returns-in-Err-clause-worked
returns-in-Err-clause-worked g c =
    ends_unjudged c.args.bench.now.setting.slots c.loop-rounds.rounds c.args.seat.view c.loop-rounds.seat.view c.loop-rounds.invariant.so_far (g.G.Gate.may_hold c.args.gate.now) c.args.idle
    c.in-Some.ticket c.take.new.self.view c.judge_one.new.seat.view c.in-Err.fault c.in-Some.ensures.took c.in-Err.ensures.handed_back c.in-Err.ensures.reason (omega arith)

pub returns-then-shut-clause-worked : goal.returns-then-shut-clause-worked
returns-then-shut-clause-worked g c =
    ends_shut c.args.bench.now.setting.slots c.loop-rounds.rounds c.args.seat.view c.loop-rounds.seat.view c.loop-rounds.invariant.so_far (g.G.Gate.may_hold c.args.gate.now) c.args.idle
    c.take.new.self.view c.in_default.ensures.took (c.loop-rounds.invariant.shut c.if-shut.true)

pub returns-clause-worked : goal.returns-clause-worked
returns-clause-worked g c =
    let within = c.loop-rounds.invariant.within in
    ends_idle c.args.bench.now.setting.slots c.loop-rounds.rounds c.args.seat.view c.loop-rounds.seat.view c.loop-rounds.invariant.so_far (g.G.Gate.may_hold c.args.gate.now) c.args.idle (omega arith)

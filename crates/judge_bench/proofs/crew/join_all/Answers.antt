use Rattle.std.proofs.Common.{◌+◌, ◌++◌, length, ap, sym, subst, arith}
use Rattle.std.specs.Prelude.{IfSome}
use Rattle.judge_bench.specs.Workers.{AllWorkAt}
use Rattle.judge_bench.proofs.Crews.{first_may_be_held}
use Rattle.judge_bench.proofs.OwnersRun.{one_joined}
use Rattle.judge_bench.proofs.crew.join_all.Goals as goal

pub loop-child-preserved : goal.loop-child-preserved
loop-child-preserved g c =
    let was = c.loop-child.invariant in
    let at = c.in-Some.ensures.steps.0 in
    let less = c.in-Some.ensures.steps.1 in
    let crew = subst (AllWorkAt c.args.shared.now.bench.now c.args.shared.now.gate.now) at was.crew in
    let ended = c.join-seat.ensures in
    let may = first_may_be_held (g.G.Gate.may_hold c.args.shared.now.gate.now) c.loop-child.held c.join-seat.result.refused was.held
    (λ job is. subst (λ gate. g.G.Gate.may_hold gate job) crew.1 (ended.may_hold job is)) in
    let view = was.view in
    let long = ap length at in
    let left = was.left in record {
      can_next = tt;
      is_finite = tt;
      sits = c.hand_in.ensures.seat;
      crew = crew.2;
      left = omega arith;
      view = (
        view.0 + 1,
        view.1 ++ c.join-seat.result.seat.view.finished,
        (let count = view.2 in omega arith),
        one_joined c.args.owner.now.view c.loop-child.owner.view c.hand_in.new.self.view c.join-seat.result.seat.view view.0 view.1 view.3 c.hand_in.ensures.view,
      );
      held = subst (λ held. IfSome held (g.G.Gate.may_hold c.args.shared.now.gate.now)) (sym c.first_held-held.ensures) may;
    }

use Rattle.std.proofs.Common.{◌||◌, ◌&&◌, ◌-◌, nat_eq, nat_lt, length, take, drop, ap, ◌∙◌}
use Rattle.judge_engine.proofs.Writing.{front_more, no_failure, piece_within}
use Rattle.judge_engine.proofs.outlet.write_bytes.Goals as goal

pub loop-written-preserved : goal.loop-written-preserved
loop-written-preserved g c =
    let bytes = c.args.bytes.now in
    let rest = take (length bytes - c.loop-written.written) (drop c.loop-written.written bytes) in
    record {
      within = piece_within bytes c.loop-written.written c.in-Ok.count c.loop-written-test.true c.in-Ok.ensures.bound;
      front = front_more (g.O.Outlet.taken c.args.outlet.now) (g.O.Outlet.taken c.loop-written.outlet) (g.O.Outlet.taken c.put.new.self) bytes
          c.loop-written.written c.in-Ok.count c.loop-written.invariant.front c.in-Ok.ensures.bytes;
      sound = c.in-Ok.ensures.failure
          ∙ ap (λ b. b || (nat_eq c.in-Ok.count 0 && nat_lt 0 (length rest))) c.loop-written.invariant.sound
          ∙ no_failure c.in-Ok.count (nat_lt 0 (length rest)) c.in-Ok.count-test.1;
    }

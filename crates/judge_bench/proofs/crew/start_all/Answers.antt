use denote.Param.Send.{IsSend, IsSync, sendable, param_send, arg_send}
use Rattle.std.proofs.Crossing.{crosses}
use Rattle.judge_bench.proofs.Crossing.{Bench-sync, CostedTask-sync, WorkerSeat-send}
use Rattle.std.proofs.Common.{length, ap, sym, subst, ◌∙◌, arith, rules}
use Rattle.std.proofs.lemmas.List.{length_push}
use Rattle.judge_bench.specs.Workers.{AllWorkAt}
use Rattle.judge_bench.proofs.Crews.{one_works_too}
use Rattle.judge_bench.proofs.OwnersRun.{one_out}
use contract.Lifetimes.{Lfts}
use denote.Param.SendFields.{declared_send}
use denote.Struct.Tuple.{type_at, TupleAt}
use denote.Struct.Field.{u32-field}
use denote.RattleType.{RattleType}
use denote.Ref.{ShrRef}
use mir.Syntax.{named}
use Rattle.std.proofs.Common.{List, [], ◌∷◌, ℕ}
use Rattle.std.specs.contracts.alloc.Global as Global
use Rattle.judge_bench.specs.contracts.bench.Bench as bench
use Rattle.judge_bench.specs.contracts.worker.WorkerSeat as worker
use Rattle.strips_task.specs.contracts.costs.CostedTask as costed
use Rattle.std.proofs.alloc.Global.TheSendSync as global
use Rattle.judge_bench.specs.contracts.crew.start_all as start
use Rattle.judge_bench.proofs.crew.start_all.Given as given
use Rattle.judge_bench.proofs.crew.start_all.Lts as lts
use Rattle.judge_bench.proofs.crew.start_all.Goals as goal

pub loop-number-preserved : goal.loop-number-preserved
loop-number-preserved g c =
    let was = c.loop-number.invariant in
    let bench = c.args.shared.now.bench.now in
    let gate = c.args.shared.now.gate.now in
    let promise = c.in-Ok.ensures.ok in
    let items = c.push_reserved.ensures.items in
    let more = ap length items ∙ length_push c.loop-number.crew.items c.in-Ok.child in record {
      sits = c.seat-seat.ensures.owner.0;
      crew = subst (AllWorkAt bench gate) (sym items)
          (one_works_too bench gate c.loop-number.crew.items c.in-Ok.child was.crew (ap (λ p. p.bench.value) promise ∙ c.of.ensures) (ap (λ p. p.gate.value) promise ∙ c.of-in-loop-number.ensures));
      count = search rules;
      length_is = omega arith;
      room = search rules;
      view = one_out c.args.owner.now.view c.loop-number.owner.view c.seat-seat.new.self.view c.loop-number.number was.view c.seat-seat.ensures.owner.1;
    }

work-send : (g : given.Over) → IsSync (start.G-row g.row.E g.row.G) → (κs : Lfts 9) → IsSend (lts.arg-4-2 g.row.E g.row.G g.E.laws g.G.laws g.G.Gate g.G.Gate-dict κs)
work-send g gate κs =
    let rows : List RattleType = Global.the_row ∷ ShrRef (named 6) κs.1.1.1.1.1.1.0 bench.the_row ∷ worker.the_row ∷ ShrRef (named 7) κs.1.1.1.1.1.1.1.0 costed.the_row ∷ ShrRef (named 8) κs.1.1.1.1.1.1.1.1.0 (start.G-row g.row.E g.row.G) ∷ u32-field.row ∷ [] in
    let captured : (name : List ℕ) → IsSend (TupleAt name rows) = λ name. declared_send (type_at name rows) (
      search (global.the_send, crosses, sendable) depth 20,
      (
        search (Bench-sync, sendable) depth 20,
        (
          search (WorkerSeat-send, sendable) depth 20,
          (
            search (CostedTask-sync, sendable) depth 20,
            (
              search (gate, sendable) depth 20,
              (search sendable depth 20, tt),
            ),
          ),
        ),
      ),
    ) in
    search (captured, arg_send) depth 5

pub spawn_with-requires-send-F : goal.spawn_with-requires-send-F
spawn_with-requires-send-F g c κs within = param_send 2 (lts.arg-4-2 g.row.E g.row.G g.E.laws g.G.laws g.G.Gate g.G.Gate-dict κs) (work-send g c.type_bounds.sync-G κs)

pub spawn_with-requires-send-T : goal.spawn_with-requires-send-T
spawn_with-requires-send-T g c κs within = search (WorkerSeat-send, crosses, sendable) depth 60 fits 20000

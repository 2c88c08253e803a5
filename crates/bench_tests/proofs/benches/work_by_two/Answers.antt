use denote.Param.{param}
use denote.Param.Send.{IsSend, sendable, param_send, arg_send}
use denote.Param.SendFields.{declared_send}
use denote.RattleType.{RattleType}
use denote.Ref.{ShrRef}
use denote.Struct.Tuple.{TupleAt, type_at}
use mir.Syntax.{named}
use Rattle.std.proofs.Common.{List, [], ◌∷◌, ℕ}
use Rattle.std.proofs.Crossing.{crosses}
use Rattle.std.proofs.alloc.Global.TheSendSync as global
use Rattle.std.specs.contracts.alloc.Global as Global
use Rattle.strips_task.specs.contracts.costs.CostedTask as costed
use Rattle.judge_bench.specs.contracts.bench.Bench as bench
use Rattle.judge_bench.specs.contracts.worker.WorkerSeat as worker
use Rattle.judge_bench.proofs.Crossing.{Bench-sync, CostedTask-sync, WorkerSeat-send}
use Rattle.bench_tests.proofs.benches.work_by_two.Goals as goal

pub join-one-requires-send-A : goal.join-one-requires-send-A
join-one-requires-send-A g c κs within = search (WorkerSeat-send, crosses, sendable) depth 60 fits 20000

pub join-one-requires-send-F : goal.join-one-requires-send-F
join-one-requires-send-F g c κs within =
    let rows : List RattleType = ShrRef (named 6) κs.1.1.1.1.1.1.0 Global.the_row ∷ ShrRef (named 7) κs.1.1.1.1.1.1.1.0 bench.the_row ∷ worker.the_row ∷ ShrRef (named 8) κs.1.1.1.1.1.1.1.1.0 costed.the_row
    ∷ ShrRef (named 9) κs.1.1.1.1.1.1.1.1.1.0 (param 0 g.row.G) ∷ [] in
    let captured : (name : List ℕ) → IsSend (TupleAt name rows) = λ name. declared_send (type_at name rows) (
      search (global.the_sync, crosses, sendable) depth 20,
      (
        search (Bench-sync, sendable) depth 20,
        (
          search (WorkerSeat-send, sendable) depth 20,
          (search (CostedTask-sync, sendable) depth 20, (search (c.type_bounds.sync-G, sendable) depth 20, tt)),
        ),
      ),
    ) in
    search (captured, param_send, arg_send) depth 5

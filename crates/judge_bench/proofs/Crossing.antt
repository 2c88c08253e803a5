use denote.Param.Send.{IsSend, IsSync, sendable, view_send, view_sync}
use denote.Param.SendFields.{declared_sync, declared_send}
use Rattle.std.proofs.Crossing.{crosses}
use Rattle.formulas.proofs.formula.Formula.TheLaws.TheKnot as formula_knot
use Rattle.formulas.proofs.effect.Effect.TheLaws.TheKnot as effect_knot
use Rattle.formulas.proofs.seq.Seq.TheSendSync as seq
use Rattle.formulas.proofs.short.ShortSeq.TheSendSync as short
use Rattle.formulas.proofs.terms.Pattern.TheSendSync as pattern
use Rattle.formulas.proofs.terms.Term.TheSendSync as term
use Rattle.formulas.proofs.variables.VariableGroup.TheSendSync as group
use Rattle.formulas.specs.contracts.formula.Formula as formula
use Rattle.formulas.specs.contracts.effect.Effect as effect
use Rattle.formulas.specs.contracts.seq.Seq as seq_type
use Rattle.formulas.specs.contracts.terms.Pattern as pattern_type
use Rattle.formulas.specs.contracts.variables.VariableGroup as group_type
use Rattle.strips_task.specs.contracts.actions.Action as action
use Rattle.strips_task.specs.contracts.tasks.TaskParts as parts
use Rattle.strips_task.specs.contracts.tasks.Task as task
use Rattle.strips_task.specs.contracts.tasks.Task.TheInside as inside
use Rattle.strips_task.specs.contracts.costs.CostedTask as costed
use Rattle.strips_task.proofs.costs.Costs.TheSendSync as costs
use Rattle.judge_bench.specs.contracts.worker.WorkerSeat.TheInside as worker_inside
use Rattle.judge_bench.specs.contracts.worker.WorkerSeat as worker
use Rattle.bench_rule.specs.contracts.contents.Item as item
use Rattle.intake_rules.proofs.job.Job.TheSendSync as job
use Rattle.plan_cost.proofs.compact.CompactCost.TheSendSync as compact
use Rattle.judge_bench.specs.contracts.bench.Bench as bench
use Rattle.judge_bench.specs.contracts.bench.Bench.TheInside as bench_inside
use Rattle.atomic_table.proofs.owned.Table.TheSendSync as table_crosses
use Rattle.atomic_table.proofs.shared.Shared.TheSendSync as shared_crosses
use Rattle.atomic_table.proofs.shared.Seat.TheSendSync as seat_crosses
use Rattle.strips_task.proofs.table.NameTable.TheSendSync as name_table
use Rattle.formulas.proofs.names.Name.TheSendSync as name
use Rattle.strips_task.proofs.initial.InitialAtoms.TheSendSync as initial

pub Formula-sync : IsSync formula.the_row
Formula-sync = search (crosses, formula_knot.crosses, sendable) depth 60 fits 20000

pub Pattern-sync : IsSync pattern_type.the_row
Pattern-sync = pattern.the_sync

pub Groups-sync : IsSync (seq_type.the_row group_type.the_row)
Groups-sync = seq.the_sync group_type.the_row group.the_sync

pub Effect-sync : IsSync effect.the_row
Effect-sync = search (effect_knot.crosses, Formula-sync, Pattern-sync, Groups-sync, crosses, sendable) depth 60 fits 20000

pub Action-sync : IsSync action.the_row
Action-sync = search (crosses, Effect-sync, Formula-sync, seq.the_sync, Pattern-sync, sendable) depth 60 fits 20000

pub Goal-sync : IsSync (seq_type.the_row formula.the_row)
Goal-sync = seq.the_sync formula.the_row Formula-sync

pub Parts-sync : IsSync parts.the_row
Parts-sync = declared_sync parts.the_type (
  search (name.the_sync, crosses, sendable) depth 60,
  (
    search (name.the_sync, crosses, sendable) depth 60,
    (
      search (name_table.the_sync, crosses, sendable) depth 60,
      (
        search (seq.the_sync, crosses, sendable) depth 60,
        (
          search (name_table.the_sync, crosses, sendable) depth 60,
          (
            search (name_table.the_sync, seq.the_sync, sendable) depth 60,
            (
              search (name_table.the_sync, Action-sync, crosses, sendable) depth 60,
              (
                search (initial.the_sync, crosses, sendable) depth 60,
                (search (seq.the_sync, Formula-sync, crosses, sendable) depth 60, tt),
              ),
            ),
          ),
        ),
      ),
    ),
  ),
)

pub Task-sync : IsSync task.the_row
Task-sync = view_sync inside.the_row _ _ _ _ (declared_sync inside.the_type (Parts-sync, tt))

pub CostedTask-sync : IsSync costed.the_row
CostedTask-sync = declared_sync costed.the_type (Task-sync, (search (costs.the_sync, crosses, sendable) depth 60, tt))

pub Formula-send : IsSend formula.the_row
Formula-send = search (crosses, formula_knot.crosses, sendable) depth 60 fits 20000

pub Item-send : IsSend item.the_row
Item-send = search (job.the_send, compact.the_send, Formula-send, seq.the_send, crosses, sendable) depth 60 fits 20000

pub WorkerSeat-send : IsSend worker.the_row
WorkerSeat-send = view_send worker_inside.the_row _ _ _ _ (declared_send worker_inside.the_type (search (Item-send, seat_crosses.the_send, sendable) depth 60, (search sendable, (search sendable, (search sendable, tt)))))

pub Bench-sync : IsSync bench.the_row
Bench-sync = view_sync bench_inside.the_row _ _ _ _ (declared_sync bench_inside.the_type (search (Item-send, table_crosses.the_sync, shared_crosses.the_sync, crosses, sendable) depth 60, (search sendable, tt)))

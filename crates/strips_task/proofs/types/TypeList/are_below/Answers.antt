use Rattle.std.proofs.Common.{◌<◌, ◌≤◌, ◌*◌, length, arith}
use Rattle.strips_task.specs.TypeTable.{MayHaveTable}
use Rattle.strips_task.proofs.TypeRows.{joined_rows_tell}
use Rattle.strips_task.proofs.types.TypeList.are_below.Goals as goal

pub are_below_joined-requires : goal.are_below_joined-requires
are_below_joined-requires c =
    let may_have : MayHaveTable c.as_slice-parents.result.now c.as_slice-table.result.now =
    rw c.as_slice-parents.ensures.value (rw c.as_slice-table.ensures.value c.self.invariant) in
    let used : 0 < length c.as_slice-table.result.now = grind (arith, c.if-is_empty.ensures, c.if-is_empty.false) in
    let all : length c.as_slice-parents.result.now ≤ 64 * 1 = omega arith in
    record {
      is_table = may_have used;
      all = omega arith;
      marks =
          joined_rows_tell c.as_slice-parents.result.now c.as_slice-table.result.now c.joined_rows-joined.result c.args.sups.now 1 all (may_have used)
          c.joined_rows-joined.ensures;
    }

pub are_below_joined-requires-2 : goal.are_below_joined-requires-2
are_below_joined-requires-2 c =
    let may_have : MayHaveTable c.as_slice-parents.result.now c.as_slice-table.result.now =
    rw c.as_slice-parents.ensures.value (rw c.as_slice-table.ensures.value c.self.invariant) in
    let used : 0 < length c.as_slice-table.result.now = grind (arith, c.if-is_empty.ensures, c.if-is_empty.false) in
    let few = (may_have used).few in
    let all : length c.as_slice-parents.result.now ≤ 64 * 17 = omega (arith, few) in
    record {
      is_table = may_have used;
      all = omega (arith, all);
      marks =
          joined_rows_tell c.as_slice-parents.result.now c.as_slice-table.result.now c.joined_rows-joined-2.result c.args.sups.now 17 all (may_have used)
          c.joined_rows-joined-2.ensures;
    }

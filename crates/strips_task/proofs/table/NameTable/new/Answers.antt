use Rattle.std.proofs.Common.{ap}
use Rattle.std.specs.Map.{keys_of}
use Rattle.strips_task.specs.Names.{number_named, are_distinct}
use Rattle.strips_task.proofs.table.NameTable.new.Goals as goal

pub invariant_of-result : goal.invariant_of-result
unfolding are_distinct
invariant_of-result g c = record {
  distinct = ap (λ es. are_distinct (keys_of es)) c.with_hasher.ensures.empty;
  numbered = c.new.ensures (number_named c.with_hasher.result.entries);
}

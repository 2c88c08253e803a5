use Rattle.std.proofs.Common.{◌≡◌, ◌+◌, ◌≤◌, ◌^◌, ℕ, Bool, length, drop, slice_index}
use Rattle.std.specs.List.{count_by}
use Rattle.std.specs.Map.{values_of}
use Rattle.task_reader.specs.Tallies.{tallied}
use Rattle.task_reader.proofs.objects.TypeTally.new.Given as goal

abbrev pub invariant-objects : goal.invariant-objects
invariant-objects l = record {
  tallied : (test : ℕ → Bool) → tallied test 0 l.exact.items + count_by test (drop l.object (values_of l.task.objects)) ≡ count_by test (values_of l.task.objects);
  known : length l.exact.items ≤ length l.task.parents;
  numbered : length l.exact.items ≤ 2 ^ 16;
  small : (type : ℕ) → slice_index l.exact.items type ≤ l.object;
}

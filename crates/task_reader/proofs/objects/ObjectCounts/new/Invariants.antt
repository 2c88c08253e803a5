use Rattle.std.proofs.Common.{◌≡◌, ◌<◌, ℕ, [], ◌∷◌, length, slice_index}
use Rattle.task_reader.specs.Objects.{object_count}
use Rattle.task_reader.proofs.objects.ObjectCounts.new.Given as goal

abbrev pub invariant-types : goal.invariant-types
invariant-types l = record {
  counted : (type : ℕ) → type < length l.by_type.items → slice_index l.by_type.items type ≡ object_count l.task (type ∷ []);
  all : length l.by_type.items ≡ l.number;
}

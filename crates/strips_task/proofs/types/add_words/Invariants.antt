use Rattle.std.proofs.Common.{◌≡◌, ◌+◌, ◌<◌, ◌≤◌, ℕ, length, slice_index}
use Rattle.std.specs.Int.RustNames.{bit_or}
use Rattle.strips_task.proofs.types.add_words.Given as goal

-- The words so far are added.
abbrev pub invariant-words : goal.invariant-words
invariant-words g l = record {
  full : length l.joined ≡ g.row.WORDS;
  done : (j : ℕ) → j < l.index → slice_index l.joined j ≡ bit_or (slice_index l.fn.joined j) (slice_index l.table (l.first + j));
  rest : (j : ℕ) → l.index ≤ j → slice_index l.joined j ≡ slice_index l.fn.joined j;
}

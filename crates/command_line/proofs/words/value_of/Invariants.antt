use Rattle.std.proofs.Common.{◌≡◌, map, length}
use Rattle.std.specs.String.{string_bytes}
use Rattle.command_line.specs.Words.{value_of}
use Rattle.command_line.proofs.words.value_of.Given as goal

-- The rest has the value that all words have.
abbrev pub invariant-words : goal.invariant-words
invariant-words l = value_of l.fn.option (map string_bytes l.rest) ≡ value_of l.fn.option (map string_bytes l.fn.words)

abbrev pub decreases-words : goal.decreases-words
decreases-words l = length l.rest

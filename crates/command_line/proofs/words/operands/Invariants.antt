use Rattle.std.proofs.Common.{◌≡◌, ◌++◌, map, length}
use Rattle.std.specs.String.{string_bytes}
use Rattle.command_line.specs.Words.{operands, operands_from}
use Rattle.command_line.proofs.words.operands.Given as goal

-- The operands so far and those of the rest are all operands.
abbrev pub invariant-words : goal.invariant-words
invariant-words l = map (λ word. word.now) l.operands.items ++ operands_from l.is_value (map string_bytes l.rest) ≡ operands (map string_bytes l.fn.words)

abbrev pub decreases-words : goal.decreases-words
decreases-words l = length l.rest

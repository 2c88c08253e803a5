use Rattle.std.proofs.Common.{◌≡◌, map, length}
use Rattle.std.specs.String.{string_bytes}
use Rattle.command_line.specs.Words.{has_help}
use Rattle.command_line.proofs.words.has_help.Given as goal

-- The rest asks for help if all words do.
abbrev pub invariant-words : goal.invariant-words
invariant-words l = has_help (map string_bytes l.rest) ≡ has_help (map string_bytes l.fn.words)

abbrev pub decreases-words : goal.decreases-words
decreases-words l = length l.rest

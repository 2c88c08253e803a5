use Rattle.std.proofs.Common.{◌≡◌, ◌++◌, map, take}
use Rattle.std.specs.String.{string_bytes}
use Rattle.command_line.proofs.words.push_all.Given as goal

-- The words so far are behind those that were there.
abbrev pub invariant-loop-word : goal.invariant-loop-word
invariant-loop-word l = map (λ word. word.now) l.operands.items ≡ map (λ word. word.now) l.fn.operands.items ++ map string_bytes (take l.word-index l.words)

use Rattle.std.proofs.Common.{◌≡◌, ◌++◌, take}
use Rattle.std.specs.List.{flat_map}
use Rattle.report_text.specs.Pieces.{string_byte}
use Rattle.report_text.proofs.escapes.push_inside.Given as goal

-- The bytes so far are behind the text that was there.
abbrev pub invariant-loop-byte : goal.invariant-loop-byte
invariant-loop-byte l = l.text ≡ l.fn.text ++ flat_map string_byte (take l.byte-index l.bytes)

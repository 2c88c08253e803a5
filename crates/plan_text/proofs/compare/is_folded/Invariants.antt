use Rattle.std.proofs.Common.{◌≡◌, length}
use Rattle.std.specs.Str.{bytes_eq}
use Rattle.pddl_words.specs.Words.{folded}
use Rattle.plan_text.proofs.compare.is_folded.Given as goal

-- all bytes are the same where those that are still to come are
abbrev pub invariant-bytes : goal.invariant-bytes
invariant-bytes l = bytes_eq l.name (folded l.word) ≡ bytes_eq l.fn.name (folded l.fn.word)

abbrev pub decreases-bytes : goal.decreases-bytes
decreases-bytes l = length l.name

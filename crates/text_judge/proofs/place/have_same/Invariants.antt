use Rattle.std.proofs.Common.{◌≡◌, length}
use Rattle.text_judge.proofs.place.have_same.Given as goal

-- If what is left of both is the same, both were.
abbrev pub invariant-words : goal.invariant-words
invariant-words l = l.row ≡ l.words → l.fn.row ≡ l.fn.words

abbrev pub decreases-words : goal.decreases-words
decreases-words l = length l.words

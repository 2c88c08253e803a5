use Rattle.std.proofs.Common.{◌≡◌, map, length}
use Rattle.std.specs.Cmp.Lexicographic.{pointwise}
use Rattle.std.specs.Str.{bytes_eq}
use Rattle.pddl_words.specs.Words.{folded}
use Rattle.plan_text.proofs.compare.are_same_words.Given as goal

-- all words are the same where those that are still to come are
abbrev pub invariant-words : goal.invariant-words
invariant-words l =
    pointwise bytes_eq (map folded l.words) (map folded l.others) ≡ pointwise bytes_eq (map folded l.fn.words) (map folded l.fn.others)

abbrev pub decreases-words : goal.decreases-words
decreases-words l = length l.words

use Rattle.std.proofs.Common.{◌≡◌, slice_get}
use Rattle.pddl_words.specs.SpacedWords.{words_of}
use Rattle.report_text.proofs.render.word_at.Given as goal

-- The word that is looked for stands behind as many of the words that are left.
abbrev pub invariant-loop-before : goal.invariant-loop-before
invariant-loop-before l = slice_get l.words l.before ≡ slice_get (words_of l.row) l.index

abbrev pub decreases-loop-before : goal.decreases-loop-before
decreases-loop-before l = l.before

use Rattle.std.proofs.Common.{◌≡◌, [], ◌++◌, map, length}
use Rattle.pddl_words.specs.SpacedWords.{words_of}
use Rattle.pddl_words.specs.Words.{folded}
use Rattle.report_text.proofs.render.read_row.Given as goal

-- the words so far and those that are still to come are all
abbrev pub invariant-words : goal.invariant-words
invariant-words l = record {
  steps : l.step.steps ≡ [];
  words : l.step.words ++ map folded l.words ≡ map folded (words_of l.fn.row);
}

abbrev pub decreases-words : goal.decreases-words
decreases-words l = length l.words

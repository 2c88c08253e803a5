use Rattle.std.proofs.Common.{◌≡◌, ◌++◌, map, length}
use Rattle.pddl_words.specs.Words.{folded}
use Rattle.plan_text.proofs.walk.push_words.Given as goal

-- the words so far and those that are still to come are all
abbrev pub invariant-words : goal.invariant-words
invariant-words l = record {
  steps : l.step.steps ≡ l.fn.step.steps;
  words : l.step.words ++ map folded l.words ≡ l.fn.step.words ++ map folded l.fn.words;
}

abbrev pub decreases-words : goal.decreases-words
decreases-words l = length l.words

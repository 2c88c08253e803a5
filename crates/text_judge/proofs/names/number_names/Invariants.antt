use Rattle.std.proofs.Common.{◌≡◌, ◌++◌, map, true, Some, List, ℕ, length}
use Rattle.std.specs.List.{list_all}
use Rattle.pddl_words.specs.SpacedWords.{words_of}
use Rattle.pddl_words.specs.Words.{is_name, folded}
use Rattle.strips_judge.specs.StepNumbers.{numbers_named}
use Rattle.text_judge.proofs.names.number_names.Given as goal

-- The words so far are names, and these are their numbers.
abbrev pub invariant-words : goal.invariant-words
invariant-words l = record {
  passed : List (List ℕ);
  words : words_of l.row ≡ passed ++ l.words;
  names : list_all is_name passed ≡ true;
  numbered : numbers_named l.task (map folded passed) ≡ map Some l.numbers.items;
}

abbrev pub decreases-words : goal.decreases-words
decreases-words l = length l.words

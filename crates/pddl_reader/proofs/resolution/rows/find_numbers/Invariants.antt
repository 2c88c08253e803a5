use Rattle.std.proofs.Common.{◌≡◌, ◌++◌, map, true, Some, List, ℕ, length}
use Rattle.std.specs.List.{list_all}
use Rattle.pddl_words.specs.SpacedWords.{words_of}
use Rattle.pddl_words.specs.Words.{is_name}
use Rattle.pddl_reader.specs.Resolved.{known_form}
use Rattle.pddl_reader.specs.Rows.{row_numbers}
use Rattle.pddl_reader.proofs.resolution.rows.find_numbers.Given as goal

-- The words so far are names, and these are their numbers.
abbrev pub invariant-words : goal.invariant-words
invariant-words l = record {
  passed : List (List ℕ);
  words : words_of l.row ≡ passed ++ l.words;
  names : list_all is_name passed ≡ true;
  numbered : row_numbers (known_form l.known) passed ≡ map Some l.numbers.items;
}

abbrev pub decreases-words : goal.decreases-words
decreases-words l = length l.words

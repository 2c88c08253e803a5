use Rattle.std.proofs.Common.{◌≡◌, drop}
use Rattle.std.specs.List.{position_from}
use Rattle.pddl_words.specs.Kinds.{is_same_word}
use Rattle.pddl_syntax.specs.Forms.{word_forms}
use Rattle.pddl_reader.proofs.resolution.variables.variable_number.Given as goal

abbrev pub invariant-names : goal.invariant-names
invariant-names l =
    position_from (is_same_word l.word) l.number (word_forms (drop l.number l.names)) ≡ position_from (is_same_word l.word) 0 (word_forms l.names)

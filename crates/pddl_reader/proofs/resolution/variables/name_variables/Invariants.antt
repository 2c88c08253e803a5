use Rattle.std.proofs.Common.{◌≡◌, drop}
use Rattle.pddl_syntax.specs.Forms.{word_forms}
use Rattle.pddl_syntax.specs.Optional.{through}
use Rattle.pddl_reader.specs.Variables.{variable_named}
use Rattle.pddl_reader.proofs.resolution.variables.name_variables.Given as goal

abbrev pub invariant-words : goal.invariant-words
invariant-words l =
    through variable_named (word_forms l.names.items) (word_forms (drop l.word-index l.words))
    ≡ through variable_named (word_forms l.fn.names.items) (word_forms l.words)

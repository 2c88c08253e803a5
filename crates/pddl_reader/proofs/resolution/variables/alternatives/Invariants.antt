use Rattle.std.proofs.Common.{◌≡◌, [], drop}
use Rattle.std.specs.Map.{keys_of}
use Rattle.pddl_syntax.specs.Forms.{name_forms}
use Rattle.pddl_syntax.specs.Optional.{through}
use Rattle.pddl_reader.specs.Variables.{alternative_named}
use Rattle.pddl_reader.proofs.resolution.variables.alternatives.Given as goal

abbrev pub invariant-words : goal.invariant-words
invariant-words l =
    through (alternative_named (keys_of l.types)) l.numbers (name_forms (drop l.word-index l.words))
    ≡ through (alternative_named (keys_of l.types)) [] (name_forms l.words)

use Rattle.std.proofs.Common.{◌≡◌, drop}
use Rattle.pddl_syntax.specs.Forms.{word_forms}
use Rattle.pddl_reader.specs.Variables.{argument_types_with}
use Rattle.pddl_reader.proofs.resolution.variables.put_argument_types.Given as goal

abbrev pub invariant-variables : goal.invariant-variables
invariant-variables l =
    argument_types_with l.argument_types (word_forms (drop l.index l.variables)) l.types ≡ argument_types_with l.fn.argument_types (word_forms l.variables) l.types

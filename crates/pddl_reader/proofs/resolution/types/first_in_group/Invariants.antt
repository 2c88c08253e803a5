use Rattle.std.proofs.Common.{◌≡◌, drop}
use Rattle.std.specs.List.{list_any}
use Rattle.pddl_syntax.specs.Forms.{name_forms}
use Rattle.pddl_reader.specs.TypeCycles.{names_cycle}
use Rattle.pddl_reader.proofs.resolution.types.first_in_group.Given as goal

abbrev pub invariant-words : goal.invariant-words
invariant-words l =
    list_any (names_cycle l.names l.parents) (name_forms (drop l.word-index l.words))
    ≡ list_any (names_cycle l.names l.parents) (name_forms l.words)

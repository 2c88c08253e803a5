use Rattle.std.proofs.Common.{◌≡◌, drop}
use Rattle.pddl_syntax.specs.Forms.{name_forms}
use Rattle.pddl_reader.specs.TypeOrder.{type_declared}
use Rattle.pddl_syntax.specs.Optional.{through}
use Rattle.pddl_reader.proofs.resolution.types.declare_types.Given as goal

abbrev pub invariant-words : goal.invariant-words
invariant-words l =
    through (type_declared l.dialect l.kind.text.now) l.tables (name_forms (drop l.word-index l.words))
    ≡ through (type_declared l.dialect l.kind.text.now) l.fn.tables (name_forms l.words)

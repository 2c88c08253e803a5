use Rattle.std.proofs.Common.{◌≡◌, drop}
use Rattle.pddl_syntax.specs.Forms.{name_forms}
use Rattle.pddl_reader.specs.Objects.{object_declared}
use Rattle.pddl_syntax.specs.Optional.{through}
use Rattle.pddl_reader.proofs.resolution.objects.declare_objects.Given as goal

abbrev pub invariant-words : goal.invariant-words
invariant-words l =
    through (object_declared l.kind) l.objects (name_forms (drop l.word-index l.words))
    ≡ through (object_declared l.kind) l.fn.objects (name_forms l.words)

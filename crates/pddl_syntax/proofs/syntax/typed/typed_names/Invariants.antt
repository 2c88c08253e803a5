use Rattle.std.proofs.Common.{◌≡◌, []}
use Rattle.pddl_syntax.specs.Forms.{name_forms, name_groups}
use Rattle.pddl_syntax.specs.Levels.{here}
use Rattle.pddl_syntax.specs.Optional.{with_front}
use Rattle.pddl_syntax.specs.Syntax.{typed_names}
use Rattle.pddl_syntax.specs.Sizes.{size}
use Rattle.pddl_syntax.proofs.syntax.typed.typed_names.Given as goal

abbrev pub invariant-words : goal.invariant-words
invariant-words l = record {
  so_far : with_front (name_groups l.groups.items) (typed_names (name_forms l.names.items) (here l.walk.cursor).top)
      ≡ typed_names [] (here l.fn.walk.cursor).top;
  below : (here l.walk.cursor).below ≡ (here l.fn.walk.cursor).below;
}

abbrev pub decreases-words : goal.decreases-words
decreases-words l = size (here l.walk.cursor).top

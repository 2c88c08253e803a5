use Rattle.std.proofs.Common.{◌≡◌, []}
use Rattle.pddl_syntax.specs.Forms.{variable_groups, word_forms}
use Rattle.pddl_syntax.specs.Levels.{here}
use Rattle.pddl_syntax.specs.Optional.{with_front}
use Rattle.pddl_syntax.specs.Syntax.{typed_variables}
use Rattle.pddl_syntax.specs.Sizes.{size}
use Rattle.pddl_syntax.proofs.syntax.variables.typed_variables.Given as goal

abbrev pub invariant-words : goal.invariant-words
invariant-words l = record {
  so_far : with_front (variable_groups l.groups.items) (typed_variables (word_forms l.variables.items) (here l.walk.cursor).top)
      ≡ typed_variables [] (here l.fn.walk.cursor).top;
  below : (here l.walk.cursor).below ≡ (here l.fn.walk.cursor).below;
}

abbrev pub decreases-words : goal.decreases-words
decreases-words l = size (here l.walk.cursor).top

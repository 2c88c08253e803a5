use Rattle.std.proofs.Common.{◌≡◌, false}
use Rattle.pddl_syntax.specs.Forms.{predicate_forms}
use Rattle.pddl_syntax.specs.Levels.{here}
use Rattle.pddl_syntax.specs.Optional.{with_front}
use Rattle.pddl_syntax.specs.Syntax.{functions_of}
use Rattle.pddl_syntax.specs.Sizes.{size}
use Rattle.pddl_syntax.proofs.syntax.domain.functions.Given as goal

abbrev pub invariant-functions : goal.invariant-functions
invariant-functions l = record {
  so_far : with_front (predicate_forms l.functions.items) (functions_of l.has_some (here l.walk.cursor).top) ≡ functions_of false (here l.fn.walk.cursor).top;
  below : (here l.walk.cursor).below ≡ (here l.fn.walk.cursor).below;
}

abbrev pub decreases-functions : goal.decreases-functions
decreases-functions l = size (here l.walk.cursor).top

use Rattle.std.proofs.Common.{◌≡◌}
use Rattle.pddl_syntax.specs.Forms.{predicate_forms}
use Rattle.pddl_syntax.specs.Levels.{here}
use Rattle.pddl_syntax.specs.Optional.{with_front}
use Rattle.pddl_syntax.specs.Syntax.{lists_of, predicate_in}
use Rattle.pddl_syntax.specs.Sizes.{size}
use Rattle.pddl_syntax.proofs.syntax.domain.predicates.Given as goal

abbrev pub invariant-predicates : goal.invariant-predicates
invariant-predicates l = record {
  so_far : with_front (predicate_forms l.predicates.items) (lists_of predicate_in (here l.walk.cursor).top)
      ≡ lists_of predicate_in (here l.fn.walk.cursor).top;
  below : (here l.walk.cursor).below ≡ (here l.fn.walk.cursor).below;
}

abbrev pub decreases-predicates : goal.decreases-predicates
decreases-predicates l = size (here l.walk.cursor).top

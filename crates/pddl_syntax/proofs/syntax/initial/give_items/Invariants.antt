use Rattle.std.proofs.Common.{◌≡◌}
use Rattle.pddl_syntax.specs.Initial.{given_in}
use Rattle.pddl_syntax.specs.Levels.{here}
use Rattle.pddl_syntax.specs.Sizes.{size}
use Rattle.pddl_syntax.proofs.syntax.initial.give_items.Given as goal

abbrev pub invariant-items : goal.invariant-items
invariant-items g l = record {
  so_far : given_in g.T.InitialTaker.given l.dialect l.taker (here l.walk.cursor).top ≡ given_in g.T.InitialTaker.given l.dialect l.fn.taker (here l.fn.walk.cursor).top;
  below : (here l.walk.cursor).below ≡ (here l.fn.walk.cursor).below;
}

abbrev pub decreases-items : goal.decreases-items
decreases-items g l = size (here l.walk.cursor).top

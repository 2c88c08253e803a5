use Rattle.std.proofs.Common.{◌≡◌, ◌≤◌}
use Rattle.pddl_syntax.specs.Levels.{here}
use Rattle.pddl_syntax.specs.Sizes.{size}
use Rattle.pddl_syntax.proofs.syntax.typed.+skipping.Given as goal

abbrev pub decreases-skip : goal.decreases-skip
decreases-skip l = size (here l.walk.now.cursor).top

abbrev pub invariant-items : goal.invariant-items
invariant-items l = record {
  below : (here l.walk.cursor).below ≡ (here l.fn.walk.cursor).below;
  smaller : size (here l.walk.cursor).top ≤ size (here l.fn.walk.cursor).top;
}

abbrev pub decreases-items : goal.decreases-items
decreases-items l = size (here l.walk.cursor).top

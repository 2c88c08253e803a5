use Rattle.std.proofs.Common.{◌≡◌, ◌≤◌, ◌+◌, ◌*◌}
use Rattle.pddl_syntax.specs.Levels.{here}
use Rattle.pddl_syntax.specs.Optional.{with_front}
use Rattle.pddl_syntax.specs.Syntax.{effects_in}
use Rattle.pddl_syntax.specs.Sizes.{size}
use Rattle.pddl_syntax.proofs.syntax.effect.+effects.Given as goal

abbrev pub decreases-effect : goal.decreases-effect
decreases-effect l = 2 * size (here l.walk.now.cursor).top

abbrev pub decreases-headed : goal.decreases-headed
decreases-headed l = 2 * size (here l.walk.now.cursor).top + 1

abbrev pub decreases-effects : goal.decreases-effects
decreases-effects l = 2 * size (here l.walk.now.cursor).top

abbrev pub decreases-lone : goal.decreases-lone
decreases-lone l = 2 * size (here l.walk.now.cursor).top

abbrev pub decreases-conditional : goal.decreases-conditional
decreases-conditional l = 2 * size (here l.walk.now.cursor).top

abbrev pub decreases-bound : goal.decreases-bound
decreases-bound l = 2 * size (here l.walk.now.cursor).top

abbrev pub invariant-effects-effects : goal.invariant-effects-effects
invariant-effects-effects l = record {
  so_far : with_front l.effects.items (effects_in l.scope (here l.walk.cursor).top) ≡ effects_in l.scope (here l.fn.walk.cursor).top;
  below : (here l.walk.cursor).below ≡ (here l.fn.walk.cursor).below;
  smaller : size (here l.walk.cursor).top ≤ size (here l.fn.walk.cursor).top;
}

abbrev pub decreases-effects-effects : goal.decreases-effects-effects
decreases-effects-effects l = size (here l.walk.cursor).top

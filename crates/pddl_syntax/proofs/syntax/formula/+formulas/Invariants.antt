use Rattle.std.proofs.Common.{◌≡◌, ◌≤◌, ◌+◌, ◌*◌}
use Rattle.pddl_syntax.specs.Levels.{here}
use Rattle.pddl_syntax.specs.Optional.{with_front}
use Rattle.pddl_syntax.specs.Syntax.{formulas_in}
use Rattle.pddl_syntax.specs.Sizes.{size}
use Rattle.pddl_syntax.proofs.syntax.formula.+formulas.Given as goal

abbrev pub decreases-formula : goal.decreases-formula
decreases-formula l = 2 * size (here l.walk.now.cursor).top

abbrev pub decreases-headed : goal.decreases-headed
decreases-headed l = 2 * size (here l.walk.now.cursor).top + 1

abbrev pub decreases-formulas : goal.decreases-formulas
decreases-formulas l = 2 * size (here l.walk.now.cursor).top

abbrev pub decreases-lone : goal.decreases-lone
decreases-lone l = 2 * size (here l.walk.now.cursor).top

abbrev pub decreases-negated : goal.decreases-negated
decreases-negated l = 2 * size (here l.walk.now.cursor).top

abbrev pub decreases-negatable : goal.decreases-negatable
decreases-negatable l = 2 * size (here l.walk.now.cursor).top + 1

abbrev pub decreases-implied : goal.decreases-implied
decreases-implied l = 2 * size (here l.walk.now.cursor).top

abbrev pub decreases-bound : goal.decreases-bound
decreases-bound l = 2 * size (here l.walk.now.cursor).top

abbrev pub invariant-formulas-formulas : goal.invariant-formulas-formulas
invariant-formulas-formulas l = record {
  so_far : with_front l.formulas.items (formulas_in l.scope (here l.walk.cursor).top) ≡ formulas_in l.scope (here l.fn.walk.cursor).top;
  below : (here l.walk.cursor).below ≡ (here l.fn.walk.cursor).below;
  smaller : size (here l.walk.cursor).top ≤ size (here l.fn.walk.cursor).top;
}

abbrev pub decreases-formulas-formulas : goal.decreases-formulas-formulas
decreases-formulas-formulas l = size (here l.walk.cursor).top

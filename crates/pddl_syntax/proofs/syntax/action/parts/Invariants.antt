use Rattle.std.proofs.Common.{◌≡◌}
use Rattle.pddl_syntax.specs.Forms.{parts_form}
use Rattle.pddl_syntax.specs.Levels.{here}
use Rattle.pddl_syntax.specs.Syntax.{no_parts, parts_of}
use Rattle.pddl_syntax.specs.Sizes.{size}
use Rattle.pddl_syntax.proofs.syntax.action.parts.Given as goal

abbrev pub invariant-parts : goal.invariant-parts
invariant-parts l = record {
  so_far : parts_of l.dialect (parts_form l.parts) (here l.walk.cursor).top ≡ parts_of l.dialect no_parts (here l.fn.walk.cursor).top;
  below : (here l.walk.cursor).below ≡ (here l.fn.walk.cursor).below;
}

abbrev pub decreases-parts : goal.decreases-parts
decreases-parts l = size (here l.walk.cursor).top

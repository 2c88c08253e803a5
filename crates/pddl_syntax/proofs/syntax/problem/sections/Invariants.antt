use Rattle.std.proofs.Common.{◌≡◌}
use Rattle.pddl_syntax.specs.Forms.{problem_sections_form}
use Rattle.pddl_syntax.specs.Initial.{HasTaken}
use Rattle.pddl_syntax.specs.Levels.{here}
use Rattle.pddl_syntax.specs.Syntax.{problem_sections_of, no_problem_sections}
use Rattle.pddl_syntax.specs.Sizes.{size}
use Rattle.pddl_syntax.proofs.syntax.problem.sections.Given as goal

abbrev pub invariant-sections : goal.invariant-sections
invariant-sections g l = record {
  so_far : problem_sections_of l.dialect (problem_sections_form l.sections) (here l.walk.cursor).top
      ≡ problem_sections_of l.dialect no_problem_sections (here l.fn.walk.cursor).top;
  below : (here l.walk.cursor).below ≡ (here l.fn.walk.cursor).below;
  taken : HasTaken g.T.InitialTaker.begun g.T.InitialTaker.given l.fn.taker l.taker (problem_sections_form l.sections).objects (problem_sections_form l.sections).init;
}

abbrev pub decreases-sections : goal.decreases-sections
decreases-sections g l = size (here l.walk.cursor).top

use Rattle.std.proofs.Common.{◌≡◌}
use Rattle.pddl_syntax.specs.Forms.{domain_sections_form}
use Rattle.pddl_syntax.specs.Levels.{here}
use Rattle.pddl_syntax.specs.Syntax.{domain_sections_of, no_domain_sections}
use Rattle.pddl_syntax.specs.Sizes.{size}
use Rattle.pddl_syntax.proofs.syntax.domain.sections.Given as goal

abbrev pub invariant-sections : goal.invariant-sections
invariant-sections l = record {
  so_far : domain_sections_of l.dialect (domain_sections_form l.sections) (here l.walk.cursor).top
      ≡ domain_sections_of l.dialect no_domain_sections (here l.fn.walk.cursor).top;
  below : (here l.walk.cursor).below ≡ (here l.fn.walk.cursor).below;
}

abbrev pub decreases-sections : goal.decreases-sections
decreases-sections l = size (here l.walk.cursor).top

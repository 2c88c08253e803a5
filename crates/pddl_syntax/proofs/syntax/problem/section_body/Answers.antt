use Rattle.std.proofs.Common.{◌≡◌, false, subst}
use Rattle.pddl_syntax.specs.Forms.{problem_sections_form}
use Rattle.pddl_syntax.specs.Syntax.{is_problem_section_given}
use Rattle.pddl_syntax.proofs.TakenSections.{objects_taken, init_taken}
use Rattle.pddl_syntax.proofs.syntax.problem.section_body.Goals as goal

pub returns-in_ok-typed_names-in-Objects-clause-taken : goal.returns-in_ok-typed_names-in-Objects-clause-taken
returns-in_ok-typed_names-in-Objects-clause-taken g c =
    objects_taken g.T.InitialTaker.begun g.T.InitialTaker.given c.args.sections.now c.in_ok-typed_names-in-Objects.field-0 c.args.taker.now
    (subst (λ s. is_problem_section_given s (problem_sections_form c.args.sections.now) ≡ false) c.in-Objects.is c.requires)

pub returns-in_ok-items-in-Init-clause-taken : goal.returns-in_ok-items-in-Init-clause-taken
returns-in_ok-items-in-Init-clause-taken g c =
    init_taken g.T.InitialTaker.begun g.T.InitialTaker.given c.args.sections.now c.in_ok-items-in-Init.items c.args.taker.now c.initial.new.taker
    (subst (λ s. is_problem_section_given s (problem_sections_form c.args.sections.now) ≡ false) c.in-Init.is c.requires)
    c.in_ok-items-in-Init.ensures.taken

use Rattle.std.specs.Option.{option_map}
use Rattle.pddl_syntax.specs.Forms.{name_groups, problem_sections_form}
use Rattle.pddl_syntax.proofs.TakenSections.{all_taken}
use Rattle.pddl_syntax.proofs.syntax.problem.problem.Goals as goal

pub returns-clause-taken : goal.returns-clause-taken
unfolding problem_sections_form
returns-clause-taken g c =
    all_taken g.T.InitialTaker.begun g.T.InitialTaker.given (option_map (λ v. name_groups v.items) c.in_ok-sections.sections.objects)
    c.in_ok-sections.sections.init c.args.taker.now c.sections.new.taker c.in_ok-sections.ensures.taken

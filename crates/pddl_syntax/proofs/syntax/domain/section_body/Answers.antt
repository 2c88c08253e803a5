use Rattle.std.proofs.Common.{◌∙◌, ap, sym, Some}
use Rattle.pddl_syntax.specs.Forms.{action_syntax_form, domain_sections_form}
use Rattle.pddl_syntax.specs.Levels.{here}
use Rattle.pddl_syntax.proofs.DomainLemmas.{action_body, with_action_form}
use Rattle.pddl_syntax.proofs.syntax.domain.section_body.Goals as goal

pub returns-in_ok-push-in-Action : goal.returns-in_ok-push-in-Action
returns-in_ok-push-in-Action c =
    let given = c.args.sections.now in
    let a = c.in_ok-action-in-Action.field-0 in
    let read = action_body c.args.dialect (domain_sections_form given) (here c.args.walk.now.cursor).top (action_syntax_form a) c.in_ok-action-in-Action.ensures.0 in
    let kept = with_action_form given.requirements given.types given.constants given.predicates given.functions given.actions c.push.new.self a c.in_ok-push-in-Action.ensures.items in
    (rw c.in-Action.is (read ∙ ap Some (sym kept)), c.in_ok-action-in-Action.ensures.1)

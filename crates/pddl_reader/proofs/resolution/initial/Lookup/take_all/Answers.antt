use Rattle.std.proofs.Common.{[], unwrap_or, refl, ap, sym, ◌∙◌}
use Rattle.pddl_syntax.specs.Forms.{name_groups, problem_syntax_form}
use Rattle.pddl_reader.specs.Lookups.{has_begun}
use Rattle.pddl_reader.proofs.LookupLemmas.{all_taken, begun_so, begun_stays, waits}
use Rattle.pddl_reader.proofs.ProblemMeaning.{objects_given}
use Rattle.pddl_reader.proofs.resolution.initial.Lookup.take_all.Goals as goal

pub returns-in_ok-give-clause-whole : goal.returns-in_ok-give-clause-whole
returns-in_ok-give-clause-whole c = λ domain size taken.
    all_taken domain size (problem_syntax_form c.args.syntax.now) c.args.self.now c.begin.new.self c.give.new.taker (name_groups c.part_items.result.now)
    c.in-Some.items taken (ap has_begun c.in-Waiting.is ∙ waits c.in-Waiting.field-0 c.in-Waiting.field-1) c.in_ok-begin.ensures
    (ap name_groups c.part_items.ensures ∙ sym (objects_given c.args.syntax.now)) (ap (λ o. unwrap_or o []) (sym c.in-Some.is)) c.in_ok-give.ensures.given

pub returns-in_default-init-clause-whole : goal.returns-in_default-init-clause-whole
returns-in_default-init-clause-whole c = λ domain size taken.
    all_taken domain size (problem_syntax_form c.args.syntax.now) c.args.self.now c.begin.new.self c.begin.new.self (name_groups c.part_items.result.now)
    [] taken (ap has_begun c.in-Waiting.is ∙ waits c.in-Waiting.field-0 c.in-Waiting.field-1) c.in_ok-begin.ensures
    (ap name_groups c.part_items.ensures ∙ sym (objects_given c.args.syntax.now)) (ap (λ o. unwrap_or o []) (sym c.in_default-init.is)) refl

pub returns-in_ok-give-clause-begun : goal.returns-in_ok-give-clause-begun
returns-in_ok-give-clause-begun c =
    ap has_begun c.in_ok-give.ensures.given
    ∙ begun_stays c.begin.new.self c.in-Some.items (ap has_begun c.in_ok-begin.ensures ∙ begun_so c.args.self.now (name_groups c.part_items.result.now))

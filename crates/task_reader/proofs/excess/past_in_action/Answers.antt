use Rattle.std.proofs.Common.{◌∙◌, ap, Ok, Err}
use Rattle.std.specs.List.{flat_map}
use Rattle.task_reader.specs.Bindings.{all_quantifiers, effect_quantifiers, nothing_counted, past, with_quantifiers}
use Rattle.task_reader.proofs.Walks.{past_first, past_second}
use Rattle.task_reader.proofs.excess.past_in_action.Goals as goal

pub returns-in-Err : goal.returns-in-Err
returns-in-Err c =
    let task = c.args.counts.now.tally.task.now in
    let action = c.args.action.now in
    past_first (all_quantifiers task action.pre) (flat_map (effect_quantifiers task 1) action.effects) c.in-Err.variable
    (c.in-Err.ensures ∙ ap (λ trees. with_quantifiers nothing_counted (all_quantifiers task trees)) c.as_slice.ensures)

pub returns-in-Ok-add_effects : goal.returns-in-Ok-add_effects
unfolding past
returns-in-Ok-add_effects c =
    let task = c.args.counts.now.tally.task.now in
    let action = c.args.action.now in
    past_second (all_quantifiers task action.pre) (flat_map (effect_quantifiers task 1) action.effects) c.in-Ok.tally (Ok c.in-Ok-add_effects.field-0)
    (c.in-Ok.ensures ∙ ap (λ trees. with_quantifiers nothing_counted (all_quantifiers task trees)) c.as_slice.ensures)
    (c.in-Ok-add_effects.ensures ∙ ap (λ effects. with_quantifiers c.in-Ok.tally (flat_map (effect_quantifiers task 1) effects)) c.as_slice-2.ensures)

pub returns-in-Err-add_effects : goal.returns-in-Err-add_effects
unfolding past
returns-in-Err-add_effects c =
    let task = c.args.counts.now.tally.task.now in
    let action = c.args.action.now in
    past_second (all_quantifiers task action.pre) (flat_map (effect_quantifiers task 1) action.effects) c.in-Ok.tally (Err c.in-Err-add_effects.variable)
    (c.in-Ok.ensures ∙ ap (λ trees. with_quantifiers nothing_counted (all_quantifiers task trees)) c.as_slice.ensures)
    (c.in-Err-add_effects.ensures ∙ ap (λ effects. with_quantifiers c.in-Ok.tally (flat_map (effect_quantifiers task 1) effects)) c.as_slice-2.ensures)

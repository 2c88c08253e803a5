use Rattle.std.proofs.Common.{IsTrue, sym, ap, ◌∙◌}
use Rattle.strips_judge.specs.State.{objects_of}
use Rattle.strips_judge.proofs.NoChoices.{no_choice_at_all}
use Rattle.strips_judge.proofs.evaluation.have_objects.Goals as goal

pub returns-then-not-has_object : goal.returns-then-not-has_object
returns-then-not-has_object c = λ none.
    no_choice_at_all (objects_of c.args.task.now) c.args.groups.now c.loop-group.group-index c.group-item.result c.loop-group-test.true c.group-item.is
    (λ empty. let full : IsTrue c.is_empty.result = c.is_empty.ensures.1 empty in cc)
    (ap (objects_of c.args.task.now) (sym c.as_slice.ensures) ∙ c.has_object.ensures c.if-not-has_object.true)

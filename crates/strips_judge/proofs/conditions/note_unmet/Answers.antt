use Rattle.std.proofs.Common.{[], refl, sym, ap, ◌∙◌}
use Rattle.formulas.specs.Equality.{tree_eq}
use Rattle.formulas.specs.Grounding.{with_objects}
use Rattle.indexmap.specs.IndexSet.{insert_key}
use Rattle.strips_judge.specs.NumberedState.{state_of}
use Rattle.strips_judge.proofs.Gathering.{ok_as}
use Rattle.strips_judge.proofs.StepLaws.{missing-more_holds, missing-more_fails, grounded_holds}
use Rattle.strips_judge.proofs.conditions.note_unmet.Goals as goal

pub returns-then-branch-clause-found : goal.returns-then-branch-clause-found
returns-then-branch-clause-found c = λ before so_far.
    let answer = grounded_holds c.args.task.now (state_of c.args.state.now) c.args.objects.now c.args.condition.now ∙ sym c.in_ok-holds.ensures.answer in
    missing-more_holds c.args.task.now (state_of c.args.state.now) c.args.found.now.keys before _ (with_objects c.args.objects.now [] c.args.condition.now) refl so_far (answer ∙ c.if-branch.true)

pub returns-clause-found : goal.returns-clause-found
returns-clause-found c =
    let answer = grounded_holds c.args.task.now (state_of c.args.state.now) c.args.objects.now c.args.condition.now ∙ sym c.in_ok-holds.ensures.answer in
    ok_as c.note.result
    (λ noted before so_far. noted ∙ ap (insert_key tree_eq c.args.found.now.keys) c.in_ok-ground.ensures
    ∙ missing-more_fails c.args.task.now (state_of c.args.state.now) c.args.found.now.keys before _ (with_objects c.args.objects.now [] c.args.condition.now) refl so_far (answer ∙ c.if-branch.false))
    c.note.ensures

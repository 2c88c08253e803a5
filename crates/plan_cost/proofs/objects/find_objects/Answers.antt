use Rattle.std.proofs.Common.{◌<◌, ◌++◌, ◌∷◌, [], length, take, ap, sym, ◌∙◌, arith, append-nil}
use Rattle.std.proofs.lemmas.List.Elements.{filter_map-append}
use Rattle.std.proofs.lemmas.Option.{get_or_from_slice_get}
use Rattle.std.specs.List.{cons_option}
use Rattle.strips_task.specs.Names.{number_named}
use Rattle.strips_task.specs.StepView.{step_shown}
use Rattle.strips_judge.proofs.StepLaws.{taken_more}
use Rattle.strips_judge.specs.Step.{objects_named}
use Rattle.plan_cost.proofs.objects.find_objects.Goals as goal
use Rattle.plan_cost.proofs.objects.find_objects.Goals.{in-Some+in_ok-push, in_default}

pub loop-index-preserved : goal.loop-index-preserved
loop-index-preserved c =
    let args = (step_shown c.args.step).args in
    let lt : c.loop-index.index < length args = omega arith in
    let more = ap (objects_named c.args.task.now) (taken_more args c.loop-index.index c.arg.result.now lt
    (sym (get_or_from_slice_get args c.loop-index.index c.arg.result.now c.arg.result.now c.arg.ensures)))
    ∙ filter_map-append (number_named c.args.task.now.objects) (take c.loop-index.index args) (c.arg.result.now ∷ []) in
    elim c.match-object_named.branch [
      | in-Some+in_ok-push w ↦ ap (λ o. o.items) w.objects-is ∙ w.in_ok-push.ensures.items
          ∙ (λ j. c.loop-index.invariant j ++ cons_option ((sym w.in-Some.is ∙ c.object_named.ensures.number) j) [])
          ∙ sym more
      | in_default w ↦ ap (λ o. o.items) w.objects-is ∙ c.loop-index.invariant ∙ sym (append-nil (objects_named c.args.task.now (take c.loop-index.index args)))
          ∙ ap (λ o. objects_named c.args.task.now (take c.loop-index.index args) ++ cons_option o []) (sym w.in_default.is ∙ c.object_named.ensures.number)
          ∙ sym more
    ]

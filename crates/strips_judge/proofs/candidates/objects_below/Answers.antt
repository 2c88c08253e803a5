use Rattle.std.proofs.Common.{◌≡◌, ◌∙◌, ◌∷◌, ◌++◌, [], Bool, ap, append-nil, cond, filter, sym}
use Rattle.std.specs.List.{range_with_len}
use Rattle.strips_judge.specs.Fitting.{object_fits}
use Rattle.strips_judge.proofs.Listings.{range_kept}
use Rattle.strips_judge.proofs.candidates.objects_below.Goals as goal
use Rattle.strips_judge.proofs.candidates.objects_below.Goals.{then-object_fits+in_ok-push, else-object_fits}

pub loop-object-preserved : goal.loop-object-preserved
loop-object-preserved c =
    let task = c.args.task.now in
    let types = c.args.number ∷ [] in
    let object = c.loop-object.object in
    let before = filter (object_fits task types) (range_with_len 0 object) in
    let fits : c.object_fits.result ≡ object_fits task types object = c.object_fits.ensures ∙ ap (λ l. object_fits task l object) c.from_ref.ensures.value in
    elim c.if-object_fits.branch [
      | then-object_fits+in_ok-push w ↦ ap (λ l. l.items) w.list-is ∙ w.in_ok-push.ensures.items ∙ ap (λ l. l ++ object ∷ []) c.loop-object.invariant
          ∙ ap (λ (b : Bool). before ++ cond b (object ∷ []) []) (sym w.if-object_fits.true ∙ fits) ∙ sym (range_kept (object_fits task types) object)
      | else-object_fits w ↦ ap (λ l. l.items) w.list-is ∙ c.loop-object.invariant
          ∙ sym (append-nil before) ∙ ap (λ (b : Bool). before ++ cond b (object ∷ []) []) (sym w.if-object_fits.false ∙ fits) ∙ sym (range_kept (object_fits task types) object)
    ]

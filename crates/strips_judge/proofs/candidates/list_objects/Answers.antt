use Rattle.std.proofs.Common.{◌≡◌, ◌+◌, ◌∙◌, ◌∷◌, [], ap, length, length-append, slice_get, sym}
use Rattle.strips_judge.specs.State.{objects_of}
use Rattle.strips_judge.proofs.Listings.{at_end}
use Rattle.strips_judge.proofs.candidates.list_objects.Goals as goal

pub loop-number-preserved : goal.loop-number-preserved
loop-number-preserved c =
    let lists = c.loop-number.lists.items in
    let list = c.in_ok-objects_below.field-0 in (
      ap length c.in_ok-push.ensures.items ∙ length-append lists (list ∷ []) ∙ ap (λ n. n + 1) c.loop-number.invariant.0,
      λ number one at. at_end (λ n l. l ≡ objects_of c.args.task.now (n ∷ [])) lists list c.loop-number.invariant.1
          (c.in_ok-objects_below.ensures ∙ ap (λ n. objects_of c.args.task.now (n ∷ [])) (sym c.loop-number.invariant.0)) number one
          (ap (λ l. slice_get l number) (sym c.in_ok-push.ensures.items) ∙ at),
    )

use Rattle.std.proofs.Common.{◌≡◌, ◌∷◌, [], slice_index, ap, sym, ◌∙◌}
use Rattle.std.proofs.lemmas.Option.{get_or_from_slice_get}
use Rattle.std.specs.Map.{values_of}
use Rattle.strips_task.specs.Types.{fits}
use Rattle.strips_judge.proofs.Fits.{fits-one, fits-only}
use Rattle.strips_judge.proofs.arguments.object_fits.Goals as goal

pub returns-in-len1 : goal.returns-in-len1
returns-in-len1 c =
    let own : slice_index (values_of c.args.task.now.objects) c.args.object ≡ c.object_type-object_type.result =
    get_or_from_slice_get (values_of c.args.task.now.objects) c.args.object c.object_type-object_type.result 0 c.object_type-object_type.ensures.type_number in
    c.is_subtype.ensures.test
    ∙ sym (ap (λ t. fits c.args.task.now.parents (t ∷ []) c.args.alternatives.now) own
    ∙ fits-only c.args.task.now.parents c.args.alternatives.now c.object_type-object_type.result c.in-len1.len_at_least c.in-len1.len_below)

pub returns-in_default : goal.returns-in_default
returns-in_default c =
    let own : slice_index (values_of c.args.task.now.objects) c.args.object ≡ c.object_type-object_type.result =
    get_or_from_slice_get (values_of c.args.task.now.objects) c.args.object c.object_type-object_type.result 0 c.object_type-object_type.ensures.type_number in
    c.is_below_one.ensures
    ∙ sym (ap (λ t. fits c.args.task.now.parents (t ∷ []) c.args.alternatives.now) own
    ∙ fits-one c.args.task.now.parents c.args.alternatives.now c.object_type-object_type.result)

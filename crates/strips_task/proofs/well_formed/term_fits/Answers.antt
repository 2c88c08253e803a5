use Rattle.std.proofs.Common.{◌≡◌, ap, sym, ◌∙◌}
use Rattle.strips_task.specs.WellFormed.{term_types, is_fitting}
use Rattle.strips_task.proofs.well_formed.term_fits.Goals as goal

pub returns-in-Param : goal.returns-in-Param
unfolding term_types
returns-in-Param c =
    c.variable_fits.ensures
    ∙ ap (λ t. is_fitting c.args.parents.now (term_types c.args.objects.now c.args.params.now c.args.bound.now t) c.args.types.now) (sym c.in-Param.is)

pub returns-in-Bound : goal.returns-in-Bound
unfolding term_types
returns-in-Bound c =
    c.variable_fits-in-Bound.ensures
    ∙ ap (λ t. is_fitting c.args.parents.now (term_types c.args.objects.now c.args.params.now c.args.bound.now t) c.args.types.now) (sym c.in-Bound.is)

pub returns-in-Object : goal.returns-in-Object
unfolding term_types
returns-in-Object c =
    c.object_fits.ensures
    ∙ ap (λ t. is_fitting c.args.parents.now (term_types c.args.objects.now c.args.params.now c.args.bound.now t) c.args.types.now) (sym c.in-Object.is)

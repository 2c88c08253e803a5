use Rattle.std.proofs.Common.{rules, sym, ◌∙◌, ◌≡◌, Some, [], slice_get}
use Rattle.std.specs.Map.{values_of}
use Rattle.strips_task.proofs.TypeTrees.{first_fits}
use Rattle.strips_task.proofs.WellFormedTests.{object_fitting}
use Rattle.strips_task.proofs.well_formed.object_fits.Goals as goal

pub returns-then-first-own : goal.returns-then-first-own
returns-then-first-own c =
    let found : slice_get (values_of c.args.objects.now) c.args.number ≡ Some c.in-Some.own.now = search rules in
    sym (
    object_fitting c.args.parents.now c.args.types.now c.args.objects.now [] [] c.args.number c.in-Some.own.now found
    ∙ first_fits c.args.parents.now c.args.types.now c.in-Some.own.now c.in-len1-up.len_at_least c.if-first-own.true
    )

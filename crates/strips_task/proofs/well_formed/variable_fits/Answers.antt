use Rattle.std.proofs.Common.{◌≡◌, length, [], List, ℕ, ap, sym, ◌∙◌, slice_get, Some, None}
use Rattle.std.proofs.lemmas.Bool.{ltb-false}
use Rattle.std.proofs.lemmas.Option.{slice_get-get_or, slice_get_past}
use Rattle.strips_task.specs.Types.{fits}
use Rattle.strips_task.proofs.WellFormedTests.{variable_fitting, variable_unknown}
use Rattle.strips_task.proofs.well_formed.variable_fits.Goals as goal

pub returns-in-Some : goal.returns-in-Some
returns-in-Some c =
    let parents : List ℕ = c.args.parents.now in
    let variables : List (List ℕ) = c.args.variables.now in
    let found = c.in-Some.ensures.lookup.3 in
    let own : slice_get variables c.args.number ≡ Some c.in-Some.own.now =
    ap (slice_get variables) (sym c.from.ensures) ∙ slice_get-get_or variables c.from.result [] found.0 ∙ ap Some (sym (found.1 [])) in
    c.are_below.ensures
    ∙ ap (λ types. fits parents types c.args.types.now) c.as_slice.ensures
    ∙ sym (variable_fitting parents c.args.types.now variables c.args.number c.in-Some.own.now own)

pub returns-in-None : goal.returns-in-None
returns-in-None c =
    let variables : List (List ℕ) = c.args.variables.now in
    let past : slice_get variables c.args.number ≡ None =
    ap (slice_get variables) (sym c.from.ensures) ∙ slice_get_past variables c.from.result (ltb-false c.from.result (length variables) (sym c.in-None.ensures.lookup.0)) in
    sym (variable_unknown c.args.parents.now c.args.types.now variables c.args.number past)

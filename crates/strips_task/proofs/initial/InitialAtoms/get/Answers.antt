use Rattle.std.proofs.Common.{◌<◌, length, ap, sym, ◌∙◌, arith, slice_get}
use Rattle.strips_task.proofs.Numbered.{length-shown, slice_get-shown}
use Rattle.strips_task.proofs.initial.InitialAtoms.get.Goals as goal

pub index-requires : goal.index-requires
index-requires c = omega (arith, length-shown c.self.inside.distinct c.self.inside.numbers.items c.self.invariant.0, ap length c.self.view_is)

pub get-requires : goal.get-requires
get-requires c =
    let index : c.args.index < length c.self.inside.numbers.items =
    omega (arith, length-shown c.self.inside.distinct c.self.inside.numbers.items c.self.invariant.0, ap length c.self.view_is) in
    omega (arith, c.self.invariant.0 c.args.index c.index.result.now index, c.index.ensures)

pub returns : goal.returns
returns c =
    let index : c.args.index < length c.self.inside.numbers.items =
    omega (arith, length-shown c.self.inside.distinct c.self.inside.numbers.items c.self.invariant.0, ap length c.self.view_is) in
    ap (λ l. slice_get l c.args.index) (sym c.self.view_is)
    ∙ slice_get-shown c.self.inside.distinct c.self.inside.numbers.items c.self.invariant.0 c.args.index c.index.result.now index
    ∙ ap (slice_get c.self.inside.distinct) (sym c.index.ensures)
    ∙ c.get.ensures

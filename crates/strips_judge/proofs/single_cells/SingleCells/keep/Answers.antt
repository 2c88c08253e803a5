use Rattle.std.proofs.Common.{◌≡◌, Some, OnErr, Result, Ok, Err, subst, sym}
use Rattle.strips_judge.specs.SingleCells.{AreCells, Cells, Extent, cell_of}
use Rattle.strips_judge.proofs.SingleCells.{cell_put, cells_same, with_number}
use Rattle.strips_judge.proofs.single_cells.SingleCells.keep.Goals as goal

pub returns-in_err-reserve-clause-right : goal.returns-in_err-reserve-clause-right
returns-in_err-reserve-clause-right c = λ number_of key of is kept.
    cells_same number_of c.args.self.now c.reserve.new.self c.reserve.ensures.extent c.reserve.ensures.same kept

pub returns-clause-right : goal.returns-clause-right
returns-clause-right c = λ number_of key of is kept.
    let reserved = cells_same number_of c.args.self.now c.reserve.new.self c.reserve.ensures.extent c.reserve.ensures.same kept in
    let here = subst (λ (extent : Extent). cell_of extent key ≡ Some c.args.cell) (sym c.reserve.ensures.extent) of in
    subst (λ (cells : Cells). AreCells number_of (with_number cells c.args.cell c.args.number)) (sym c.self-2.view_is)
    (cell_put number_of c.reserve.new.self key c.args.cell c.args.number c.in_ok-reserve.ensures.there here is reserved)

-- what holds holds after a failure
on_err : {A E : Type 0} {P : Type 0} (result : Result A E) → P → OnErr result P
on_err (Ok value) p = tt
on_err (Err error) p = p

pub returns-in_err-reserve-clause-failed : goal.returns-in_err-reserve-clause-failed
returns-in_err-reserve-clause-failed c =
    on_err c.from_residual.result (λ number_of kept. cells_same number_of c.args.self.now c.reserve.new.self c.reserve.ensures.extent c.reserve.ensures.same kept)

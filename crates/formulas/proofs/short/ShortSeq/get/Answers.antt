use Rattle.std.proofs.Common.{◌∙◌, refl, ap, get_or, length, arith}
use Rattle.std.proofs.lemmas.Option.{slice_get_read}
use Rattle.formulas.proofs.short.ShortSeq.get.Goals as goal

pub bounds-items-index : goal.bounds-items-index
bounds-items-index g c = let same = ap length (c.as_slice-items.ensures ∙ c.self.view_is) in omega (arith, same, c.requires)

pub returns : goal.returns
returns g c =
    slice_get_read c.args.self.now (length c.args.self.now) c.args.index c.index-items-index.result refl c.requires
    (c.index-items-index.is ∙ ap (λ items. get_or items c.args.index c.index-items-index.result) (c.as_slice-items.ensures ∙ c.self.view_is))

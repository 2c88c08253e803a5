use Rattle.std.proofs.Common.{◌∙◌, ap, length}
use Rattle.formulas.proofs.short.ShortSeq.len.Goals as goal

pub returns : goal.returns
returns g c = c.len.ensures.value ∙ ap length c.self.view_is

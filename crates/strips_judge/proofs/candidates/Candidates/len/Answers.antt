use Rattle.std.proofs.Common.{◌∙◌, ap, length, sym}
use Rattle.strips_judge.specs.Listing.{candidates_of}
use Rattle.std.proofs.lemmas.List.FromFn.{length-range_with_len}
use Rattle.strips_judge.proofs.candidates.Candidates.len.Goals as goal

pub returns-in-Every : goal.returns-in-Every
returns-in-Every c = c.from.ensures ∙ sym (ap (λ s. length (candidates_of s)) c.in-Every.is ∙ length-range_with_len 0 c.in-Every.count)

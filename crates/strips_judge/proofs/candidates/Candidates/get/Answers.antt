use Rattle.std.proofs.Common.{rules, ◌<◌, ◌∙◌, ap, length, slice_get, arith}
use Rattle.std.proofs.lemmas.Option.{slice_get-get_or}
use Rattle.strips_judge.specs.Listing.{candidates_of}
use Rattle.std.proofs.lemmas.List.FromFn.{length-range_with_len}
use Rattle.strips_judge.proofs.Listings.{range_at}
use Rattle.strips_judge.proofs.candidates.Candidates.get.Goals as goal

pub overflow_cast-result : goal.overflow_cast-result
overflow_cast-result c =
    let within : c.args.index < c.in-Every.field-0 = omega (arith, c.requires, ap (λ s. length (candidates_of s)) c.in-Every.is, length-range_with_len 0 c.in-Every.field-0) in
    search rules

pub returns-in-Every : goal.returns-in-Every
returns-in-Every c =
    let within : c.args.index < c.in-Every.field-0 = omega (arith, c.requires, ap (λ s. length (candidates_of s)) c.in-Every.is, length-range_with_len 0 c.in-Every.field-0) in
    ap (λ s. slice_get (candidates_of s) c.args.index) c.in-Every.is ∙ range_at c.in-Every.field-0 c.args.index within

pub returns-in-Listed : goal.returns-in-Listed
returns-in-Listed c =
    let within : c.args.index < length c.in-Listed.list.now = omega (arith, c.requires, ap (λ s. length (candidates_of s)) c.in-Listed.is) in
    ap (λ s. slice_get (candidates_of s) c.args.index) c.in-Listed.is ∙ slice_get-get_or c.in-Listed.list.now c.args.index 0 within

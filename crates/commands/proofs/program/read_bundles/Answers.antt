use Rattle.std.proofs.Common.{ℕ, List, Bor, Result, IfOk, ap, subst, ◌∙◌}
use Rattle.std.specs.List.{AllZip}
use Rattle.judge_engine.specs.Bundle.{BundleValue}
use Rattle.rayon.proofs.ToStd.{slice-AllZip}
use Rattle.rayon.specs.Lists.{min_len_base}
use Rattle.commands.specs.declared.messages.Stop.{Stop}
use Rattle.commands.specs.Run.{IsFile}
use Rattle.commands.proofs.Files.{read_files}
use Rattle.commands.proofs.program.read_bundles.Goals as goal

pub returns : goal.returns
returns g c =
    let may_hold = g.S.Sources.may_hold c.args.sources.now in
    let read = c.in_ok-collect.ensures in
    let chain = read.1 in
    let base = ap min_len_base c.map.ensures.base ∙ c.with_min_len.ensures.base in
    let slice = ap (λ it. it.slice.now) base ∙ c.par_iter.ensures in
    let same = ap (λ f. f.1) c.map.ensures.f in
    let all = subst (λ (s : Bor _). AllZip (λ (name : Bor (Bor (List ℕ))) (one : Result BundleValue Stop). IfOk one (IsFile (g.S.Sources.may_hold s.now) name.now.now)) chain.0 read.0)
    same chain.2 in
    let each = slice-AllZip chain.0 c.args.names.now (chain.1 ∙ slice) (λ name one. IfOk one (IsFile may_hold name.now)) read.0 all in
    read_files Stop may_hold (λ v. v.items) c.args.names.now read.0 c.in_ok-collect.field-0 _ each read.2

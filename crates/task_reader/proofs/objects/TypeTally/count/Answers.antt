use Rattle.std.proofs.Common.{◌≡◌, ◌∙◌, sym, ap, arith, ℕ, Bool, [], ◌∷◌}
use Rattle.std.proofs.lemmas.List.{drop_all}
use Rattle.strips_task.specs.Types.{fits}
use Rattle.task_reader.specs.Tallies.{tallied}
use Rattle.task_reader.proofs.Counting.{count_types}
use Rattle.task_reader.proofs.objects.TypeTally.count.Goals as goal

pub returns : goal.returns
returns c =
    let self = c.args.self.now in
    let test : ℕ → Bool = λ type. fits self.task.now.parents (type ∷ []) c.args.types.now in
    let none = ap (tallied test c.types.number) (drop_all c.types.number self.exact.items (omega arith)) in
    let all : c.types.count ≡ tallied test 0 self.exact.items = omega (arith, none, c.types.invariant.rest) in
    all ∙ self.tallied test ∙ sym (count_types self.task.now c.args.types.now)

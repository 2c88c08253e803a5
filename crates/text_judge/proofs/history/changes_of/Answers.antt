use Rattle.std.proofs.Common.{List, Option, map, subst, sym, ap, ◌∙◌, ℕ}
use Rattle.std.proofs.lemmas.List.{take_all}
use Rattle.text_judge.specs.declared.history.Watch.{Watch}
use Rattle.text_judge.specs.History.{AreLastChanges}
use Rattle.text_judge.proofs.Histories.{last_of_each}
use Rattle.text_judge.proofs.history.changes_of.Goals as goal

pub returns-clause-changes : goal.returns-clause-changes
returns-clause-changes c = λ parts steps atoms all.
    let lasts : List Watch → List (Option ℕ) = map (λ (watch : Watch). watch.last) in
    subst (λ (l : List (Option ℕ)). AreLastChanges parts steps atoms l)
    (sym (c.loop-watch.invariant ∙ ap lasts (take_all c.loop-watch.watch-index c.args.watches.now c.loop-watch-test.false)))
    (last_of_each parts steps atoms c.args.watches.now all)

use Rattle.std.proofs.Common.{List, All, sym, subst}
use Rattle.strips_task.specs.declared.short_names.Numbered.{Numbered}
use Rattle.strips_task.specs.ShortNames.{IsNumbered}
use Rattle.strips_task.proofs.Found.{follows}
use Rattle.strips_task.proofs.short_names.ShortNames.find_short.Goals as goal

pub returns : goal.returns
returns c =
    follows c.search.result _ _
    (λ number found number_of numbered.
    let here = subst (λ (names : List Numbered). All (IsNumbered number_of) names) (sym c.self.view_is) numbered in
    found number_of (subst (λ (names : List Numbered). All (IsNumbered number_of) names) (sym c.as_slice.ensures.value) here))
    c.search.ensures

use Rattle.std.proofs.Common.{◌≡◌, ◌↔◌, ◌==◌, List, [], ◌∷◌, IsTrue, refl, sym, subst, length, arith, tests}
use Rattle.formulas.proofs.short.ShortSeq.is_empty.Goals as goal

-- a list of no items is the empty list
none_in : {X : Type 0} (items : List X) → IsTrue (length items == 0) ↔ (items ≡ [])
none_in [] = (λ _. refl, λ _. refl)
none_in (item ∷ items) = (λ is. absurd (grind (arith, tests, is)), λ is. cc)

pub returns : goal.returns
returns g c =
    subst (λ (items : List g.row.T.Denot). IsTrue c.is_empty.result ↔ (items ≡ [])) c.self.view_is
    (subst (λ b. IsTrue b ↔ (c.self.inside.items.items ≡ [])) (sym c.is_empty.ensures) (none_in c.self.inside.items.items))

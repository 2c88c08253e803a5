-- Numbers do not depend on what parameters stand for.

use Rattle.std.proofs.Common.{◌≡◌, ℕ, true, List, [], ◌∷◌, map, refl, ap, sym, true≢false}
use Rattle.std.specs.List.{list_all}
use Rattle.formulas.specs.declared.atoms.Atom.{Atom}
use Rattle.strips_task.specs.declared.amounts.Amount.{Amount}
use Rattle.strips_task.specs.declared.amounts.Amount.TheVariants.{Number, Function}
use Rattle.plan_cost.specs.Amounts.{is_number}
use Rattle.plan_cost.specs.Costs.{amount_of}

pub numbers_alike : (values : List (Atom × ℕ)) (objects others : List ℕ) (amounts : List Amount) → list_all is_number amounts ≡ true
    → map (amount_of values objects) amounts ≡ map (amount_of values others) amounts
numbers_alike values objects others [] h = refl
numbers_alike values objects others (Number amount ∷ amounts) h = ap (λ l. amount_of values objects (Number amount) ∷ l) (numbers_alike values objects others amounts h)
numbers_alike values objects others (Function function terms ∷ amounts) h = absurd (true≢false (sym h))

use Rattle.std.proofs.Common.{◌≡◌, ◌-◌, ℕ, List, [], Option, Some, length, take, drop, get_or, map, slice_get, option_and_then, unwrap_or, ap, sym, subst, ◌∙◌, arith}
use Rattle.std.proofs.lemmas.Slice.{first_rest}
use Rattle.strips_task.specs.Names.{number_named}
use Rattle.strips_judge.specs.StepNumbers.{IsNumbered}
use Rattle.strips_judge.proofs.NumberedSteps.{bound_objects}
use Rattle.strips_task.specs.declared.amounts.Amount.{Amount}
use Rattle.plan_cost.specs.Costs.{amount_of, increases_of, sum_of}
use Rattle.plan_cost.proofs.counting.numbered_cost.Goals as goal

pub returns-clause-cost : goal.returns-clause-cost
returns-clause-cost c = λ parts step is.
    let costs = c.args.costs.now in
    let numbers = c.args.numbers.now in
    let action = get_or numbers 0 0 in
    let objects = take (length numbers - 1) (drop 1 numbers) in
    let parted = subst (IsNumbered parts step) (first_rest numbers 0 (omega (arith, c.in-len1-up.len_at_least))) is in
    let named : number_named parts.actions step.action ≡ Some action = cc in
    let amounts : c.increases_of.result.now ≡ increases_of parts costs step.action =
    c.increases_of.ensures.amounts ∙ ap (λ (o : Option ℕ). unwrap_or (option_and_then (slice_get costs.increases) o) []) (sym named) in
    c.in_ok-sum.ensures.sum
    ∙ ap (λ (l : List Amount). sum_of (map (amount_of costs.values objects) l)) amounts
    ∙ ap (λ (l : List ℕ). sum_of (map (amount_of costs.values l) (increases_of parts costs step.action))) (bound_objects parts step action objects parted)

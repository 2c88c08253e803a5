-- What a planner's last line tells, plan by plan, and the lines of its plans.

use Rattle.std.proofs.Common.{◌≡◌, ◌≤◌, ℕ, ◌+◌, zero, suc, slice_get, drop, List, [], ◌∷◌, ◌++◌, length, Option, None, Some, refl, ap, sym, ◌∙◌, arith, append_assoc}
use Rattle.std.specs.Prelude.{min, unwrap_or}
use Rattle.std.specs.Option.{option_map}
use Rattle.std.specs.List.{cons_option}
use Rattle.strips_task.specs.declared.tasks.TaskParts.{TaskParts}
use Rattle.judge_engine.specs.declared.planner.Tally.{Tally}
use Rattle.report_text.specs.declared.format.Format.{Format}
use Rattle.report_text.specs.Format.{plan_in, plan_texts}
use Rattle.report_text.specs.Report.{Judged, valid_costs, valid_steps, least, defined_cost, steps_if_valid}
use Rattle.judge_engine.specs.Tally.{lesser, one_if_valid, tally_with, tally_of, both}

min-assoc : (a b c : ℕ) → min (min a b) c ≡ min a (min b c)
min-assoc a b c = omega arith

lesser-assoc : (a b c : Option ℕ) → lesser (lesser a b) c ≡ lesser a (lesser b c)
lesser-assoc None b c = refl
lesser-assoc (Some a) None c = refl
lesser-assoc (Some a) (Some b) None = refl
lesser-assoc (Some a) (Some b) (Some c) = ap Some (min-assoc a b c)

-- the least of one number more
least_more : (steps : Option ℕ) (rest : List ℕ) → least (cons_option steps rest) ≡ lesser steps (least rest)
least_more None rest = refl
least_more (Some n) rest = by (least rest)
  where
    by : (o : Option ℕ) → ◌≡◌ {A = Option ℕ} (Some (unwrap_or (option_map (min n) o) n)) (lesser (Some n) o)
    by None = refl
    by (Some m) = refl

-- the valid ones are one more where this one is
count_more : (steps : Option ℕ) (rest : List ℕ) → length (cons_option steps rest) ≡ one_if_valid steps + length rest
count_more None rest = omega arith
count_more (Some n) rest = omega arith

-- the least of these numbers and of one more
least_with : (so_far number : Option ℕ) (rest : List ℕ) → lesser (lesser so_far number) (least rest) ≡ lesser so_far (least (cons_option number rest))
least_with so_far number rest = lesser-assoc so_far number (least rest) ∙ ap (lesser so_far) (sym (least_more number rest))

-- one plan is counted, and then the rest
pub counted : (tally : Tally) (plan : Judged) (rest : List Judged) → both (tally_with tally plan) (tally_of rest) ≡ both tally (tally_of (plan ∷ rest))
counted tally plan rest =
    let steps = steps_if_valid plan.verdict in
    let plans : (tally.plans + 1) + length rest ≡ tally.plans + suc (length rest) = omega arith in
    let valid : (tally.valid + one_if_valid steps) + length (valid_steps rest) ≡ tally.valid + length (cons_option steps (valid_steps rest)) =
    omega (arith, count_more steps (valid_steps rest)) in
    let best = least_with tally.best steps (valid_steps rest) in
    let cost = least_with tally.cost (defined_cost plan.cost) (valid_costs rest) in
    (λ j. record { plans = plans j; valid = valid j; best = best j; cost = cost j })

-- nothing was counted yet
pub none_counted : (tally : Tally) → tally.plans ≡ 0 → tally.valid ≡ 0 → tally.best ≡ None → tally.cost ≡ None
    → (plans : List Judged) → both tally (tally_of plans) ≡ tally_of plans
none_counted tally p v b c plans =
    let count : tally.plans + length plans ≡ length plans = omega arith in
    let valid : tally.valid + length (valid_steps plans) ≡ length (valid_steps plans) = omega arith in
    (λ j. record {
      plans = count j;
      valid = valid j;
      best = ap (λ o. lesser o (least (valid_steps plans))) b j;
      cost = ap (λ o. lesser o (least (valid_costs plans))) c j;
    })

-- and all was
lesser_none : (o : Option ℕ) → lesser o None ≡ o
lesser_none None = refl
lesser_none (Some n) = refl

pub all_counted : (tally : Tally) → both tally (tally_of []) ≡ tally
all_counted tally =
    let count : tally.plans + 0 ≡ tally.plans = omega arith in
    let valid : tally.valid + 0 ≡ tally.valid = omega arith in
    (λ j. record { plans = count j; valid = valid j; best = lesser_none tally.best j; cost = lesser_none tally.cost j })

-- one plan, and then the rest
pub told : (format : Format) (task : TaskParts) (name text : List ℕ) (number : ℕ) (plan : Judged) (rest : List Judged)
    → (text ++ plan_in format task name number plan) ++ plan_texts format task name (number + 1) rest ≡ text ++ plan_texts format task name number (plan ∷ rest)
told format task name text number plan rest = append_assoc text (plan_in format task name number plan) (plan_texts format task name (number + 1) rest)

-- a front of a list and the item behind it
pub item_at : {A : Type 0} (xs : List A) (i : ℕ) (x : A) → slice_get xs i ≡ Some x → drop i xs ≡ x ∷ drop (i + 1) xs
item_at [] i x e = cc
item_at (y ∷ ys) zero x e = let same : y ≡ x = cc in ap (λ z. z ∷ ys) same
item_at (y ∷ ys) (suc i) x e =
    let n : suc i + 1 ≡ suc (i + 1) = omega arith in
    item_at ys i x e ∙ ap (λ k. x ∷ drop k (y ∷ ys)) (sym n)

-- at most one plan more is valid
pub one_at_most : (steps : Option ℕ) → one_if_valid steps ≤ 1
one_at_most None = omega arith
one_at_most (Some n) = omega arith

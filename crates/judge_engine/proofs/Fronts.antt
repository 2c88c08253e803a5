-- The plans of the first files of a run.

use Rattle.std.proofs.Common.{◌≡◌, ℕ, zero, suc, ◌+◌, ◌<◌, ◌≤◌, List, [], ◌∷◌, ◌++◌, Result, Ok, IfOk, length, map, take, get_or, refl, ap, subst, sym, ◌∙◌, arith}
use Rattle.std.specs.Prelude.{MatchResult}
use Rattle.std.specs.List.{AllZip, range_with_len}
use Rattle.std.proofs.lemmas.List.{length-append, length-map, map-append, take_all}
use Rattle.std.proofs.lemmas.List.Elements.{All-append}
use Rattle.plan_text.specs.Bundle.{parts}
use Rattle.judge_engine.specs.Answer.{most_plans, plan_count}
use Rattle.judge_engine.specs.Bundle.{BundleValue}
use Rattle.judge_engine.specs.Plans.{AreCutsOf, IsCutOf, bytes_of, plan_of_cut, plan_of_part, plans_of_cuts, plans_of_files}
use Rattle.judge_engine.specs.declared.plans.Cut.{Cut}
use Rattle.judge_engine.proofs.Cutting.{file_more_at}
use Rattle.judge_engine.proofs.PlanCounts.{count_front, count_all}
use Rattle.judge_engine.proofs.Submitted.{count_is}

-- the ranges are those of the plans of the first files, and are not too many
abbrev pub AreOfFront : List BundleValue → List Cut → ℕ → Type 0
AreOfFront bundles cuts files = record {
  within : AreCutsOf bundles cuts;
  plans : plans_of_cuts bundles cuts ≡ plans_of_files 0 (take files bundles);
  few : length cuts ≤ most_plans;
}

module _ (bundles : List BundleValue) (i : ℕ) (cuts : List Cut) (front : AreOfFront bundles cuts i) where
  -- with the plans of the next file there are too many
  pub too_many : i < length bundles → most_plans < length cuts + length (parts (bytes_of bundles i)) → most_plans < plan_count bundles
  too_many lt past =
      omega (
        arith,
        past,
        ap length front.plans,
        length-map cuts (plan_of_cut bundles),
        ap length (file_more_at bundles i lt),
        length-append (plans_of_files 0 (take i bundles)) (map (plan_of_part i) (parts (bytes_of bundles i))),
        length-map (parts (bytes_of bundles i)) (plan_of_part i),
        count_is 0 (take (i + 1) bundles),
        count_front bundles (i + 1),
      )

  -- with them there are not
  pub one_more : (after : List Cut) → i < length bundles → AreCutsOf bundles after
      → plans_of_cuts bundles after ≡ plans_of_cuts bundles cuts ++ map (plan_of_part i) (parts (bytes_of bundles i))
      → length after ≤ most_plans → AreOfFront bundles after (i + 1)
  one_more after lt within same few = record {
    within = within;
    plans = same ∙ ap (λ l. l ++ map (plan_of_part i) (parts (bytes_of bundles i))) front.plans ∙ sym (file_more_at bundles i lt);
    few = few;
  }

  -- the same if they are added to those before
  pub one_added : (more : List Cut) → i < length bundles → AreCutsOf bundles more → plans_of_cuts bundles more ≡ map (plan_of_part i) (parts (bytes_of bundles i))
      → length cuts + length more ≤ most_plans → AreOfFront bundles (cuts ++ more) (i + 1)
  one_added more lt within same few =
      one_more (cuts ++ more) lt (All-append (IsCutOf bundles) cuts more front.within within)
      (map-append (plan_of_cut bundles) cuts more ∙ ap (λ l. plans_of_cuts bundles cuts ++ l) same)
      (omega (arith, length-append cuts more, few))

  -- the first files are all
  pub all_of_them : length bundles ≤ i → AreCutsOf bundles cuts × (plans_of_cuts bundles cuts ≡ plans_of_files 0 bundles) × (plan_count bundles ≤ most_plans)
  all_of_them all = (
    front.within,
    front.plans ∙ ap (plans_of_files 0) (take_all i bundles all),
    omega (
      arith,
      ap length front.plans,
      length-map cuts (plan_of_cut bundles),
      count_is 0 (take i bundles),
      count_all bundles i all,
      front.few,
    ),
  )

module _ {X : Type 0} (E : Type 0) (R : ℕ → X → Type 0) where
  -- what holds of numbers and of what was made of them, place by place
  each_at : (first count : ℕ) (items : List X) → AllZip (λ k (made : Result X E). IfOk made (R k)) (range_with_len first count) (map Ok items)
      → (length items ≡ count) × ((k : ℕ) (d : X) → k < count → R (first + k) (get_or items k d))
  each_at first zero [] all = (refl, λ k d lt. absurd (omega (arith, lt)))
  each_at first zero (x ∷ items) all = absurd all
  each_at first (suc count) [] all = absurd all
  each_at first (suc count) (x ∷ items) all =
      let rest = each_at (first + 1) count items all.1 in (ap suc rest.0, at rest.1)
    where
      at : ((k : ℕ) (d : X) → k < count → R (first + 1 + k) (get_or items k d)) → (k : ℕ) (d : X) → k < suc count → R (first + k) (get_or (x ∷ items) k d)
      at later zero d lt = subst (λ n. R n x) (let here : first ≡ first + 0 = omega arith in here) all.0
      at later (suc k) d lt = subst (λ n. R n (get_or items k d)) (let there : first + 1 + k ≡ first + suc k = omega arith in there) (later k d (omega (arith, lt)))

  -- the same of the numbers from 0 on, where something was made of each
  pub each_made : {V : Type 0} (items_of : V → List X) (numbers : List ℕ) (made : List (Result X E)) (count : ℕ) (all : Result V E) (list : V) (Why : E → Type 0)
      → AllZip (λ k (one : Result X E). IfOk one (R k)) numbers made → numbers ≡ range_with_len 0 count
      → MatchResult all (λ v. (items : List X) × (made ≡ map Ok items) × (items_of v ≡ items)) Why → all ≡ Ok list
      → (length (items_of list) ≡ count) × ((k : ℕ) (d : X) → k < count → R k (get_or (items_of list) k d))
  each_made items_of numbers made count all list Why each are found is =
      let (items, oks, gives) = subst (λ r. MatchResult r (λ v. (items : List X) × (made ≡ map Ok items) × (items_of v ≡ items)) Why) is found in
      let at = each_at 0 count items (rw (are, oks) at each) in
      (ap length gives ∙ at.0, λ k d lt. rw gives (subst (λ n. R n (get_or items k d)) (let same : 0 + k ≡ k = omega arith in same) (at.1 k d lt)))

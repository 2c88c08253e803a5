-- How many plans the planners' files hold.

use Rattle.std.proofs.Common.{◌≡◌, ℕ, ◌+◌, ◌<◌, ◌≤◌, List, length, take, get_or, ap, sym, ◌∙◌, arith, refl}
use Rattle.std.proofs.lemmas.List.{take_all}
use Rattle.std.proofs.lemmas.List.Sums.{sum_by_more, sum_by-take-drop}
use Rattle.plan_text.specs.Bundle.{parts}
use Rattle.judge_engine.specs.Answer.{plan_count}
use Rattle.judge_engine.specs.Bundle.{BundleValue}

-- one file more
pub count_more : (bundles : List BundleValue) (i : ℕ) (bundle : BundleValue) → i < length bundles → bundle ≡ get_or bundles i bundle
    → plan_count (take (i + 1) bundles) ≡ plan_count (take i bundles) + length (parts bundle.bytes)
unfolding plan_count
count_more bundles i bundle lt is =
    sum_by_more (λ b. length (parts b.bytes)) bundles i bundle lt
    ∙ ap (λ (b : BundleValue). plan_count (take i bundles) + length (parts b.bytes)) (sym is)

-- the first files hold no more than all
pub count_front : (bundles : List BundleValue) (i : ℕ) → plan_count (take i bundles) ≤ plan_count bundles
unfolding plan_count
count_front bundles i = omega (arith, sum_by-take-drop (λ b. length (parts b.bytes)) bundles i)

pub count_all : (bundles : List BundleValue) (i : ℕ) → length bundles ≤ i → plan_count (take i bundles) ≡ plan_count bundles
count_all bundles i h = ap plan_count (take_all i bundles h)

pub count_none : (bundles : List BundleValue) → plan_count (take 0 bundles) ≡ 0
unfolding plan_count
count_none bundles = refl

-- A kept task answers as the texts do that it was read from.

use Rattle.std.proofs.Common.{◌≡◌, ◌≢◌, ℕ, ◌<◌, ◌≤◌, Bool, true, false, ◌&&◌, List, [], length, map, nat_le, Option, None, Some, is_none, ap, sym, subst, ◌∙◌, refl, arith, if◌then◌else◌}
use Rattle.std.proofs.lemmas.Bool.{le-leb, lt-leb}
use Rattle.std.specs.Option.{option_map}
use Rattle.pddl_syntax.specs.declared.dialect.Dialect.{Dialect}
use Rattle.strips_task.specs.declared.costs.CostedTask.{CostedTask}
use Rattle.task_reader.specs.Texts.{task_in}
use Rattle.report_text.specs.declared.format.Format.{Format}
use Rattle.report_text.specs.Format.{report}
use Rattle.judge_engine.specs.declared.fault.Input.{Input}
use Rattle.judge_engine.specs.declared.fault.Input.TheVariants as input
use Rattle.judge_engine.specs.declared.fault.JudgeFault.{JudgeFault}
use Rattle.judge_engine.specs.declared.fault.JudgeFault.TheVariants.{TooLarge, TooManyPlanners, Domain, Problem, TooManyPlans, Steps, OutOfMemory, NoThread, Held}
use Rattle.judge_engine.specs.declared.inlet.TheConstants.{FILE_LIMIT}
use Rattle.judge_engine.specs.Answer.{answer_as, is_over_limit, planner_of, too_large, plan_count, most_planners, most_plans}
use Rattle.judge_engine.specs.Bundle.{BundleValue}
use Rattle.judge_engine.specs.Kept.{PlansCallFor, answer_of, task_within}
use Rattle.judge_engine.specs.Refusal.{IsOfTexts, TextsCallForIn}
use Rattle.judge_engine.proofs.TooLarge.{large_from, too_large_bundles}

and_false : (b : Bool) → (b && false) ≡ false
and_false true = refl
and_false false = refl

-- the first of three that is too large
abbrev first : Bool → Bool → Option Input → Option Input
first domain problem plans = if domain then Some input.Domain else if problem then Some input.Problem else plans

-- where the first two are not, the third decides
third : (domain problem : Bool) (before plans : Option Input) → first domain problem before ≡ None → first domain problem plans ≡ plans
third true problem before plans e = let clash : Some input.Domain ≡ None = e in cc
third false true before plans e = let clash : Some input.Problem ≡ None = e in cc
third false false before plans e = refl

-- a text of no bytes is not too large
pub empty_fits : 0 ≤ FILE_LIMIT
empty_fits = omega arith

-- where the domain and the problem are not too large, the planners' files decide
pub same_large : (domain problem : List ℕ) (bundles : List BundleValue) → too_large domain problem [] ≡ None → too_large domain problem bundles ≡ too_large [] [] bundles
unfolding too_large
same_large domain problem bundles none =
    third (is_over_limit domain) (is_over_limit problem) None (large_from 0 bundles) none ∙ sym (too_large_bundles [] [] bundles empty_fits empty_fits)

module _ (dialect : Dialect) (domain problem : List ℕ) where
  abbrev by_size : Option Input → Option CostedTask
  by_size large = if is_none large then task_in dialect domain problem else None

  -- where neither text is too large, the task is the reader's
  pub within_is : too_large domain problem [] ≡ None → task_within dialect domain problem ≡ task_in dialect domain problem
  unfolding task_within
  within_is none = ap by_size none

  -- and else there is none
  pub within_large : (large : Input) → too_large domain problem [] ≡ Some large → task_within dialect domain problem ≡ None
  unfolding task_within
  within_large large is = ap by_size is

  sized : (large : Option Input) (task : CostedTask) → by_size large ≡ Some task → (large ≡ None) × (task_in dialect domain problem ≡ Some task)
  sized None task e = (refl, e)
  sized (Some large) task e = let clash : ◌≡◌ {A = Option CostedTask} None (Some task) = e in cc

  -- where there is one, neither text is too large, and the task is the reader's
  pub within_tells : (task : CostedTask) → task_within dialect domain problem ≡ Some task → (too_large domain problem [] ≡ None) × (task_in dialect domain problem ≡ Some task)
  unfolding task_within
  within_tells task e = sized (too_large domain problem []) task e

module _ (format : Format) (task : CostedTask) (bundles : List BundleValue) where
  abbrev text : List ℕ
  text = report format task (map (planner_of task) bundles)

  abbrev by_limits : Bool → Bool → Bool → Option (List ℕ)
  by_limits sizes planners plans = if sizes && (planners && plans) then Some text else None

  -- the three limits decide whether there is an answer
  by : (sizes planners plans : Bool) → is_none (too_large [] [] bundles) ≡ sizes → nat_le (length bundles) most_planners ≡ planners
      → nat_le (plan_count bundles) most_plans ≡ plans → answer_of format task bundles ≡ by_limits sizes planners plans
  unfolding answer_of
  by sizes planners plans s p q = (λ j. by_limits (s j) (p j) (q j))

  -- where a file is too large there is none
  pub none_if_large : (large : Input) → Some large ≡ too_large [] [] bundles → answer_of format task bundles ≡ None
  none_if_large large e =
      by false (nat_le (length bundles) most_planners) (nat_le (plan_count bundles) most_plans) (ap is_none (sym e)) refl refl

  -- nor where there are too many planners
  pub none_if_many : most_planners < length bundles → answer_of format task bundles ≡ None
  none_if_many many =
      by (is_none (too_large [] [] bundles)) false (nat_le (plan_count bundles) most_plans) refl (lt-leb (length bundles) most_planners many) refl
      ∙ ap (λ b. if b then Some text else None) (and_false (is_none (too_large [] [] bundles)))

  -- nor where there are too many plans
  pub none_if_full : most_plans < plan_count bundles → answer_of format task bundles ≡ None
  none_if_full many =
      by (is_none (too_large [] [] bundles)) (nat_le (length bundles) most_planners) false refl refl (lt-leb (plan_count bundles) most_plans many)
      ∙ ap (λ b. if is_none (too_large [] [] bundles) && b then Some text else None) (and_false (nat_le (length bundles) most_planners))
      ∙ ap (λ b. if b then Some text else None) (and_false (is_none (too_large [] [] bundles)))

  -- and else it is the report
  pub some_report : (found : List ℕ) → None ≡ too_large [] [] bundles → length bundles ≤ most_planners → plan_count bundles ≤ most_plans → found ≡ text
      → answer_of format task bundles ≡ Some found
  some_report found e few fitting is =
      by true true true (ap is_none (sym e)) (le-leb (length bundles) most_planners few) (le-leb (plan_count bundles) most_plans fitting) ∙ ap Some (sym is)

  -- the texts of the task have the same answer
  pub same_answer : (dialect : Dialect) (domain problem : List ℕ) → task_within dialect domain problem ≡ Some task
      → answer_as dialect format domain problem bundles ≡ answer_of format task bundles
  unfolding answer_as answer_of
  same_answer dialect domain problem e =
      let told = within_tells dialect domain problem task e in let large = same_large domain problem bundles told.0 in
      (λ j. if is_none (large j) && (nat_le (length bundles) most_planners && nat_le (plan_count bundles) most_plans)
      then option_map (λ (t : CostedTask). report format t (map (planner_of t) bundles)) (told.1 j) else None)

-- too many plans are a refusal that the files call for
pub plans_full : (bundles : List BundleValue) (fault : JudgeFault) → None ≡ too_large [] [] bundles → length bundles ≤ most_planners
    → (fault ≡ TooManyPlans) × (most_plans < plan_count bundles) → PlansCallFor bundles fault
plans_full bundles fault none few plans = subst (PlansCallFor bundles) (sym plans.0) (sym none, few, plans.1)

-- what the files call for, the texts of the task call for with them
pub same_cause : (dialect : Dialect) (domain problem : List ℕ) (task : CostedTask) (bundles : List BundleValue) (fault : JudgeFault)
    → task_within dialect domain problem ≡ Some task → PlansCallFor bundles fault → IsOfTexts fault × TextsCallForIn dialect domain problem bundles fault
same_cause dialect domain problem task bundles fault e h =
    let told = within_tells dialect domain problem task e in let large = same_large domain problem bundles told.0 in go fault large told.1 h
  where
    go : (f : JudgeFault) → too_large domain problem bundles ≡ too_large [] [] bundles → task_in dialect domain problem ≡ Some task
        → PlansCallFor bundles f → IsOfTexts f × TextsCallForIn dialect domain problem bundles f
    go (TooLarge large) same is h = (tt, same ∙ h)
    go TooManyPlanners same is h = (tt, (same ∙ h.0, h.1))
    go TooManyPlans same is h = (tt, (same ∙ h.0, h.1, (task, is), h.2))
    go (Domain fault) same is h = absurd h
    go (Problem fault) same is h = absurd h
    go (Steps fault) same is h = absurd h
    go OutOfMemory same is h = absurd h
    go NoThread same is h = absurd h
    go (Held job) same is h = absurd h

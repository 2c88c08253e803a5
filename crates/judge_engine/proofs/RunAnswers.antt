-- When the bytes of a run have an answer.

use Rattle.std.proofs.Common.{◌≡◌, ◌≢◌, ℕ, ◌<◌, ◌≤◌, Bool, true, false, ◌&&◌, List, length, map, nat_le, Option, None, Some, is_none, ap, sym, ◌∙◌, refl, if◌then◌else◌}
use Rattle.std.proofs.lemmas.Bool.{le-leb, lt-leb}
use Rattle.std.specs.Option.{option_map}
use Rattle.strips_task.specs.declared.costs.CostedTask.{CostedTask}
use Rattle.pddl_syntax.specs.declared.dialect.Dialect.{Dialect}
use Rattle.task_reader.specs.Texts.{task_in}
use Rattle.judge_engine.specs.Answer.{answer_as, planner_of, too_large, plan_count, most_planners, most_plans}
use Rattle.judge_engine.specs.declared.fault.Input.{Input}
use Rattle.judge_engine.specs.Bundle.{BundleValue}
use Rattle.report_text.specs.declared.format.Format.{Format}
use Rattle.report_text.specs.Format.{report}

and_false : (b : Bool) → (b && false) ≡ false
and_false true = refl
and_false false = refl

module _ (dialect : Dialect) (format : Format) (domain problem : List ℕ) (bundles : List BundleValue) where
  -- the answer, where the run is within its limits
  abbrev of_task : Option CostedTask → Option (List ℕ)
  of_task task = option_map (λ t. report format t (map (planner_of t) bundles)) task

  abbrev by_limits : Bool → Bool → Bool → Option (List ℕ)
  by_limits sizes planners plans = if sizes && (planners && plans) then of_task (task_in dialect domain problem) else None

  -- the three limits decide whether there is one
  by : (sizes planners plans : Bool) → is_none (too_large domain problem bundles) ≡ sizes → nat_le (length bundles) most_planners ≡ planners
      → nat_le (plan_count bundles) most_plans ≡ plans → answer_as dialect format domain problem bundles ≡ by_limits sizes planners plans
  unfolding answer_as
  by sizes planners plans s p q = (λ j. by_limits (s j) (p j) (q j))

  -- where a text is too large there is none
  pub none_if_large : (large : Input) → Some large ≡ too_large domain problem bundles → answer_as dialect format domain problem bundles ≡ None
  none_if_large large e =
      by false (nat_le (length bundles) most_planners) (nat_le (plan_count bundles) most_plans) (ap is_none (sym e)) refl refl

  -- nor where there are too many planners
  pub none_if_many : most_planners < length bundles → answer_as dialect format domain problem bundles ≡ None
  none_if_many many =
      by (is_none (too_large domain problem bundles)) false (nat_le (plan_count bundles) most_plans) refl (lt-leb (length bundles) most_planners many) refl
      ∙ ap (λ b. if b then of_task (task_in dialect domain problem) else None) (and_false (is_none (too_large domain problem bundles)))

  -- nor where there are too many plans
  pub none_if_full : most_plans < plan_count bundles → answer_as dialect format domain problem bundles ≡ None
  none_if_full many =
      by (is_none (too_large domain problem bundles)) (nat_le (length bundles) most_planners) false refl refl (lt-leb (plan_count bundles) most_plans many)
      ∙ ap (λ b. if is_none (too_large domain problem bundles) && b then of_task (task_in dialect domain problem) else None) (and_false (nat_le (length bundles) most_planners))
      ∙ ap (λ b. if b then of_task (task_in dialect domain problem) else None) (and_false (is_none (too_large domain problem bundles)))

  -- nor where the texts stand for no task
  pub none_without_task : task_in dialect domain problem ≡ None → answer_as dialect format domain problem bundles ≡ None
  unfolding answer_as
  none_without_task e = no_task (is_none (too_large domain problem bundles) && (nat_le (length bundles) most_planners && nat_le (plan_count bundles) most_plans))
    where
      no_task : (b : Bool) → (if b then of_task (task_in dialect domain problem) else None) ≡ None
      no_task true = ap of_task e
      no_task false = refl

  -- and else it is the report
  pub some_of_task : (task : CostedTask) (text : List ℕ) → None ≡ too_large domain problem bundles → length bundles ≤ most_planners
      → plan_count bundles ≤ most_plans → task_in dialect domain problem ≡ Some task
      → text ≡ report format task (map (planner_of task) bundles) → answer_as dialect format domain problem bundles ≡ Some text
  some_of_task task text e few fitting f g =
      by true true true (ap is_none (sym e)) (le-leb (length bundles) most_planners few) (le-leb (plan_count bundles) most_plans fitting)
      ∙ ap of_task f ∙ ap Some (sym g)

  -- so there is a report
  pub answered : (task : CostedTask) → None ≡ too_large domain problem bundles → length bundles ≤ most_planners → plan_count bundles ≤ most_plans
      → task_in dialect domain problem ≡ Some task → answer_as dialect format domain problem bundles ≢ None
  answered task e few fitting f none =
      let text = report format task (map (planner_of task) bundles) in
      let clash : ◌≡◌ {A = Option (List ℕ)} (Some text) None = sym (some_of_task task text e few fitting f refl) ∙ none in cc

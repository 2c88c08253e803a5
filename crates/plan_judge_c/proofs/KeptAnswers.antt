-- A kept task is answered as the texts are that it was read from.

use Rattle.std.proofs.Common.{◌≡◌, ℕ, List, [], ◌++◌, codes, slice_get, Option, None, Some, ap, sym, subst, ◌∙◌, refl}
use Rattle.std.specs.Option.{option_and_then, option_map}
use Rattle.pddl_syntax.specs.declared.dialect.Dialect.{Dialect}
use Rattle.report_text.specs.declared.format.Format.{Format}
use Rattle.strips_task.specs.declared.costs.CostedTask.{CostedTask}
use Rattle.judge_engine.specs.Answer.{answer_as, too_large}
use Rattle.judge_engine.specs.FaultText.{fault_text}
use Rattle.judge_engine.specs.Kept.{PlansCallFor, answer_of, task_within}
use Rattle.judge_engine.specs.Refusal.{TextsCallForIn}
use Rattle.judge_engine.specs.declared.fault.Input.{Input}
use Rattle.judge_engine.specs.declared.fault.Input.TheVariants as input
use Rattle.judge_engine.specs.declared.fault.JudgeFault.{JudgeFault}
use Rattle.judge_engine.specs.declared.fault.JudgeFault.TheVariants.{TooLarge, TooManyPlanners, Domain, Problem, TooManyPlans, Steps, OutOfMemory, NoThread, Held}
use Rattle.judge_engine.proofs.KeptTasks.{empty_fits, same_answer, same_cause}
use Rattle.judge_engine.proofs.TooLarge.{too_large_bundles}
use Rattle.plan_judge_c.specs.Answers.{IsCalledFor, name_or_none, refusal_line, report_for}
use Rattle.c_values.specs.Handing.{IsHandedOut}
use Rattle.plan_judge_c.specs.Inputs.{bundles_of, format_numbered}
use Rattle.c_values.specs.Dialects.{dialect_numbered}
use Rattle.plan_judge_c.specs.KeptAnswers.{AreTextsOf, kept_report, task_for}
use Rattle.plan_judge_c.specs.declared.inputs.NamedText.{NamedText}
use Rattle.plan_judge_c.specs.declared.inputs.Texts.{Texts}

-- where the dialect is known, the task is the engine's
pub task_is : (texts : Texts) (dialect : Dialect) → dialect_numbered texts.dialect ≡ Some dialect
    → task_for texts ≡ task_within dialect texts.domain.bytes.now texts.problem.bytes.now
unfolding task_for
task_is texts dialect d = ap (option_and_then (λ x. task_within x texts.domain.bytes.now texts.problem.bytes.now)) d

-- and where it is not, there is none
pub no_task : (texts : Texts) → dialect_numbered texts.dialect ≡ None → task_for texts ≡ None
unfolding task_for
no_task texts d = ap (option_and_then (λ x. task_within x texts.domain.bytes.now texts.problem.bytes.now)) d

-- where a task is kept and the format is known, the report is the engine's
pub kept_is : (kept : Option CostedTask) (plans : List NamedText) (number : ℕ) (task : CostedTask) (format : Format) → kept ≡ Some task → format_numbered number ≡ Some format
    → kept_report kept plans number ≡ answer_of format task (bundles_of plans)
unfolding kept_report
kept_is kept plans number task format k f = (λ j. option_and_then (λ x. option_and_then (λ y. answer_of y x (bundles_of plans)) (f j)) (k j))

module _ (texts : Texts) where
  abbrev within : Dialect → Option CostedTask
  within dialect = task_within dialect texts.domain.bytes.now texts.problem.bytes.now

  known_at : (numbered : Option Dialect) (task : CostedTask) → option_and_then within numbered ≡ Some task → (dialect : Dialect) × (numbered ≡ Some dialect) × (within dialect ≡ Some task)
  known_at None task e = let clash : ◌≡◌ {A = Option CostedTask} None (Some task) = e in cc
  known_at (Some dialect) task e = (dialect, refl, e)

  -- texts with a task have a dialect
  known : (task : CostedTask) → task_for texts ≡ Some task → (dialect : Dialect) × (dialect_numbered texts.dialect ≡ Some dialect) × (within dialect ≡ Some task)
  unfolding task_for
  known task e = known_at (dialect_numbered texts.dialect) task e

  pub same_report : (kept : Option CostedTask) (plans : List NamedText) (number : ℕ) → AreTextsOf kept plans texts → report_for texts number ≡ kept_report kept plans number
  unfolding report_for kept_report
  same_report kept plans number of =
      let found = known of.0 of.2 in
      (λ j. option_and_then (λ x. option_and_then (λ y. answer_as x y texts.domain.bytes.now texts.problem.bytes.now (bundles_of (of.3 j))) (format_numbered number)) (found.1 j))
      ∙ (λ j. option_and_then (λ y. same_answer y of.0 (bundles_of plans) found.0 texts.domain.bytes.now texts.problem.bytes.now found.2 j) (format_numbered number))
      ∙ (λ j. option_and_then (λ x. option_and_then (λ y. answer_of y x (bundles_of plans)) (format_numbered number)) (sym of.1 j))

  pub same_fault : (kept : Option CostedTask) (plans : List NamedText) (fault : JudgeFault) → AreTextsOf kept plans texts → PlansCallFor (bundles_of plans) fault → IsCalledFor texts fault
  same_fault kept plans fault of cause =
      let found = known of.0 of.2 in
      let called = same_cause found.0 texts.domain.bytes.now texts.problem.bytes.now of.0 (bundles_of plans) fault found.2 cause in
      (found.0, found.1, called.0, subst (λ ps. TextsCallForIn found.0 texts.domain.bytes.now texts.problem.bytes.now (bundles_of ps) fault) (sym of.3) called.1)

-- of the inputs only a file of plans can be too large
plans_alone : (index : Option ℕ) (large : Input) → option_map input.Plans index ≡ Some large → (i : ℕ) × (large ≡ input.Plans i)
plans_alone None large e = let clash : ◌≡◌ {A = Option Input} None (Some large) = e in cc
plans_alone (Some i) large e = let both : Some (input.Plans i) ≡ Some large = e in (i, cc)

-- what files of plans call for is told in the same line, whatever the other texts
pub same_line : (plans : List NamedText) (fault : JudgeFault) → PlansCallFor (bundles_of plans) fault → (a b : Texts) → a.plans.now ≡ plans → b.plans.now ≡ plans
    → refusal_line a fault ≡ refusal_line b fault
same_line plans (TooLarge large) cause a b ea eb =
    let found = plans_alone _ large (sym (too_large_bundles [] [] (bundles_of plans) empty_fits empty_fits) ∙ cause) in
    subst (λ l. refusal_line a (TooLarge l) ≡ refusal_line b (TooLarge l)) (sym found.1)
    (ap (λ ps. fault_text (name_or_none (slice_get ps found.0)) 1 (TooLarge (input.Plans found.0)) ++ codes "\n") (ea ∙ sym eb))
same_line plans TooManyPlanners cause a b ea eb = refl
same_line plans TooManyPlans cause a b ea eb = refl
same_line plans (Domain fault) cause a b ea eb = absurd cause
same_line plans (Problem fault) cause a b ea eb = absurd cause
same_line plans (Steps fault) cause a b ea eb = absurd cause
same_line plans OutOfMemory cause a b ea eb = absurd cause
same_line plans NoThread cause a b ea eb = absurd cause
same_line plans (Held job) cause a b ea eb = absurd cause

-- so it is that of all texts with these plans
pub line_of_all : (plans : List NamedText) (fault : JudgeFault) (size : ℕ) (before after : List ℕ) (some : Texts) → PlansCallFor (bundles_of plans) fault → some.plans.now ≡ plans
    → IsHandedOut (refusal_line some fault) size before after → (texts : Texts) → texts.plans.now ≡ plans → IsHandedOut (refusal_line texts fault) size before after
line_of_all plans fault size before after some cause is handed texts has =
    subst (λ line. IsHandedOut line size before after) (same_line plans fault cause some texts is has) handed

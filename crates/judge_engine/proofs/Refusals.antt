-- Refusals that the texts of a run call for.

use Rattle.std.proofs.Common.{◌≡◌, ◌≢◌, ℕ, ◌<◌, ◌≤◌, List, length, Option, None, Some, Result, Ok, Err, IfErr, refl, ap, sym, ◌∙◌, subst, ◌↔◌}
use Rattle.pddl_syntax.specs.declared.fault.FaultKind.TheVariants.{OutOfMemory as Memory}
use Rattle.pddl_syntax.specs.declared.fault.ReadFault.{ReadFault}
use Rattle.pddl_syntax.specs.Trees.{text_fault}
use Rattle.strips_task.specs.declared.costs.CostedTask.{CostedTask}
use Rattle.pddl_syntax.specs.declared.dialect.Dialect.{Dialect}
use Rattle.judge_engine.specs.declared.fault.Input.{Input}
use Rattle.judge_engine.specs.declared.fault.JudgeFault.{JudgeFault}
use Rattle.judge_engine.specs.declared.fault.JudgeFault.TheVariants.{TooLarge, TooManyPlanners, Domain, Problem, TooManyPlans, Steps, OutOfMemory, NoThread, Held}
use Rattle.judge_engine.specs.Bundle.{BundleValue}
use Rattle.task_reader.specs.declared.readers.TaskFault.{TaskFault}
use Rattle.task_reader.specs.declared.readers.TaskFault.TheVariants as reader
use Rattle.task_reader.specs.Texts.{task_in}
use Rattle.judge_engine.specs.Answer.{too_large, plan_count, most_planners, most_plans}
use Rattle.judge_engine.specs.Refusal.{IsOfTexts, IsOfThreads, ReadingCallsFor, TextsCallForIn}
use Rattle.judge_engine.proofs.TextFaults.{text_fault_kind}

-- one error at most
pub same_error : {T E : Type 0} (e f : E) → ◌≡◌ {A = Result T E} (Err e) (Err f) → e ≡ f
same_error e f is = cc

-- wrong bytes and parentheses of the domain are told, since finding them takes no memory
pub told_at_once : {T U : Type 0} (domain : List ℕ) (told : TaskFault) (fault : ReadFault) (refusal : JudgeFault) → told ≡ reader.Domain fault
    → (fault.kind ≢ Memory → refusal ≡ Domain fault)
    → ((e : ReadFault) → text_fault domain ≡ Some e → ◌≡◌ {A = Result T TaskFault} (Err told) (Err (reader.Domain e)))
    → (e : ReadFault) → text_fault domain ≡ Some e → ◌≡◌ {A = Result U JudgeFault} (Err refusal) (Err (Domain e))
told_at_once {T} domain told fault refusal of is first e found =
    let of_domain : told ≡ reader.Domain e = same_error {T = T} told (reader.Domain e) (first e found) in
    let both : reader.Domain fault ≡ reader.Domain e = sym of ∙ of_domain in
    let same : fault ≡ e = cc in
    let kind : fault.kind ≢ Memory = subst (λ (f : ReadFault). f.kind ≢ Memory) (sym same) (text_fault_kind domain e found) in
    let refused : refusal ≡ Domain e = is kind ∙ ap (λ (f : ReadFault). Domain f) same in
    ap (λ (r : JudgeFault). Err r) refused

-- what an error says holds of the error
err_at : {T E : Type 0} (P : E → Type 0) (r : Result T E) (e : E) → r ≡ Err e → IfErr r P → P e
err_at {T} {E} P (Ok x) e is h = let clash : ◌≡◌ {A = Result T E} (Ok x) (Err e) = is in cc
err_at {T} {E} P (Err f) e is h = subst P (same_error {T = T} f e is) h

module _ (dialect : Dialect) (domain problem : List ℕ) (bundles : List BundleValue) where
  -- where no text is too large and the planners are few, what the domain and the problem call for
  pub read_cause : (fault : JudgeFault) → None ≡ too_large domain problem bundles → length bundles ≤ most_planners
      → ReadingCallsFor dialect domain problem fault → TextsCallForIn dialect domain problem bundles fault
  read_cause (Domain fault) none few h = (sym none, few, h)
  read_cause (Problem fault) none few h = (sym none, few, h)
  read_cause (TooLarge large) none few h = absurd h
  read_cause TooManyPlanners none few h = absurd h
  read_cause TooManyPlans none few h = absurd h
  read_cause (Steps fault) none few h = absurd h
  read_cause OutOfMemory none few h = absurd h
  read_cause NoThread none few h = absurd h
  read_cause (Held job) none few h = absurd h

  -- where there is a task, too many plans are the cause
  pub plans_cause : (task : CostedTask) (fault : JudgeFault) → None ≡ too_large domain problem bundles → length bundles ≤ most_planners
      → task_in dialect domain problem ≡ Some task → (fault ≡ TooManyPlans) × (most_plans < plan_count bundles)
      → TextsCallForIn dialect domain problem bundles fault
  plans_cause task fault none few is plans =
      subst (TextsCallForIn dialect domain problem bundles) (sym plans.0) (sym none, few, (task, is), plans.1)

  -- the index of a text that is too large is reported, and no other
  pub large_told : {T : Type 0} (index : Input) → Some index ≡ too_large domain problem bundles
      → (n : Input) → (◌≡◌ {A = Result T JudgeFault} (Err (TooLarge index)) (Err (TooLarge n))) ↔ (too_large domain problem bundles ≡ Some n)
  large_told {T} index is n = (
    λ same. let told : TooLarge index ≡ TooLarge n = same_error {T = T} (TooLarge index) (TooLarge n) same in
        let equal : index ≡ n = cc in sym is ∙ ap Some equal,
    λ at. let both : Some index ≡ Some n = is ∙ at in let equal : index ≡ n = cc in ap (λ (k : Input). Err (TooLarge k)) equal,
  )

  -- where there is none, that is not told
  pub no_large_told : {T : Type 0} (result : Result T JudgeFault) → None ≡ too_large domain problem bundles
      → IfErr result (λ fault. (n : Input) → fault ≢ TooLarge n)
      → (n : Input) → (result ≡ Err (TooLarge n)) ↔ (too_large domain problem bundles ≡ Some n)
  no_large_told result none other n = (
    λ same. absurd (err_at (λ fault. (n : Input) → fault ≢ TooLarge n) result (TooLarge n) same other n refl),
    λ at. let clash : ◌≡◌ {A = Option Input} None (Some n) = none ∙ at in cc,
  )

  -- the readers tell no size
  pub read_no_size : (fault : JudgeFault) → (fault ≢ OutOfMemory → ReadingCallsFor dialect domain problem fault) → (n : Input) → fault ≢ TooLarge n
  read_no_size fault cause n is =
      subst (ReadingCallsFor dialect domain problem) is (cause (λ memory. let clash : TooLarge n ≡ OutOfMemory = sym is ∙ memory in cc))

  -- and no held job
  pub read_not_held : (fault : JudgeFault) → (fault ≢ OutOfMemory → ReadingCallsFor dialect domain problem fault) → (job : ℕ) → fault ≢ Held job
  read_not_held fault cause job is =
      subst (ReadingCallsFor dialect domain problem) is (cause (λ memory. let clash : Held job ≡ OutOfMemory = sym is ∙ memory in cc))

  -- and nothing about threads
  pub read_no_threads : (fault : JudgeFault) → (fault ≢ OutOfMemory → ReadingCallsFor dialect domain problem fault) → IsOfThreads fault → ⊥
  read_no_threads NoThread cause of_threads = cause (λ memory. let clash : NoThread ≡ OutOfMemory = memory in cc)
  read_no_threads (Held job) cause of_threads = cause (λ memory. let clash : Held job ≡ OutOfMemory = memory in cc)
  read_no_threads (Domain fault) cause of_threads = of_threads
  read_no_threads (Problem fault) cause of_threads = of_threads
  read_no_threads (TooLarge large) cause of_threads = of_threads
  read_no_threads TooManyPlanners cause of_threads = of_threads
  read_no_threads TooManyPlans cause of_threads = of_threads
  read_no_threads (Steps fault) cause of_threads = of_threads
  read_no_threads OutOfMemory cause of_threads = of_threads

-- all that readers report but want of memory lies in the texts
pub read_of_texts : (dialect : Dialect) (domain problem : List ℕ) (fault : JudgeFault) → ReadingCallsFor dialect domain problem fault → IsOfTexts fault
read_of_texts dialect domain problem (Domain fault) h = tt
read_of_texts dialect domain problem (Problem fault) h = tt
read_of_texts dialect domain problem (TooLarge large) h = tt
read_of_texts dialect domain problem TooManyPlanners h = tt
read_of_texts dialect domain problem TooManyPlans h = tt
read_of_texts dialect domain problem (Steps fault) h = tt
read_of_texts dialect domain problem OutOfMemory h = h
read_of_texts dialect domain problem NoThread h = h
read_of_texts dialect domain problem (Held job) h = h

-- what lies in the texts is no want of memory
pub not_memory : (fault : JudgeFault) → IsOfTexts fault → fault ≢ OutOfMemory
not_memory fault in_texts memory = subst IsOfTexts memory in_texts

-- where nothing in the texts but too many plans is told, no size is
pub plans_no_size : {P : Type 0} (fault : JudgeFault) → (IsOfTexts fault → (fault ≡ TooManyPlans) × P) → (n : Input) → fault ≢ TooLarge n
plans_no_size fault told n is =
    let plans = told (subst IsOfTexts (sym is) tt) in
    let clash : TooManyPlans ≡ TooLarge n = sym plans.0 ∙ is in cc

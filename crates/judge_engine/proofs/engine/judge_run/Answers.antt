use Rattle.std.proofs.Common.{◌≡◌, ◌≢◌, ◌<◌, ◌≤◌, List, ℕ, Ok, Err, Result, map, None, Some, ap}
use Rattle.strips_task.specs.declared.costs.CostedTask.{CostedTask}
use Rattle.judge_engine.specs.declared.fault.Input.{Input}
use Rattle.judge_engine.specs.declared.fault.JudgeFault.{JudgeFault}
use Rattle.judge_engine.specs.declared.fault.JudgeFault.TheVariants.{Domain, TooLarge, TooManyPlans, TooManyPlanners}
use Rattle.judge_engine.specs.Answer.{answer_as, planner_of, plan_count, most_plans}
use Rattle.judge_engine.specs.Refusal.{IsOfTexts, IsOfThreads, TextsCallForIn}
use Rattle.report_text.specs.Format.{report}
use Rattle.judge_engine.proofs.Outcomes.{if_ok_more, if_err_more}
use Rattle.judge_engine.proofs.Refusals.{same_error, large_told, no_large_told, read_cause, read_no_size, read_not_held, read_no_threads, not_memory, plans_cause, plans_no_size}
use Rattle.judge_engine.proofs.RunAnswers.{answered, none_if_large, none_if_many, none_if_full, none_without_task, some_of_task}
use Rattle.judge_engine.proofs.engine.judge_run.Goals as goal

pub returns-in-Some-clause-refusal : goal.returns-in-Some-clause-refusal
returns-in-Some-clause-refusal g c = λ _. none_if_large c.args.input.now.dialect c.args.input.now.format c.args.input.now.domain.now c.args.input.now.problem.now c.args.input.now.bundles.now c.in-Some.large c.in-Some.ensures

pub returns-in-Some-clause-large : goal.returns-in-Some-clause-large
returns-in-Some-clause-large g c = large_told c.args.input.now.dialect c.args.input.now.domain.now c.args.input.now.problem.now c.args.input.now.bundles.now c.in-Some.large c.in-Some.ensures

pub returns-then-input-gt-MOST_PLANNERS-clause-refusal : goal.returns-then-input-gt-MOST_PLANNERS-clause-refusal
returns-then-input-gt-MOST_PLANNERS-clause-refusal g c = λ _. none_if_many c.args.input.now.dialect c.args.input.now.format c.args.input.now.domain.now c.args.input.now.problem.now c.args.input.now.bundles.now c.if-input-gt-MOST_PLANNERS.true

pub returns-then-input-gt-MOST_PLANNERS-clause-large : goal.returns-then-input-gt-MOST_PLANNERS-clause-large
returns-then-input-gt-MOST_PLANNERS-clause-large g c =
    no_large_told c.args.input.now.dialect c.args.input.now.domain.now c.args.input.now.problem.now c.args.input.now.bundles.now (Err TooManyPlanners) c.in-None.ensures (λ n is. let clash : TooManyPlanners ≡ TooLarge n = is in cc)

pub returns-in-Ok-clause-answer : goal.returns-in-Ok-clause-answer
returns-in-Ok-clause-answer g c =
    if_ok_more {P = λ (text : List ℕ). (plan_count c.args.input.now.bundles.now ≤ most_plans) × (text ≡ report c.args.input.now.format c.in-Ok.task (map (planner_of c.in-Ok.task) c.args.input.now.bundles.now))}
    {Q = λ (text : List ℕ). answer_as c.args.input.now.dialect c.args.input.now.format c.args.input.now.domain.now c.args.input.now.problem.now c.args.input.now.bundles.now ≡ Some text} c.judge_planners.result
    (λ text h. some_of_task c.args.input.now.dialect c.args.input.now.format c.args.input.now.domain.now c.args.input.now.problem.now c.args.input.now.bundles.now c.in-Ok.task text c.in-None.ensures c.if-input-gt-MOST_PLANNERS.false h.0 c.in-Ok.ensures.task h.1)
    c.judge_planners.ensures.report

pub returns-in-Ok-clause-refusal : goal.returns-in-Ok-clause-refusal
returns-in-Ok-clause-refusal g c =
    if_err_more {P = λ fault. IsOfTexts fault → (fault ≡ TooManyPlans) × (most_plans < plan_count c.args.input.now.bundles.now)}
    {Q = λ fault. IsOfTexts fault → answer_as c.args.input.now.dialect c.args.input.now.format c.args.input.now.domain.now c.args.input.now.problem.now c.args.input.now.bundles.now ≡ None} c.judge_planners.result
    (λ fault h in_texts. none_if_full c.args.input.now.dialect c.args.input.now.format c.args.input.now.domain.now c.args.input.now.problem.now c.args.input.now.bundles.now (h in_texts).1) c.judge_planners.ensures.refusal

pub returns-in-Ok-clause-cause : goal.returns-in-Ok-clause-cause
returns-in-Ok-clause-cause g c =
    if_err_more {P = λ fault. IsOfTexts fault → (fault ≡ TooManyPlans) × (most_plans < plan_count c.args.input.now.bundles.now)}
    {Q = λ fault. IsOfTexts fault → TextsCallForIn c.args.input.now.dialect c.args.input.now.domain.now c.args.input.now.problem.now c.args.input.now.bundles.now fault} c.judge_planners.result
    (λ fault h in_texts. plans_cause c.args.input.now.dialect c.args.input.now.domain.now c.args.input.now.problem.now c.args.input.now.bundles.now c.in-Ok.task fault c.in-None.ensures c.if-input-gt-MOST_PLANNERS.false
    c.in-Ok.ensures.task (h in_texts)) c.judge_planners.ensures.refusal

pub returns-in-Ok-clause-large : goal.returns-in-Ok-clause-large
returns-in-Ok-clause-large g c =
    no_large_told c.args.input.now.dialect c.args.input.now.domain.now c.args.input.now.problem.now c.args.input.now.bundles.now c.judge_planners.result c.in-None.ensures
    (if_err_more {P = λ fault. IsOfTexts fault → (fault ≡ TooManyPlans) × (most_plans < plan_count c.args.input.now.bundles.now)}
    {Q = λ fault. (n : Input) → fault ≢ TooLarge n} c.judge_planners.result plans_no_size c.judge_planners.ensures.refusal)

pub returns-in-Ok-clause-domain_text : goal.returns-in-Ok-clause-domain_text
returns-in-Ok-clause-domain_text g c =
    λ e none few found. let clash : ◌≡◌ {A = Result CostedTask JudgeFault} (Ok c.in-Ok.task) (Err (Domain e)) = c.in-Ok.ensures.domain_text e found in cc

pub returns-in-Err-clause-refusal : goal.returns-in-Err-clause-refusal
returns-in-Err-clause-refusal g c = λ in_texts. none_without_task c.args.input.now.dialect c.args.input.now.format c.args.input.now.domain.now c.args.input.now.problem.now c.args.input.now.bundles.now (c.in-Err.ensures.refusal (not_memory c.in-Err.fault in_texts))

pub returns-in-Err-clause-cause : goal.returns-in-Err-clause-cause
returns-in-Err-clause-cause g c =
    λ in_texts. read_cause c.args.input.now.dialect c.args.input.now.domain.now c.args.input.now.problem.now c.args.input.now.bundles.now c.in-Err.fault c.in-None.ensures c.if-input-gt-MOST_PLANNERS.false
    (c.in-Err.ensures.cause (not_memory c.in-Err.fault in_texts))

pub returns-in-Err-clause-large : goal.returns-in-Err-clause-large
returns-in-Err-clause-large g c =
    no_large_told c.args.input.now.dialect c.args.input.now.domain.now c.args.input.now.problem.now c.args.input.now.bundles.now (Err c.in-Err.fault) c.in-None.ensures (read_no_size c.args.input.now.dialect c.args.input.now.domain.now c.args.input.now.problem.now c.args.input.now.bundles.now c.in-Err.fault c.in-Err.ensures.cause)

pub returns-in-Err-clause-domain_text : goal.returns-in-Err-clause-domain_text
returns-in-Err-clause-domain_text g c =
    λ e none few found. let same : c.in-Err.fault ≡ Domain e =
    same_error {T = CostedTask} c.in-Err.fault (Domain e) (c.in-Err.ensures.domain_text e found) in
    ap (λ (f : JudgeFault). Err f) same

pub returns-in-Err-clause-held : goal.returns-in-Err-clause-held
returns-in-Err-clause-held g c =
    λ job is. absurd (read_not_held c.args.input.now.dialect c.args.input.now.domain.now c.args.input.now.problem.now c.args.input.now.bundles.now c.in-Err.fault c.in-Err.ensures.cause job is)

pub returns-in-Ok-clause-threads : goal.returns-in-Ok-clause-threads
returns-in-Ok-clause-threads g c =
    if_err_more {P = λ fault. IsOfThreads fault → plan_count c.args.input.now.bundles.now ≤ most_plans}
    {Q = λ fault. IsOfThreads fault → answer_as c.args.input.now.dialect c.args.input.now.format c.args.input.now.domain.now c.args.input.now.problem.now c.args.input.now.bundles.now ≢ None} c.judge_planners.result
    (λ fault h of_threads. answered c.args.input.now.dialect c.args.input.now.format c.args.input.now.domain.now c.args.input.now.problem.now c.args.input.now.bundles.now c.in-Ok.task c.in-None.ensures c.if-input-gt-MOST_PLANNERS.false
    (h of_threads) c.in-Ok.ensures.task) c.judge_planners.ensures.counted

pub returns-in-Err-clause-threads : goal.returns-in-Err-clause-threads
returns-in-Err-clause-threads g c =
    λ of_threads. absurd (read_no_threads c.args.input.now.dialect c.args.input.now.domain.now c.args.input.now.problem.now c.args.input.now.bundles.now c.in-Err.fault c.in-Err.ensures.cause of_threads)

use Rattle.std.proofs.Common.{◌≡◌, ◌<◌, ◌≤◌, ℕ, List, None, Some, map}
use Rattle.report_text.specs.Format.{report}
use Rattle.judge_engine.specs.Answer.{planner_of, plan_count, most_plans}
use Rattle.judge_engine.specs.Kept.{PlansCallFor, answer_of}
use Rattle.judge_engine.specs.Refusal.{IsOfTexts}
use Rattle.judge_engine.specs.declared.fault.JudgeFault.TheVariants.{TooManyPlans}
use Rattle.judge_engine.proofs.KeptTasks.{none_if_full, none_if_large, none_if_many, plans_full, some_report}
use Rattle.judge_engine.proofs.Outcomes.{if_ok_more, if_err_more}
use Rattle.judge_engine.proofs.kept.judge_kept.Goals as goal

pub returns-in-Some-clause-refusal : goal.returns-in-Some-clause-refusal
returns-in-Some-clause-refusal c = λ _. none_if_large c.args.format c.args.task.now c.args.bundles.now c.in-Some.large c.in-Some.ensures

pub returns-then-bundles-gt-MOST_PLANNERS-clause-refusal : goal.returns-then-bundles-gt-MOST_PLANNERS-clause-refusal
returns-then-bundles-gt-MOST_PLANNERS-clause-refusal c = λ _. none_if_many c.args.format c.args.task.now c.args.bundles.now c.if-bundles-gt-MOST_PLANNERS.true

pub returns-else-bundles-gt-MOST_PLANNERS-clause-answer : goal.returns-else-bundles-gt-MOST_PLANNERS-clause-answer
returns-else-bundles-gt-MOST_PLANNERS-clause-answer c =
    if_ok_more {P = λ (text : List ℕ). (plan_count c.args.bundles.now ≤ most_plans) × (text ≡ report c.args.format c.args.task.now (map (planner_of c.args.task.now) c.args.bundles.now))}
    {Q = λ (text : List ℕ). answer_of c.args.format c.args.task.now c.args.bundles.now ≡ Some text} c.planners_alone.result
    (λ text h. some_report c.args.format c.args.task.now c.args.bundles.now text c.in-None.ensures c.if-bundles-gt-MOST_PLANNERS.false h.0 h.1) c.planners_alone.ensures.report

pub returns-else-bundles-gt-MOST_PLANNERS-clause-refusal : goal.returns-else-bundles-gt-MOST_PLANNERS-clause-refusal
returns-else-bundles-gt-MOST_PLANNERS-clause-refusal c =
    if_err_more {P = λ fault. IsOfTexts fault → (fault ≡ TooManyPlans) × (most_plans < plan_count c.args.bundles.now)}
    {Q = λ fault. IsOfTexts fault → answer_of c.args.format c.args.task.now c.args.bundles.now ≡ None} c.planners_alone.result
    (λ fault h in_texts. none_if_full c.args.format c.args.task.now c.args.bundles.now (h in_texts).1) c.planners_alone.ensures.refusal

pub returns-else-bundles-gt-MOST_PLANNERS-clause-cause : goal.returns-else-bundles-gt-MOST_PLANNERS-clause-cause
returns-else-bundles-gt-MOST_PLANNERS-clause-cause c =
    if_err_more {P = λ fault. IsOfTexts fault → (fault ≡ TooManyPlans) × (most_plans < plan_count c.args.bundles.now)}
    {Q = λ fault. IsOfTexts fault → PlansCallFor c.args.bundles.now fault} c.planners_alone.result
    (λ fault h in_texts. plans_full c.args.bundles.now fault c.in-None.ensures c.if-bundles-gt-MOST_PLANNERS.false (h in_texts)) c.planners_alone.ensures.refusal

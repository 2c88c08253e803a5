use Rattle.std.proofs.Common.{◌≡◌, ◌≢◌, ◌∙◌, [], None, Some, sym, lit≤}
use Rattle.strips_task.specs.declared.costs.CostedTask.{CostedTask}
use Rattle.task_reader.specs.Texts.{task_in}
use Rattle.judge_engine.specs.declared.fault.JudgeFault.TheVariants.{OutOfMemory}
use Rattle.judge_engine.specs.Kept.{task_within}
use Rattle.judge_engine.specs.Refusal.{IsOfTexts, ReadingCallsFor, TextsCallForIn}
use Rattle.judge_engine.proofs.KeptTasks.{within_is, within_large}
use Rattle.judge_engine.proofs.Outcomes.{if_ok_more, if_err_more}
use Rattle.judge_engine.proofs.Refusals.{not_memory, read_cause, read_of_texts}
use Rattle.judge_engine.proofs.kept.read_kept.Goals as goal

pub returns-in-Some-clause-refusal : goal.returns-in-Some-clause-refusal
returns-in-Some-clause-refusal c = λ _. within_large c.args.dialect c.args.domain.now c.args.problem.now c.in-Some.large (sym c.in-Some.ensures)

pub returns-in-None-clause-task : goal.returns-in-None-clause-task
returns-in-None-clause-task c =
    if_ok_more {P = λ (task : CostedTask). task_in c.args.dialect c.args.domain.now c.args.problem.now ≡ Some task}
    {Q = λ (task : CostedTask). task_within c.args.dialect c.args.domain.now c.args.problem.now ≡ Some task} c.read_task.result
    (λ task h. within_is c.args.dialect c.args.domain.now c.args.problem.now (sym c.in-None.ensures) ∙ h) c.read_task.ensures.task

pub returns-in-None-clause-refusal : goal.returns-in-None-clause-refusal
returns-in-None-clause-refusal c =
    if_err_more {P = λ fault. fault ≢ OutOfMemory → task_in c.args.dialect c.args.domain.now c.args.problem.now ≡ None}
    {Q = λ fault. IsOfTexts fault → task_within c.args.dialect c.args.domain.now c.args.problem.now ≡ None} c.read_task.result
    (λ fault h in_texts. within_is c.args.dialect c.args.domain.now c.args.problem.now (sym c.in-None.ensures) ∙ h (not_memory fault in_texts)) c.read_task.ensures.refusal

pub returns-in-None-clause-cause : goal.returns-in-None-clause-cause
returns-in-None-clause-cause c =
    if_err_more {P = λ fault. fault ≢ OutOfMemory → ReadingCallsFor c.args.dialect c.args.domain.now c.args.problem.now fault}
    {Q = λ fault. IsOfTexts fault → TextsCallForIn c.args.dialect c.args.domain.now c.args.problem.now [] fault} c.read_task.result
    (λ fault h in_texts. read_cause c.args.dialect c.args.domain.now c.args.problem.now [] fault c.in-None.ensures (lit≤ tt) (h (not_memory fault in_texts))) c.read_task.ensures.cause

pub returns-in-None-clause-memory : goal.returns-in-None-clause-memory
returns-in-None-clause-memory c =
    if_err_more {P = λ fault. fault ≢ OutOfMemory → ReadingCallsFor c.args.dialect c.args.domain.now c.args.problem.now fault}
    {Q = λ fault. fault ≢ OutOfMemory → IsOfTexts fault} c.read_task.result
    (λ fault h other. read_of_texts c.args.dialect c.args.domain.now c.args.problem.now fault (h other)) c.read_task.ensures.cause

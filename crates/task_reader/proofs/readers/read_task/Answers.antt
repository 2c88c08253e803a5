use Rattle.std.proofs.Common.{◌∙◌, sym}
use Rattle.task_reader.proofs.Causes.{domain_called, excess_called, problem_called}
use Rattle.task_reader.proofs.Reading.{excessive, no_domain, no_problem, within}
use Rattle.task_reader.proofs.readers.read_task.Goals as goal

pub returns-in-Err-clause-refusal : goal.returns-in-Err-clause-refusal
returns-in-Err-clause-refusal c = λ other. no_domain c.args.dialect c.args.domain.now c.args.problem.now (c.in-Err.ensures.domain.1 other)

pub returns-in-Err-clause-cause : goal.returns-in-Err-clause-cause
returns-in-Err-clause-cause c = domain_called c.args.dialect c.args.domain.now c.args.problem.now c.in-Err.fault c.in-Err.ensures.domain.1 c.in-Err.ensures.fault

pub returns-in-Err-read_problem_in-clause-refusal : goal.returns-in-Err-read_problem_in-clause-refusal
returns-in-Err-read_problem_in-clause-refusal c =
    λ other. no_problem c.args.dialect c.args.domain.now c.args.problem.now c.in-Ok.read c.in-Ok.ensures.domain (c.in-Err-read_problem_in.ensures.task.1 other)

pub returns-in-Err-read_problem_in-clause-cause : goal.returns-in-Err-read_problem_in-clause-cause
returns-in-Err-read_problem_in-clause-cause c =
    problem_called c.args.dialect c.args.domain.now c.args.problem.now c.in-Ok.read c.in-Ok.ensures.domain c.in-Err-read_problem_in.fault
    c.in-Err-read_problem_in.ensures.task.1 c.in-Err-read_problem_in.ensures.fault

pub returns-in-Ok-None-clause-task : goal.returns-in-Ok-None-clause-task
returns-in-Ok-None-clause-task c =
    within c.args.dialect c.args.domain.now c.args.problem.now c.in-Ok.read c.in-Ok.ensures.domain c.in-Ok-read_problem_in.task c.in-Ok-read_problem_in.ensures.task
    (sym c.in-Ok-None.field-0-is ∙ c.in-Ok-None.ensures)

pub returns-in-Ok-Some-clause-refusal : goal.returns-in-Ok-Some-clause-refusal
returns-in-Ok-Some-clause-refusal c =
    λ other. excessive c.args.dialect c.args.domain.now c.args.problem.now c.in-Ok.read c.in-Ok.ensures.domain c.in-Ok-read_problem_in.task _ c.in-Ok-read_problem_in.ensures.task
    (sym c.in-Ok-Some.field-0-is ∙ c.in-Ok-Some.ensures)

pub returns-in-Ok-Some-clause-cause : goal.returns-in-Ok-Some-clause-cause
returns-in-Ok-Some-clause-cause c =
    excess_called c.args.dialect c.args.domain.now c.args.problem.now c.in-Ok.read c.in-Ok.ensures.domain c.in-Ok-read_problem_in.task _ c.excess_fault.result
    c.in-Ok-read_problem_in.ensures.task (sym c.in-Ok-Some.field-0-is ∙ c.in-Ok-Some.ensures) c.excess_fault.ensures

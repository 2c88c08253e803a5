use Rattle.std.proofs.Common.{◌∙◌, Some, ap, sym}
use Rattle.plan_judge_c.proofs.KeptAnswers.{kept_is, line_of_all, same_fault}
use Rattle.plan_judge_c.proofs.keeping.plan_judge_judge_kept.Goals as goal

pub returns-clause-made : goal.returns-clause-made
returns-clause-made c =
    λ is. let made = c.judge_plans-answer.ensures.made is in
    let task = c.in-Some-take.ensures.task ∙ ap Some (sym c.deref.ensures) in
    (made.0, kept_is c.args.task.now.task c.args.plans.now c.args.format c.deref.result.now c.in-Some.format task (sym c.in-Some.ensures) ∙ made.1, made.2)

pub returns-clause-refused : goal.returns-clause-refused
returns-clause-refused c =
    λ is. let refused = c.judge_plans-answer.ensures.refused is in
    let task = c.in-Some-take.ensures.task ∙ ap Some (sym c.deref.ensures) in (
      kept_is c.args.task.now.task c.args.plans.now c.args.format c.deref.result.now c.in-Some.format task (sym c.in-Some.ensures) ∙ refused.0,
      refused.1,
      refused.2,
      line_of_all c.args.plans.now refused.1 _ _ _ refused.3 refused.2 refused.4 refused.5,
    )

pub returns-in_default-clause-same_fault : goal.returns-in_default-clause-same_fault
returns-in_default-clause-same_fault c = λ texts fault of cause. same_fault texts c.args.task.now.task c.args.plans.now fault of cause

pub returns-clause-same_fault : goal.returns-clause-same_fault
returns-clause-same_fault c = λ texts fault of cause. same_fault texts c.args.task.now.task c.args.plans.now fault of cause

use Rattle.plan_judge_c.proofs.refusing.refuse_plans.Goals as goal

pub returns-clause-refused : goal.returns-clause-refused
returns-clause-refused c = λ is. (c.plans_alone-texts.result, c.plans_alone-texts.ensures, c.refuse.ensures.refused is)

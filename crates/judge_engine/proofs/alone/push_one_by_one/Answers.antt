use Rattle.std.proofs.Common.{◌≡◌, ◌++◌, [], IfOk, subst}
use Rattle.strips_task.specs.declared.costs.CostedTask.{CostedTask}
use Rattle.judge_engine.specs.Plans.{plans_of_cuts}
use Rattle.judge_engine.specs.ReportPosition.{rest_text, start_of}
use Rattle.judge_engine.proofs.alone.push_one_by_one.Goals as goal

pub returns-clause-text : goal.returns-clause-text
returns-clause-text c =
    subst (λ (task : CostedTask). IfOk c.push_each.result (λ last. c.push_each.new.text ++ rest_text c.args.format task c.args.bundles.now last []
    ≡ c.args.text.now ++ rest_text c.args.format task c.args.bundles.now (start_of 0) (plans_of_cuts c.args.bundles.now c.args.cuts.now)))
    c.in_ok-judge.ensures c.push_each.ensures.text

use Rattle.std.proofs.Common.{◌∷◌, length, map, ap, sym, ◌∙◌, subst, arith}
use Rattle.std.proofs.lemmas.List.{length_push}
use Rattle.intake_core.specs.Asked.{asked}
use Rattle.intake_core.specs.Replays.{replayed, replies_of}
use Rattle.intake_core.proofs.Runs.{RunsOn, runs-more, runs-end, on-ok, none-left}
use Rattle.intake_core.proofs.replaying.answer_all.Goals as goal

pub loop-step-preserved : goal.loop-step-preserved
loop-step-preserved c =
    let whole = replies_of (replayed c.args.desk (map asked c.args.left.now.items)) in
    let was = c.loop-step.invariant in
    let at = c.in-Some.ensures.items in
    let runs : RunsOn c.args.task.now whole c.loop-step.desk (c.in-Some.step ∷ c.pop_front.new.self.items) c.loop-step.replies =
    subst (λ left. RunsOn c.args.task.now whole c.loop-step.desk left c.loop-step.replies) at was.runs in
    let pushed = on-ok c.push.result (sym c.is_err.ensures.value ∙ c.if-is_err.false) c.push.ensures.ok in
    let more = ap length pushed ∙ length_push c.loop-step.replies c.in-Ok.reply in
    let less = ap length at in
    let count = was.count in record {
      runs = runs-more _ _ _ _ _ _ _ _ _ runs c.in-Ok.ensures.state c.in-Ok.ensures.reply pushed;
      count = omega arith;
    }

pub returns-clause-replies : goal.returns-clause-replies
returns-clause-replies c =
    let whole = replies_of (replayed c.args.desk (map asked c.args.left.now.items)) in
    let none = none-left _ _ c.in_default.ensures.items c.in_default.ensures.rest in
    runs-end c.args.task.now whole c.loop-step.desk c.loop-step.replies
    (subst (λ left. RunsOn c.args.task.now whole c.loop-step.desk left c.loop-step.replies) none c.loop-step.invariant.runs)

use Rattle.std.proofs.Common.{◌++◌, ap, sym, ◌∙◌, append_assoc, codes, take}
use Rattle.strips_task.specs.StepView.{step_shown}
use Rattle.report_text.specs.Pieces.{spaced}
use Rattle.report_text.proofs.Rendering.{spaced_more}
use Rattle.report_text.proofs.render.push_arguments.Goals as goal

pub loop-index-preserved : goal.loop-index-preserved
loop-index-preserved c =
    let args = (step_shown c.args.step.now).args in
    let front = spaced (take c.loop-index.index args) in
    c.in_ok-push-2.ensures
    ∙ ap (λ l. l ++ c.arg.result.now) (c.in_ok-push.ensures ∙ ap (λ l. l ++ codes " ") c.loop-index.invariant)
    ∙ ap (λ l. l ++ c.arg.result.now) (append_assoc c.args.text.now front (codes " "))
    ∙ append_assoc c.args.text.now (front ++ codes " ") c.arg.result.now
    ∙ ap (λ l. c.args.text.now ++ l) (sym (spaced_more args c.loop-index.index c.arg.result.now c.arg.ensures))

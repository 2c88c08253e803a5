use Rattle.std.proofs.Common.{◌++◌, ap, sym, ◌∙◌, codes, map, take}
use Rattle.strips_task.specs.StepView.{step_shown}
use Rattle.report_text.specs.Pieces.{after_commas, json_string}
use Rattle.report_text.proofs.Rendering.{commas_more, then}
use Rattle.report_text.proofs.json.push_arguments.Goals as goal

pub loop-index-preserved : goal.loop-index-preserved
loop-index-preserved c =
    let t = c.args.text.now in
    let args = (step_shown c.args.step.now).args in
    let before = after_commas (map json_string (take c.loop-index.index args)) in
    let behind = then t before (codes ",") c.loop-index.invariant c.in_ok-push.ensures in
    then t (before ++ codes ",") (json_string c.arg.result.now) behind c.in_ok-push_json_string.ensures
    ∙ ap (λ l. t ++ l) (sym (commas_more json_string args c.loop-index.index c.arg.result.now c.arg.ensures))

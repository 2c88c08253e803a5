use Rattle.std.proofs.Common.{◌≡◌, ap, ◌∙◌, sym}
use Rattle.strips_task.proofs.StepWords.{step_words}
use Rattle.strips_task.proofs.step_view.StepView.action.Goals as goal

pub returns : goal.returns
returns c =
    let parts = step_words c.args.self.now.words.now c.args.self.now.first c.args.self.now.end c.args.self.now.not_empty c.args.self.now.within in
    let same : c.get.result.now ≡ parts.0 = cc (c.get.ensures, parts.1) in
    same ∙ sym (ap (λ s. s.action) parts.2)

use Rattle.std.proofs.Common.{subst, sym}
use Rattle.plan_text.specs.Walks.{Walk}
use Rattle.text_judge.specs.Passes.{AreTogether}
use Rattle.text_judge.proofs.Judged.{together_still}
use Rattle.text_judge.proofs.pass.advance.Goals as goal

pub take_next-requires : goal.take_next-requires
take_next-requires c =
    let tried = rw c.in-Left.is at c.in_ok-take_spelled.ensures.tried in
    subst (λ (w : Walk). AreTogether w c.take_spelled.new.judge) (sym tried.0)
    (together_still c.args.walk.now c.args.judge.now c.take_spelled.new.judge c.requires tried.1)

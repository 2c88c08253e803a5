use Rattle.plan_text.proofs.Lemmas.{right_outside}
use Rattle.plan_text.proofs.between.read_between.Goals as goal

pub returns-in-Right : goal.returns-in-Right
returns-in-Right c = right_outside c.args.expected c.args.steps c.args.kind c.args.text.now c.in-Right.is c.requires

use Rattle.std.proofs.Common.{sym, ◌∙◌}
use Rattle.plan_text.proofs.WalkLemmas.{left_inside, right_inside, word_inside}
use Rattle.plan_text.proofs.walk.taken_inside.Goals as goal

pub returns-in-Left : goal.returns-in-Left
returns-in-Left c = left_inside c.args.some c.args.kind c.args.text.now c.in-Left.is

pub returns-else-some : goal.returns-else-some
returns-else-some c = right_inside c.args.some c.args.kind c.args.text.now c.in-Right.is c.if-some.false

pub returns-else-is_name : goal.returns-else-is_name
returns-else-is_name c = word_inside c.args.some c.args.kind c.args.text.now c.in-Word.is (sym c.is_name.ensures ∙ c.if-is_name.false)

use Rattle.plan_text.proofs.Lemmas.{read_by, none_open, word_refused}
use Rattle.plan_text.specs.declared.want.Want.TheVariants.{Step, Number}
use Rattle.plan_text.proofs.between.read_number.Goals as goal

pub returns-in-Step : goal.returns-in-Step
returns-in-Step c = λ plan counted ready. read_by Step _ _ _ _ _ c.in-Step.is (c.stamped.ensures plan counted (none_open _ Step plan c.in-Step.is ready))

pub returns-in-Number : goal.returns-in-Number
returns-in-Number c = λ plan counted ready. read_by Number _ _ _ _ _ c.in-Number.is (c.followed.ensures plan counted (none_open _ Number plan c.in-Number.is ready))

pub returns-in_default : goal.returns-in_default
returns-in_default c = λ plan counted ready. word_refused c.args.expected plan c.args.text.now c.requires c.in_default.not-Step c.in_default.not-Number

use Rattle.plan_text.proofs.Lemmas.{read_by, step_begins, none_open, opening_reads, left_refused}
use Rattle.plan_text.specs.declared.want.Want.TheVariants.{Step, Number}
use Rattle.plan_text.proofs.between.read_left.Goals as goal

pub returns-in-Step : goal.returns-in-Step
returns-in-Step c = λ plan counted ready.
    read_by Step _ _ _ _ _ c.in-Step.is (step_begins _ c.args.expected _ plan c.then.ensures (none_open _ Step plan c.in-Step.is ready) (c.begun.ensures plan counted))

pub returns-in-Number : goal.returns-in-Number
returns-in-Number c = λ plan counted ready.
    read_by Number _ _ _ _ _ c.in-Number.is (step_begins _ c.args.expected _ plan c.then-in-Number.ensures (none_open _ Number plan c.in-Number.is ready) (c.begun-in-Number.ensures plan counted))

pub returns-in-Opening : goal.returns-in-Opening
returns-in-Opening c = λ plan counted ready. opening_reads _ _ plan c.in-Opening.is c.then-in-Opening.ensures ready

pub returns-in_default : goal.returns-in_default
returns-in_default c = λ plan counted ready. left_refused c.args.expected plan c.in_default.not-Step c.in_default.not-Number c.in_default.not-Opening

use Rattle.strips_task.specs.Spelled.{step_spelled}
use Rattle.step_codes.specs.Codes.{code_shown}
use Rattle.step_codes.proofs.CodeLaws.{added_within}
use Rattle.text_judge.proofs.TakenLaws.{learned_at}
use Rattle.text_judge.proofs.steps.take_remembered.Goals as goal

pub take_by_code-requires : goal.take_by_code-requires
take_by_code-requires c =
    let found = c.in-Some.ensures in
    let learned = learned_at c.args._task.now c.args.state.now.atoms c.args.memo.now found.0
    (record { key = c.args.key.now; code = code_shown c.in-Some.known.code; amount = c.in-Some.known.amount }) c.requires found.1 in
    added_within c.args._task.now.task c.args.state.now.atoms (step_spelled c.args.key.now) (code_shown c.in-Some.known.code) learned.code

use Rattle.std.proofs.Common.{sym, ◌∙◌}
use Rattle.judge_engine.proofs.ReplayAnswers.{faulty_steps}
use Rattle.judge_engine.proofs.replay.replay_bytes_in.Goals as goal

pub returns-in-Err-replay_for-clause-refusal : goal.returns-in-Err-replay_for-clause-refusal
returns-in-Err-replay_for-clause-refusal c =
    faulty_steps c.args.dialect c.args.domain.now c.args.problem.now c.args.steps.now c.in-Ok.task c.in-Err-replay_for.fault
    (sym c.too_large.ensures.first ∙ c.in-None.is) c.in-Ok.ensures.task c.in-Err-replay_for.ensures.fault

use Rattle.std.proofs.Common.{[], refl, inl}
use Rattle.judge_bench.proofs.WorkDone.{nothing_done}
use Rattle.judge_bench.proofs.working.work_among.Goals as goal

pub returns-in-Err-clause-worked : goal.returns-in-Err-clause-worked
returns-in-Err-clause-worked g c = record { rounds = []; done = []; went = nothing_done c.args.bench.now.setting.slots c.args.seat.view; ends = inl (refl, refl) }

use Rattle.std.proofs.Common.{rules, ◌≡◌, ◌≤◌}
use Rattle.judge_bench.proofs.Rounds.{second_part, took_first}
use Rattle.judge_bench.proofs.worker.WorkerSeat.take.Goals as goal

pub returns-in-Some-clause-took : goal.returns-in-Some-clause-took
returns-in-Some-clause-took c =
    let begins : c.self.inside.next ≤ c.args.bench.now.setting.slots = search rules in
    let slots : c.slots.result ≡ c.args.bench.now.setting.slots = c.slots.ensures.0 in
    took_first c.args.bench.now.setting.slots c.self.inside.next c.in-Some.ticket _ _ begins (search rules)

pub returns-in-None-clause-took : goal.returns-in-None-clause-took
returns-in-None-clause-took c =
    let begins : c.self.inside.next ≤ c.args.bench.now.setting.slots = search rules in
    second_part c.args.bench.now.setting.slots c.self.inside.next c.args.self.now.view c.take_among.new.self.view _ c.take_among-in-None.result begins (search rules) c.take_among-in-None.ensures.took

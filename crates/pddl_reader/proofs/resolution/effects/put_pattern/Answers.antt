use Rattle.pddl_reader.proofs.EffectMeaning.{changed_added, changed_deleted}
use Rattle.pddl_reader.proofs.resolution.effects.put_pattern.Goals as goal

pub returns-in_ok-push : goal.returns-in_ok-push
returns-in_ok-push c = changed_added c.args.effects.now c.args.positive c.args.pattern c.push.new.self c.if-positive.true c.in_ok-push.ensures.ok

pub returns-in_ok-push-2 : goal.returns-in_ok-push-2
returns-in_ok-push-2 c = changed_deleted c.args.effects.now c.args.positive c.args.pattern c.push-else-positive.new.self c.if-positive.false c.in_ok-push-2.ensures.ok

use Rattle.std.proofs.Common.{length}
use Rattle.plan_text.proofs.WalkLemmas.{IsOnTheWay}
use Rattle.plan_text.proofs.walk.open_step.Given as goal

abbrev pub invariant-tokens : goal.invariant-tokens
invariant-tokens l = IsOnTheWay l.text l.fn.expected l.expected l.steps l.fn.cursor l.cursor

abbrev pub decreases-tokens : goal.decreases-tokens
decreases-tokens l = length l.cursor

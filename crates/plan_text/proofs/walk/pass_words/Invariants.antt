use Rattle.std.proofs.Common.{length}
use Rattle.plan_text.proofs.WalkLemmas.{IsInStep}
use Rattle.plan_text.proofs.walk.pass_words.Given as goal

abbrev pub invariant-words : goal.invariant-words
invariant-words l = IsInStep l.text l.some l.fn.cursor l.cursor

abbrev pub decreases-words : goal.decreases-words
decreases-words l = length l.cursor

use Rattle.std.proofs.Common.{◌≡◌, ◌++◌, ◌∷◌, take}
use Rattle.strips_task.proofs.steps.push_words.Given as goal

-- The action and the arguments so far stand behind the words that were there.
abbrev pub invariant-loop-name : goal.invariant-loop-name
invariant-loop-name l = l.words ≡ l.fn.words ++ l.step.action ∷ take l.name-index l.name-items

use Rattle.std.proofs.Common.{◌≡◌, map, take}
use Rattle.text_judge.proofs.history.changes_of.Given as goal

-- The changes of the watches so far.
abbrev pub invariant-loop-watch : goal.invariant-loop-watch
invariant-loop-watch l = l.changes.items ≡ map (λ watch. watch.last) (take l.watch-index l.watches)

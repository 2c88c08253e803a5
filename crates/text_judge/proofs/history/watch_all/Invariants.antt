use Rattle.std.proofs.Common.{[], take}
use Rattle.text_judge.specs.Watches.{AreWatched}
use Rattle.text_judge.proofs.history.watch_all.Given as goal

-- The atoms so far are watched.
abbrev pub invariant-loop-atom : goal.invariant-loop-atom
invariant-loop-atom l = AreWatched l.judge.task.task [] (take l.atom-index l.atoms) l.watches.items

use Rattle.std.proofs.Common.{◌≡◌, true, drop}
use Rattle.pddl_words.proofs.NameRows.{names_from}
use Rattle.pddl_words.proofs.are_names.Given as goal

-- the row is names if what is left of it goes on as names
abbrev pub invariant-loop-b : goal.invariant-loop-b
invariant-loop-b l = names_from l.begins (drop l.b-index l.row) ≡ names_from true l.row

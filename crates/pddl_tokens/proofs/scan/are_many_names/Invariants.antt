use Rattle.std.proofs.Common.{◌-◌, length}
use Rattle.pddl_tokens.proofs.NamePairs.{AllGoOn}
use Rattle.pddl_tokens.proofs.scan.are_many_names.Given as goal

-- all bytes up to here go on
abbrev pub invariant-vectors : goal.invariant-vectors
invariant-vectors l = AllGoOn l.list l.at

abbrev pub decreases-vectors : goal.decreases-vectors
decreases-vectors l = length l.list - l.at

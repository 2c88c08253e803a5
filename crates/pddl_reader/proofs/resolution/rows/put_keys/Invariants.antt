use Rattle.std.proofs.Common.{◌≡◌, ◌++◌, map, take}
use Rattle.strips_task.specs.AtomKeys.{atom_of}
use Rattle.pddl_reader.proofs.resolution.rows.put_keys.Given as goal

abbrev pub invariant-loop-key : goal.invariant-loop-key
invariant-loop-key l = l.list ≡ l.fn.list ++ map atom_of (take l.key-index l.keys)

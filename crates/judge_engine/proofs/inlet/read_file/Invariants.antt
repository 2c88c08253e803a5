use Rattle.std.proofs.Common.{◌≡◌, ◌≤◌, ◌+◌, ◌-◌, false, length}
use Rattle.std.specs.Io.KnownBytes.{Consumes}
use Rattle.judge_engine.specs.declared.inlet.TheConstants.{FILE_LIMIT}
use Rattle.judge_engine.proofs.inlet.read_file.Given as goal

-- The bytes so far came from the inlet, no more than may be were read, and no get has failed.
abbrev pub invariant-pieces : goal.invariant-pieces
invariant-pieces g l = record {
  within : length l.bytes.items ≤ FILE_LIMIT + 1;
  given : Consumes (g.I.Inlet.left l.fn.inlet) (g.I.Inlet.left l.inlet) l.bytes.items;
  sound : g.I.Inlet.failed l.inlet ≡ false;
}

abbrev pub decreases-pieces : goal.decreases-pieces
decreases-pieces g l = FILE_LIMIT + 1 - length l.bytes.items

use Rattle.std.proofs.Common.{◌≡◌, ◌≤◌, ◌-◌, false, length, take}
use Rattle.std.specs.Io.KnownBytes.{Appends}
use Rattle.judge_engine.proofs.outlet.write_bytes.Given as goal

-- The bytes so far went out, and no put has failed.
abbrev pub invariant-loop-written : goal.invariant-loop-written
invariant-loop-written g l = record {
  within : l.written ≤ length l.bytes;
  front : Appends (g.O.Outlet.taken l.fn.outlet) (g.O.Outlet.taken l.outlet) (take l.written l.bytes);
  sound : g.O.Outlet.failed l.outlet ≡ false;
}

abbrev pub decreases-loop-written : goal.decreases-loop-written
decreases-loop-written g l = length l.bytes - l.written

-- What a caller in C owns with a kept value.

use Rattle.std.specs.Prelude.{Option, Some, None}
use base.Fml.{Fml, ftrue, ffalse}
use denote.RattleType.{RattleType}
use denote.RawPtr.{Ptr, null_ptr, block_ptr}
use Rattle.std_alloc.specs.Box.Ownership.{box_owns}
use Rattle.std.specs.declared.alloc.Global.{Global}
use Rattle.std.specs.contracts.impls.GlobalAllocator.TheImpl.{ghosts}

-- the heap, whose handle has no content
abbrev pub heap : Global
heap = record { memory = record { seal = tt } }

-- at null nothing, and else the box with the value
abbrev pub kept_owns : (R : RattleType) → Ptr → Option R.Denot → Fml
kept_owns R null_ptr None = ftrue
kept_owns R null_ptr (Some x) = ffalse
kept_owns R (block_ptr b o) None = ffalse
kept_owns R (block_ptr b o) (Some x) = box_owns (ghosts.dealloc_token heap) R (block_ptr b o) x

use Rattle.std.proofs.Common.{◌≡◌, ◌+◌, ℕ, List, length}
use Rattle.std.specs.Prelude.{IfSome}
use Rattle.std.specs.Vec.Iter.{into_iter_items, into_iter_len}
use Rattle.judge_bench.specs.Keeping.{with_all_joined}
use Rattle.judge_bench.specs.Seats.{SitsAt}
use Rattle.judge_bench.specs.Workers.{AllWorkAt}
use Rattle.judge_bench.proofs.crew.join_all.Given as goal

-- So far the workers before those that are left were joined.
abbrev pub invariant-loop-child : goal.invariant-loop-child
invariant-loop-child g l = record {
  can_next : (goal.iterator-loop-child g).can_next l.child-iterator;
  is_finite : (goal.iterator-loop-child g).is_finite l.child-iterator;
  sits : SitsAt l.shared.bench.now l.owner;
  crew : AllWorkAt l.shared.bench.now l.shared.gate.now (into_iter_items l.child-iterator);
  left : into_iter_len l.child-iterator ≡ length (into_iter_items l.child-iterator);
  view : (count : ℕ) × (more : List ℕ) × (count + into_iter_len l.child-iterator ≡ length l.fn.crew.items) × (l.owner.view ≡ with_all_joined l.initial.owner.view count more);
  held : IfSome l.held (g.G.Gate.may_hold l.shared.gate.now);
}

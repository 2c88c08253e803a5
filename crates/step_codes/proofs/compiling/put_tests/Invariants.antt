use Rattle.std.proofs.Common.{◌≡◌, ◌≤◌, List, length, take}
use Rattle.step_codes.specs.declared.programs.Instruction.{Instruction}
use Rattle.step_codes.specs.Compiling.{FindsMore, FoundIn}
use Rattle.strips_judge.specs.NumberedState.{Grows, state_of}
use Rattle.step_codes.proofs.CompiledEffects.{where_all_hold}
use Rattle.step_codes.proofs.compiling.put_tests.Given as goal

abbrev pub invariant-loop-conjunct : goal.invariant-loop-conjunct
invariant-loop-conjunct l = record {
  state : state_of l.state ≡ state_of l.fn.state;
  grows : Grows l.fn.state l.state;
  bound : l.room.bound ≡ l.fn.room.bound;
  start : l.start ≤ length l.program.items;
  tested : (before : List Instruction) (found : FoundIn) → length before ≡ l.start → FindsMore l.arguments.task.now l.fn.state.atoms before l.fn.program.items found
      → FindsMore l.arguments.task.now l.state.atoms before l.program.items (where_all_hold l.arguments.task.now l.arguments.objects.now l.fn.room.bound.items (take l.conjunct-index l.conjunct-items) found);
}

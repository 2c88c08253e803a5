use Rattle.std.proofs.Common.{◌≢◌}
use Rattle.strips_task.specs.KnownAtoms.{key_in, IsKnown, table}
use Rattle.strips_task.proofs.KnownAtoms.{up_to}
use Rattle.strips_task.proofs.known_atoms.put_all.Goals as goal
use Rattle.strips_task.proofs.known_atoms.put_all.Goals.{then-slot-ne0+in_ok-put, else-slot-ne0}

pub returns-in_err-put-clause-right : goal.returns-in_err-put-clause-right
returns-in_err-put-clause-right c = λ number_of others before.
    c.in_err-put.ensures.right number_of (others c.loop-slot.slot-index _ c.loop-slot-test.true) (c.loop-slot.invariant.right number_of others before)

pub loop-slot-preserved : goal.loop-slot-preserved
loop-slot-preserved c =
    let at = c.loop-slot.invariant in
    elim c.if-slot-ne0.branch [
      | then-slot-ne0+in_ok-put w ↦ rw w.slots-is (
          record {
            placed = up_to (λ slot. slot.next ≢ 0 → IsKnown (table c.args.objects_by c.args.head_by w.put.new.slots.items) (key_in slot)) c.args.others.now c.loop-slot.slot-index
                c.loop-slot-test.true
                (λ k d lt full. w.in_ok-put.ensures.kept _ (at.placed k d lt full)) (λ full. w.in_ok-put.ensures.placed);
            right = λ number_of others before. w.in_ok-put.ensures.right number_of (others c.loop-slot.slot-index _ c.loop-slot-test.true) (at.right number_of others before);
          })
      | else-slot-ne0 w ↦ rw w.slots-is (
          record {
            placed = up_to (λ slot. slot.next ≢ 0 → IsKnown (table c.args.objects_by c.args.head_by c.loop-slot.slots.items) (key_in slot)) c.args.others.now c.loop-slot.slot-index
                c.loop-slot-test.true at.placed (λ full. absurd (full w.if-slot-ne0.false));
            right = at.right;
          })
    ]

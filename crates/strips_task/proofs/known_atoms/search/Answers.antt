use Rattle.std.proofs.Common.{◌≡◌, ◌≢◌, ap, sym, ◌∙◌, arith, below_more, true≢false}
use Rattle.strips_task.specs.declared.known_atoms.Slot.{Slot}
use Rattle.strips_task.specs.KnownAtoms.{key_in, Known, searched, table}
use Rattle.strips_task.proofs.KnownAtoms.{IsPassed, absent_at_free, place_next, slot_there}
use Rattle.strips_task.proofs.known_atoms.search.Goals as goal

pub returns-then-slot-eq0 : goal.returns-then-slot-eq0
returns-then-slot-eq0 c =
    let known : Known = table c.args.objects_by c.args.head_by c.args.slots.now in
    let at = c.loop-step.invariant in
    let free : (searched known c.args.key c.loop-step.step).next ≡ 0 =
    ap (λ (slot : Slot). slot.next) (sym (slot_there known c.args.key c.loop-step.step c.loop-step.index at.there)) ∙ c.if-slot-eq0.true
    in
    record {
      free = record {
        steps = c.loop-step.step;
        few = c.loop-step-test.true;
        at_index = at.there;
        free = free;
        taken = λ before lt. (at.passed before lt).taken;
      };
      absent = absent_at_free known c.args.key c.loop-step.step at.passed free;
    }

pub returns-then-is_same : goal.returns-then-is_same
returns-then-is_same c =
    let known : Known = table c.args.objects_by c.args.head_by c.args.slots.now in
    let at = c.loop-step.invariant in
    let there = slot_there known c.args.key c.loop-step.step c.loop-step.index at.there in
    let next = ap (λ (slot : Slot). slot.next) there in
    let full : (searched known c.args.key c.loop-step.step).next ≢ 0 = λ none. c.if-slot-eq0.false (next ∙ none) in
    record {
      found = record {
        steps = c.loop-step.step;
        few = c.loop-step-test.true;
        here = ap (λ (slot : Slot). key_in slot) (sym there) ∙ sym c.key.ensures ∙ c.is_same.ensures.0 c.if-is_same.true;
        full = full;
        taken = λ before lt. (at.passed before lt).taken;
      };
      number_there = omega (arith, next, full);
    }

pub loop-step-preserved : goal.loop-step-preserved
loop-step-preserved c =
    let known : Known = table c.args.objects_by c.args.head_by c.args.slots.now in
    let at = c.loop-step.invariant in
    let there = slot_there known c.args.key c.loop-step.step c.loop-step.index at.there in
    let passed : IsPassed known c.args.key c.loop-step.step =
    record {
      taken = λ none. c.if-slot-eq0.false (ap (λ (slot : Slot). slot.next) there ∙ none);
      other = λ is. true≢false (sym (c.is_same.ensures.1 (c.key.ensures ∙ ap (λ (slot : Slot). key_in slot) there ∙ is)) ∙ c.if-is_same.false);
    } in
    record {
      there = c.slot_after-index.ensures.after ∙ place_next known c.args.key c.loop-step.step c.loop-step.index at.there;
      within = c.slot_after-index.ensures.within;
      passed = below_more _ _ at.passed passed;
    }

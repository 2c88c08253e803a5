use Rattle.std.proofs.Common.{◌≡◌, length, ap, sym, ◌∙◌, subst, arith, eqb-true}
use Rattle.strips_task.specs.declared.known_atoms.Slot.{Slot}
use Rattle.strips_task.specs.KnownAtoms.{IsKnown, Known, first_slot, hash_of, table}
use Rattle.strips_task.proofs.KnownAtoms.{absent_at_free, place_first, slot_there}
use Rattle.strips_task.proofs.known_atoms.KnownAtoms.begins_free.Goals as goal

pub returns : goal.returns
returns c = λ free found.
    let known : Known = table c.self.inside.objects_by c.self.inside.head_by c.as_slice-slots.result.now in
    let same : c.args.self.now ≡ known = sym (ap (table c.self.inside.objects_by c.self.inside.head_by) c.as_slice-slots.ensures.value ∙ c.self.view_is) in
    let index : c.first_slot.result ≡ first_slot (hash_of known.objects_by known.head_by c.args.key) (length known.slots) =
    c.first_slot.ensures.index ∙ ap (λ hash. first_slot hash (length known.slots)) c.hash_of.ensures
    in
    let at = place_first known c.args.key c.first_slot.result index c.first_slot.ensures.within in
    let first = slot_there known c.args.key 0 c.first_slot.result at in
    absent_at_free known c.args.key 0 (λ before lt. absurd (omega (arith, lt))) (ap (λ (slot : Slot). slot.next) (sym first) ∙ eqb-true _ _ free)
    (subst (λ (k : Known). IsKnown k c.args.key) same found)

use Rattle.std.proofs.Common.{◌≡◌, ◌≢◌, ◌≤◌, ◌<◌, List, All, vec_len, get_or, ap, refl, sym, ◌∙◌, subst, arith}
use Rattle.strips_task.specs.declared.known_atoms.Slot.{Slot}
use Rattle.strips_task.specs.KnownAtoms.{key_in, HasRight, IsKnown, Known, table}
use Rattle.strips_task.proofs.KnownAtoms.{known_there}
use Rattle.strips_task.proofs.known_atoms.KnownAtoms.grow.Goals as goal

pub returns-clause-right : goal.returns-clause-right
returns-clause-right c = λ number_of right.
    let same : c.args.self.now.slots ≡ c.as_slice.result.now = sym (c.as_slice.ensures.value ∙ ap (λ (k : Known). k.slots) c.self.view_is) in
    let free : All (HasRight number_of) c.resize.new.self.items =
    λ k d lt full.
    let none : vec_len c.new-slots.result ≤ k = omega (arith, c.new-slots.ensures.len) in
    let within : k < c.args.count = omega (arith, c.in_ok-resize.ensures.len) in
    let is : get_or c.resize.new.self.items k d ≡ c.free.result = c.in_ok-resize.ensures.by_index.1 k d refl none within in
    absurd (full (ap (λ (s : Slot). s.next) is ∙ c.free.ensures)) in
    c.in_ok-put_all.ensures.right number_of (subst (λ (l : List Slot). All (HasRight number_of) l) same right) free

pub returns-clause-still : goal.returns-clause-still
returns-clause-still c =
    let same : c.as_slice.result.now ≡ c.args.self.now.slots = c.as_slice.ensures.value ∙ ap (λ (k : Known). k.slots) c.self.view_is in
    let other : Known = table c.self.inside.objects_by c.self.inside.head_by c.put_all.new.slots.items in
    known_there c.args.self.now other (subst (λ (l : List Slot). All (λ slot. slot.next ≢ 0 → IsKnown other (key_in slot)) l) same c.in_ok-put_all.ensures.placed)

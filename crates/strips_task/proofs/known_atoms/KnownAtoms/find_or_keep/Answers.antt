use Rattle.std.proofs.Common.{◌≡◌, ◌+◌, ℕ, List, All, Option, ap, refl, sym, ◌∙◌, subst, arith}
use Rattle.std.proofs.lemmas.List.Elements.{All-set}
use Rattle.strips_task.specs.declared.atom_keys.AtomKey.{AtomKey}
use Rattle.strips_task.specs.declared.known_atoms.Slot.{Slot}
use Rattle.strips_task.specs.KnownAtoms.{AreRight, HasRight, IsFreeFor, IsKnown, IsKnownAs, Known, table}
use Rattle.strips_task.proofs.KnownAtoms.{number_found, put_known, right_slot, still_known}
use Rattle.strips_task.proofs.known_atoms.KnownAtoms.find_or_keep.Goals as goal
use Rattle.strips_task.proofs.known_atoms.KnownAtoms.find_or_keep.Goals.{After-search, In-Free, then-self-len+in_ok-expect, else-self-len}

-- once there is room, the numbers are right as before
room_right : (c : After-search) (number_of : AtomKey → Option ℕ) → AreRight number_of c.args.self.now → AreRight number_of c.if-self-len.self
room_right c number_of right =
    elim c.if-self-len.branch [
      | then-self-len+in_ok-expect w ↦ subst (AreRight number_of) (sym w.self-is) (w.in_ok-expect.ensures.right number_of right)
      | else-self-len w ↦ subst (AreRight number_of) (sym w.self-is) right
    ]

-- and what was known is known
room_still : (c : After-search) (other : AtomKey) → IsKnown c.args.self.now other → IsKnown c.if-self-len.self other
room_still c other found =
    elim c.if-self-len.branch [
      | then-self-len+in_ok-expect w ↦ subst (λ (k : Known). IsKnown k other) (sym w.self-is) (w.in_ok-expect.ensures.still other found)
      | else-self-len w ↦ subst (λ (k : Known). IsKnown k other) (sym w.self-is) found
    ]

-- the slot of the atom
abbrev slot_of : In-Free → Slot
slot_of c = record { objects = c.args.key.objects; head = c.args.key.head; next = c.args.number + 1 }

-- the search comes to this free slot
free_there : (c : In-Free) → IsFreeFor (table c.self-2.inside.objects_by c.self-2.inside.head_by c.self-2.inside.slots.items) c.args.key c.in-Free.index
free_there c =
    subst (λ (l : List Slot). IsFreeFor (table c.self-2.inside.objects_by c.self-2.inside.head_by l) c.args.key c.in-Free.index) c.as_slice.ensures.value c.in-Free.ensures.free

pub returns-in-Has-clause-found : goal.returns-in-Has-clause-found
returns-in-Has-clause-found c = λ number_of right.
    let seen : table c.self-2.inside.objects_by c.self-2.inside.head_by c.as_slice.result.now ≡ c.if-self-len.self =
    ap (table c.self-2.inside.objects_by c.self-2.inside.head_by) c.as_slice.ensures.value ∙ c.self-2.view_is in
    number_found number_of c.if-self-len.self c.args.key c.in-Has.number (subst (λ (k : Known). IsKnownAs k c.args.key c.in-Has.number) seen c.in-Has.ensures)
    (room_right (goal.at.returns-in-Has-clause-found c).After-search number_of right)

pub returns-in-Has-clause-right : goal.returns-in-Has-clause-right
returns-in-Has-clause-right c = λ number_of is right. room_right (goal.at.returns-in-Has-clause-right c).After-search number_of right

pub returns-in-Free-clause-right : goal.returns-in-Free-clause-right
returns-in-Free-clause-right c = λ number_of is right.
    let f = (goal.at.returns-in-Free-clause-right c).In-Free in
    let room : All (HasRight number_of) c.self-2.inside.slots.items =
    subst (AreRight number_of) (sym c.self-2.view_is) (room_right (goal.at.returns-in-Free-clause-right c).After-search number_of right) in
    All-set (HasRight number_of) c.self-2.inside.slots.items c.in-Free.index (slot_of f) (right_slot number_of c.args.key c.args.number (is refl)) room

pub returns-in-Free-clause-known : goal.returns-in-Free-clause-known
returns-in-Free-clause-known c =
    let f = (goal.at.returns-in-Free-clause-known c).In-Free in
    put_known c.self-2.inside.objects_by c.self-2.inside.head_by c.self-2.inside.slots.items c.in-Free.index (slot_of f) c.args.key (free_there f) refl
    (λ none. absurd (omega (arith, none)))

pub returns-in-Free-clause-still : goal.returns-in-Free-clause-still
returns-in-Free-clause-still c = λ other found.
    let f = (goal.at.returns-in-Free-clause-still c).In-Free in
    let room : IsKnown c.if-self-len.self other = room_still (goal.at.returns-in-Free-clause-still c).After-search other found in
    still_known c.self-2.inside.objects_by c.self-2.inside.head_by c.self-2.inside.slots.items c.in-Free.index (slot_of f) c.args.key (free_there f) other
    (subst (λ (k : Known). IsKnown k other) (sym c.self-2.view_is) room)

pub returns-in-Nowhere-clause-failed : goal.returns-in-Nowhere-clause-failed
returns-in-Nowhere-clause-failed c = room_right (goal.at.returns-in-Nowhere-clause-failed c).After-search

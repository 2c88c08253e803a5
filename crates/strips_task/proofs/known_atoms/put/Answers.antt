use Rattle.std.proofs.Common.{List, refl, subst}
use Rattle.strips_task.specs.declared.atom_keys.AtomKey.{AtomKey}
use Rattle.strips_task.specs.declared.known_atoms.Slot.{Slot}
use Rattle.strips_task.specs.KnownAtoms.{key_in, IsFreeFor, table}
use Rattle.strips_task.proofs.KnownAtoms.{put_known, still_known}
use Rattle.strips_task.proofs.known_atoms.put.Goals as goal
use Rattle.strips_task.proofs.known_atoms.put.Goals.{In-Free}

-- the search for the key of the atom comes to this free slot
free_there : (c : In-Free) → IsFreeFor (table c.args.objects_by c.args.head_by c.args.slots.now.items) (key_in c.args.slot) c.in-Free.index
free_there c =
    subst (λ (l : List Slot). IsFreeFor (table c.args.objects_by c.args.head_by l) (key_in c.args.slot) c.in-Free.index) c.as_slice.ensures.value
    (subst (λ (k : AtomKey). IsFreeFor (table c.args.objects_by c.args.head_by c.as_slice.result.now) k c.in-Free.index) c.key.ensures c.in-Free.ensures.free)

pub returns-clause-placed : goal.returns-clause-placed
returns-clause-placed c =
    put_known c.args.objects_by c.args.head_by c.args.slots.now.items c.in-Free.index c.args.slot (key_in c.args.slot)
    (free_there (goal.at.returns-clause-placed c).In-Free) refl c.requires

pub returns-clause-kept : goal.returns-clause-kept
returns-clause-kept c =
    still_known c.args.objects_by c.args.head_by c.args.slots.now.items c.in-Free.index c.args.slot (key_in c.args.slot)
    (free_there (goal.at.returns-clause-kept c).In-Free)

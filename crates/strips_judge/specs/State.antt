-- States of the world and what changes them (PDDL 2.1, Fox and Long 2003, section 6).

use Rattle.std.specs.Prelude.{ℕ, Bool, not, ◌&&◌, ◌||◌, List, [], filter, length}
use Rattle.std.specs.List.{list_any, range_with_len}
use Rattle.formulas.specs.declared.atoms.Atom.{Atom}
use Rattle.formulas.specs.Tree.{Tree}
use Rattle.formulas.specs.Meaning as meaning
use Rattle.strips_task.specs.declared.tasks.TaskParts.{TaskParts}
use Rattle.strips_judge.specs.Fitting.{object_fits}
use Rattle.formulas.specs.Atom.{atom_eq}

-- a state is a set of ground atoms: of each atom it says whether it is true
abbrev pub State : Type 0
State = Atom → Bool

-- whether the atom is one of these
abbrev pub is_in : List Atom → State
is_in atoms atom = list_any (atom_eq atom) atoms

-- the state minus these atoms
abbrev pub without : State → List Atom → State
without state atoms = λ atom. state atom && not (is_in atoms atom)

-- the state union these atoms
abbrev pub with_all : State → List Atom → State
with_all state atoms = λ atom. state atom || is_in atoms atom

-- the state after these deletes and adds: (state minus deletes) union adds, so an atom that is in both is true afterwards
abbrev pub after_effects : State → List Atom → List Atom → State
after_effects state deletes adds = with_all (without state deletes) adds

-- the objects that a variable of these types may stand for, in the order of their numbers, each once: those whose type is one of these or below one
abbrev pub objects_of : TaskParts → List ℕ → List ℕ
objects_of parts types = filter (λ object. object_fits parts types object) (range_with_len 0 (length parts.objects))

-- whether a formula holds in a state, with these objects for the parameters of the action
abbrev pub holds : TaskParts → State → List ℕ → Tree → Bool
holds parts state arguments tree = meaning.holds (objects_of parts) state arguments tree []

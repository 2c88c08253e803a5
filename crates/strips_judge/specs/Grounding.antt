-- Grounding: parameters replaced by objects (PDDL 2.1, Fox and Long 2003, section 6). Two parameters may stand for one object.

use Rattle.std.specs.Prelude.{ℕ, List, []}
use Rattle.formulas.specs.declared.atoms.Atom.{Atom}
use Rattle.formulas.specs.declared.terms.Pattern.{Pattern}
use Rattle.formulas.specs.Meaning.{atom_of}

-- the ground atom that a pattern stands for
abbrev pub ground : List ℕ → Pattern → Atom
ground objects pattern = atom_of objects [] pattern

-- Ground atoms: when two are the same.

use Rattle.std.specs.Prelude.{Bool, nat_eq}
use Rattle.std.specs.Cmp.Lexicographic.{pointwise}
use Rattle.std.specs.Ordering.{on, eq_of_both}
use Rattle.formulas.specs.declared.atoms.Atom.{Atom}

-- the same predicate and the same objects
abbrev pub atom_eq : Atom → Atom → Bool
atom_eq = eq_of_both (on (λ a. a.pred) nat_eq) (on (λ a. a.args) (pointwise nat_eq))

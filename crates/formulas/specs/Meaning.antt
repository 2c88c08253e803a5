-- The meaning of formulas: whether one holds in a state (PDDL 2.1, Fox and Long 2003, section 6).

use Rattle.std.specs.Prelude.{ℕ, Bool, true, false, not, ◌&&◌, ◌||◌, nat_eq, List, map, slice_index, if◌then◌else◌}
use Rattle.std.specs.List.{list_all, list_any}
use Rattle.formulas.specs.declared.atoms.Atom.{Atom}
use Rattle.formulas.specs.declared.terms.Term.{Term}
use Rattle.formulas.specs.declared.terms.Term.TheVariants.{Param, Bound, Object}
use Rattle.formulas.specs.declared.terms.Pattern.{Pattern}
use Rattle.formulas.specs.Tree.{Tree, atom, equality, negation, conjunction, disjunction, implication, exists, for_all, Parts, no_parts, part}
use Rattle.formulas.specs.Variables.{variable_types, extensions}

-- the object that a term stands for: one of the action's arguments, one that is bound, or the object itself
abbrev pub object_of : List ℕ → List ℕ → Term → ℕ
object_of arguments bound (Param index) = slice_index arguments index
object_of arguments bound (Bound level) = slice_index bound level
object_of arguments bound (Object object) = object

-- the atom that a pattern stands for
abbrev pub atom_of : List ℕ → List ℕ → Pattern → Atom
atom_of arguments bound pattern = record { pred = pattern.pred; args = map (object_of arguments bound) pattern.terms }

-- a positive literal holds if what it is about is true, and a negative one if that is false
abbrev pub signed : Bool → Bool → Bool
signed positive truth = if positive then truth else not truth

-- `objects_of types` are the objects that have one of these types, each once, and a state says of each atom whether it is true
module _ (objects_of : List ℕ → List ℕ) (state : Atom → Bool) (arguments : List ℕ) where
  abbrev mutual
    -- whether a formula holds in the state, with these arguments for the parameters of the action and these objects for the variables bound around it.
    -- `exists` holds if its body does for some choice of objects for its variables, and `forall` if the body does for every choice
    pub holds : Tree → List ℕ → Bool
    holds (atom positive pattern) bound = signed positive (state (atom_of arguments bound pattern))
    holds (equality positive left right) bound = signed positive (nat_eq (object_of arguments bound left) (object_of arguments bound right))
    holds (negation tree) bound = not (holds tree bound)
    holds (conjunction parts) bound = all_hold parts bound
    holds (disjunction parts) bound = some_holds parts bound
    holds (implication premise conclusion) bound = not (holds premise bound) || holds conclusion bound
    holds (exists groups body) bound = list_any (λ extended. holds body extended) (extensions objects_of (variable_types groups) bound)
    holds (for_all groups body) bound = list_all (λ extended. holds body extended) (extensions objects_of (variable_types groups) bound)

    -- whether all of these hold
    pub all_hold : Parts → List ℕ → Bool
    all_hold no_parts bound = true
    all_hold (part tree parts) bound = holds tree bound && all_hold parts bound

    -- whether one of these holds
    pub some_holds : Parts → List ℕ → Bool
    some_holds no_parts bound = false
    some_holds (part tree parts) bound = holds tree bound || some_holds parts bound

-- Formulas with objects for parameters and for the outermost variables (PDDL 2.1, Fox and Long 2003, section 6). `objects` are for the parameters, by their
-- index, and `bound` for the variables, by their level.

use Rattle.std.specs.Prelude.{ℕ, ◌-◌, List, map, length, slice_index, nat_lt, if◌then◌else◌}
use Rattle.formulas.specs.declared.terms.Term.{Term}
use Rattle.formulas.specs.declared.terms.Term.TheVariants.{Param, Bound, Object}
use Rattle.formulas.specs.declared.terms.Pattern.{Pattern}
use Rattle.formulas.specs.Tree.{Tree, atom, equality, negation, conjunction, disjunction, implication, exists, for_all, Parts, no_parts, part}

-- a parameter or a variable becomes its object, if it has one. Other parameters stay, and other variables are counted without those that become objects
abbrev pub term_with : List ℕ → List ℕ → Term → Term
term_with objects bound (Param index) = if nat_lt index (length objects) then Object (slice_index objects index) else Param index
term_with objects bound (Bound level) = if nat_lt level (length bound) then Object (slice_index bound level) else Bound (level - length bound)
term_with objects bound (Object object) = Object object

-- the pattern with each of its terms replaced
abbrev pub pattern_with : List ℕ → List ℕ → Pattern → Pattern
pattern_with objects bound pattern = record { pred = pattern.pred; terms = map (term_with objects bound) pattern.terms }

module _ (objects bound : List ℕ) where
  abbrev mutual
    -- the formula with each of its terms replaced. The names of variables stay, so no object can be taken for a variable
    pub with_objects : Tree → Tree
    with_objects (atom positive pattern) = atom positive (pattern_with objects bound pattern)
    with_objects (equality positive left right) = equality positive (term_with objects bound left) (term_with objects bound right)
    with_objects (negation tree) = negation (with_objects tree)
    with_objects (conjunction parts) = conjunction (all_with_objects parts)
    with_objects (disjunction parts) = disjunction (all_with_objects parts)
    with_objects (implication premise conclusion) = implication (with_objects premise) (with_objects conclusion)
    with_objects (exists groups body) = exists groups (with_objects body)
    with_objects (for_all groups body) = for_all groups (with_objects body)

    pub all_with_objects : Parts → Parts
    all_with_objects no_parts = no_parts
    all_with_objects (part tree parts) = part (with_objects tree) (all_with_objects parts)

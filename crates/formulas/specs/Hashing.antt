-- What a formula feeds a hasher: all that it is made of. An atom begins with its sign, as 0 or 1, and any other formula with the number of its operator, from
-- 2 on. A list of formulas ends with a number that none of them begins with, so what is fed shows where a list ends.

use Rattle.std.specs.Prelude.{ℕ, ◌+◌, ◌*◌, [], ◌∷◌, ◌++◌}
use Rattle.std.specs.Hash as fed
use Rattle.std.specs.Hash.{HashWrites}
use Rattle.formulas.specs.declared.terms.Term.{Term}
use Rattle.formulas.specs.declared.terms.Term.TheVariants.{Param, Bound, Object}
use Rattle.formulas.specs.declared.terms.Pattern.{Pattern}
use Rattle.formulas.specs.declared.variables.VariableGroup.{VariableGroup}
use Rattle.formulas.specs.Tree.{Tree, atom, equality, negation, conjunction, disjunction, implication, exists, for_all, Parts, no_parts, part}

-- a number for each term
abbrev pub term_number : Term → ℕ
term_number (Param index) = 3 * index
term_number (Bound level) = 3 * level + 1
term_number (Object object) = 3 * object + 2

-- what a term feeds
abbrev pub term_fed : Term → HashWrites
term_fed term = fed.u32 (term_number term)

-- what a pattern feeds: its predicate, how many terms it has, and each of them
abbrev pub pattern_fed : Pattern → HashWrites
pattern_fed pattern = fed.u16 pattern.pred ++ fed.slice term_fed pattern.terms

-- what a group of variables feeds: its names and its types
abbrev pub group_fed : VariableGroup → HashWrites
group_fed group = fed.slice (λ name. name ∷ []) group.names ++ fed.slice fed.u16 group.types

-- what a formula and what a list of formulas feeds
abbrev mutual
  pub tree_fed : Tree → HashWrites
  tree_fed (atom positive pattern) = fed.bool positive ++ pattern_fed pattern
  tree_fed (equality positive left right) = fed.u8 2 ++ (fed.bool positive ++ (term_fed left ++ term_fed right))
  tree_fed (negation tree) = fed.u8 3 ++ tree_fed tree
  tree_fed (conjunction parts) = fed.u8 4 ++ parts_fed parts
  tree_fed (disjunction parts) = fed.u8 5 ++ parts_fed parts
  tree_fed (implication premise conclusion) = fed.u8 6 ++ (tree_fed premise ++ tree_fed conclusion)
  tree_fed (exists groups body) = fed.u8 7 ++ (fed.slice group_fed groups ++ tree_fed body)
  tree_fed (for_all groups body) = fed.u8 8 ++ (fed.slice group_fed groups ++ tree_fed body)

  pub parts_fed : Parts → HashWrites
  parts_fed no_parts = fed.u8 9
  parts_fed (part tree parts) = tree_fed tree ++ parts_fed parts

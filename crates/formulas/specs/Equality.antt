-- Two formulas are the same if they are made of the same parts in the same order. The names of bound variables count, and so do the groups that they are
-- in, because both are printed. `(= a b)` and `(= b a)` are two formulas, and so are any others that only mean the same (this validator's choice).

use Rattle.std.specs.Prelude.{Bool, true, false, ◌&&◌, nat_eq}
use Rattle.std.specs.Bool.{beq}
use Rattle.std.specs.Cmp.Lexicographic.{pointwise}
use Rattle.formulas.specs.declared.terms.Term.{Term}
use Rattle.formulas.specs.declared.terms.Term.TheVariants.{Param, Bound, Object}
use Rattle.formulas.specs.declared.terms.Pattern.{Pattern}
use Rattle.formulas.specs.declared.variables.VariableGroup.{VariableGroup}
use Rattle.formulas.specs.Tree.{Tree, atom, equality, negation, conjunction, disjunction, implication, exists, for_all, Parts, no_parts, part}

-- the same kind of term with the same number
abbrev pub term_eq : Term → Term → Bool
term_eq (Param index) (Param other) = nat_eq index other
term_eq (Bound level) (Bound other) = nat_eq level other
term_eq (Object object) (Object other) = nat_eq object other
term_eq term other = false

-- the same predicate and the same terms
abbrev pub pattern_eq : Pattern → Pattern → Bool
pattern_eq pattern other = nat_eq pattern.pred other.pred && pointwise term_eq pattern.terms other.terms

-- the same names and the same types, both in the same order
abbrev pub group_eq : VariableGroup → VariableGroup → Bool
group_eq group other = pointwise (pointwise nat_eq) group.names other.names && pointwise nat_eq group.types other.types

-- the same operator, with the same sign or the same variables, and the same parts
abbrev mutual
  pub tree_eq : Tree → Tree → Bool
  tree_eq (atom positive pattern) (atom sign other) = beq positive sign && pattern_eq pattern other
  tree_eq (equality positive left right) (equality sign other_left other_right) = beq positive sign && (term_eq left other_left && term_eq right other_right)
  tree_eq (negation tree) (negation other) = tree_eq tree other
  tree_eq (conjunction parts) (conjunction others) = parts_eq parts others
  tree_eq (disjunction parts) (disjunction others) = parts_eq parts others
  tree_eq (implication premise conclusion) (implication other_premise other_conclusion) = tree_eq premise other_premise && tree_eq conclusion other_conclusion
  tree_eq (exists groups body) (exists others other) = pointwise group_eq groups others && tree_eq body other
  tree_eq (for_all groups body) (for_all others other) = pointwise group_eq groups others && tree_eq body other
  tree_eq tree other = false

  pub parts_eq : Parts → Parts → Bool
  parts_eq no_parts no_parts = true
  parts_eq (part tree parts) (part other others) = tree_eq tree other && parts_eq parts others
  parts_eq parts others = false

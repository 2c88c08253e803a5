-- Each type that contracts see needs a code. That of a formula is the list of its signs in Polish notation, which has each operator before its parts.

use Rattle.std.specs.Prelude.{◌≡◌, ℕ, zero, suc, Bool, List, [], ◌∷◌, ◌⊎◌, refl}
use Rattle.std.proofs.Common.{ap, ◌∙◌, inl, inr}
use Rattle.std.specs.Coded.{Coded, code_by, coded×, coded⊎, coded_list, coded_ℕ, coded_bool}
use Rattle.formulas.specs.declared.terms.Term.{Term}
use Rattle.formulas.specs.declared.terms.Term.TheVariants.{Param, Bound, Object}
use Rattle.formulas.specs.declared.terms.Pattern.{Pattern}
use Rattle.formulas.specs.declared.variables.VariableGroup.{VariableGroup}
use Rattle.formulas.specs.Tree.{Tree, atom, equality, negation, conjunction, disjunction, implication, exists, for_all, Parts, no_parts, part}

-- a term as two numbers: its kind, and the number that it has
abbrev pub term_to : Term → ℕ × ℕ
term_to (Param index) = (0, index)
term_to (Bound level) = (1, level)
term_to (Object object) = (2, object)

-- the term of these two numbers
abbrev pub term_by : ℕ → ℕ → Term
term_by zero number = Param number
term_by (suc zero) number = Bound number
term_by (suc (suc kind)) number = Object number

-- no term is lost
pub term_back : (term : Term) → term_by (term_to term).0 (term_to term).1 ≡ term
term_back (Param index) = refl
term_back (Bound level) = refl
term_back (Object object) = refl

-- the code of a term
abbrev pub term_code : Coded Term
term_code = code_by (ℕ × ℕ) (coded× coded_ℕ coded_ℕ) term_to (λ p. term_by p.0 p.1) term_back

-- the code of a pattern: its predicate and its terms
abbrev pub pattern_code : Coded Pattern
pattern_code =
    code_by (ℕ × List Term) (coded× coded_ℕ (coded_list term_code)) (λ pattern. (pattern.pred, pattern.terms)) (λ p. record { pred = p.0; terms = p.1 }) (λ _. refl)

-- the code of a group of variables: their names and their types
abbrev pub group_code : Coded VariableGroup
group_code =
    code_by (List (List ℕ) × List ℕ) (coded× (coded_list (coded_list coded_ℕ)) (coded_list coded_ℕ)) (λ group. (group.names, group.types)) (λ p. record { names = p.0; types = p.1 }) (λ _. refl)

-- a literal: its sign with its pattern, or with its two terms
abbrev pub Literal : Type 0
Literal = (Bool × Pattern) ⊎ (Bool × (Term × Term))

-- a literal, or the number of an operator with the variables that it binds
abbrev pub Sign : Type 0
Sign = Literal ⊎ (ℕ × List VariableGroup)

-- the code of a sign
abbrev pub sign_code : Coded Sign
sign_code = coded⊎ (coded⊎ (coded× coded_bool pattern_code) (coded× coded_bool (coded× term_code term_code))) (coded× coded_ℕ (coded_list group_code))

-- the signs of a formula, and then the others
abbrev mutual
  pub signs : Tree → List Sign → List Sign
  signs (atom positive pattern) others = inl (inl (positive, pattern)) ∷ others
  signs (equality positive left right) others = inl (inr (positive, (left, right))) ∷ others
  signs (negation tree) others = inr (0, []) ∷ signs tree others
  signs (conjunction parts) others = inr (1, []) ∷ part_signs parts others
  signs (disjunction parts) others = inr (2, []) ∷ part_signs parts others
  signs (implication premise conclusion) others = inr (3, []) ∷ signs premise (signs conclusion others)
  signs (exists groups body) others = inr (4, groups) ∷ signs body others
  signs (for_all groups body) others = inr (5, groups) ∷ signs body others

  pub part_signs : Parts → List Sign → List Sign
  part_signs no_parts others = inr (6, []) ∷ others
  part_signs (part tree parts) others = inr (7, []) ∷ signs tree (part_signs parts others)

-- what a list of signs stands for, read from its end: the formulas, and the lists of formulas, that no operator has taken as its parts yet
abbrev pub Open : Type 0
Open = List Tree × List Parts

-- the formula that was read last, or any other if there is none
abbrev pub first_tree : List Tree → Tree
first_tree [] = conjunction no_parts
first_tree (tree ∷ trees) = tree

-- the formulas without the one that was read last
abbrev pub later_trees : List Tree → List Tree
later_trees [] = []
later_trees (tree ∷ trees) = trees

-- the list that was read last, or the empty one if there is none
abbrev pub first_parts : List Parts → Parts
first_parts [] = no_parts
first_parts (parts ∷ lists) = parts

-- the lists without the one that was read last
abbrev pub later_parts : List Parts → List Parts
later_parts [] = []
later_parts (parts ∷ lists) = lists

-- what is left when the operator with this number has taken its parts: 0 to 5 make a formula, 6 an empty list, and any other number a longer list
abbrev pub applied : ℕ → List VariableGroup → Open → Open
applied zero groups left = (negation (first_tree left.0) ∷ later_trees left.0, left.1)
applied (suc zero) groups left = (conjunction (first_parts left.1) ∷ left.0, later_parts left.1)
applied (suc (suc zero)) groups left = (disjunction (first_parts left.1) ∷ left.0, later_parts left.1)
applied (suc (suc (suc zero))) groups left =
    (implication (first_tree left.0) (first_tree (later_trees left.0)) ∷ later_trees (later_trees left.0), left.1)
applied (suc (suc (suc (suc zero)))) groups left = (exists groups (first_tree left.0) ∷ later_trees left.0, left.1)
applied (suc (suc (suc (suc (suc zero))))) groups left = (for_all groups (first_tree left.0) ∷ later_trees left.0, left.1)
applied (suc (suc (suc (suc (suc (suc zero)))))) groups left = (left.0, no_parts ∷ left.1)
applied (suc (suc (suc (suc (suc (suc (suc number))))))) groups left =
    (later_trees left.0, part (first_tree left.0) (first_parts left.1) ∷ later_parts left.1)

-- the formula that is a literal
abbrev pub literal_of : Literal → Tree
literal_of (inl p) = atom p.0 p.1
literal_of (inr p) = equality p.0 p.1.0 p.1.1

-- what is left when one more sign was read
abbrev pub with_sign : Sign → Open → Open
with_sign (inl literal) left = (literal_of literal ∷ left.0, left.1)
with_sign (inr p) left = applied p.0 p.1 left

-- what a list of signs stands for
abbrev pub read : List Sign → Open
read [] = ([], [])
read (sign ∷ others) = with_sign sign (read others)

-- one more formula
abbrev pub with_tree : Tree → Open → Open
with_tree tree left = (tree ∷ left.0, left.1)

-- one more list
abbrev pub with_parts : Parts → Open → Open
with_parts parts left = (left.0, parts ∷ left.1)

-- reading the signs of a formula gives the formula
mutual
  pub read_signs : (tree : Tree) (others : List Sign) → read (signs tree others) ≡ with_tree tree (read others)
  read_signs (atom positive pattern) others = refl
  read_signs (equality positive left right) others = refl
  read_signs (negation tree) others = ap (applied 0 []) (read_signs tree others)
  read_signs (conjunction parts) others = ap (applied 1 []) (read_part_signs parts others)
  read_signs (disjunction parts) others = ap (applied 2 []) (read_part_signs parts others)
  read_signs (implication premise conclusion) others =
      ap (applied 3 []) (read_signs premise (signs conclusion others) ∙ ap (with_tree premise) (read_signs conclusion others))
  read_signs (exists groups body) others = ap (applied 4 groups) (read_signs body others)
  read_signs (for_all groups body) others = ap (applied 5 groups) (read_signs body others)

  pub read_part_signs : (parts : Parts) (others : List Sign) → read (part_signs parts others) ≡ with_parts parts (read others)
  read_part_signs no_parts others = refl
  read_part_signs (part tree parts) others =
      ap (applied 7 []) (read_signs tree (part_signs parts others) ∙ ap (with_tree tree) (read_part_signs parts others))

-- the code of a formula
abbrev pub tree_code : Coded Tree
tree_code = code_by (List Sign) (coded_list sign_code) (λ tree. signs tree []) (λ list. first_tree (read list).0) (λ tree. ap (λ left. first_tree left.0) (read_signs tree []))

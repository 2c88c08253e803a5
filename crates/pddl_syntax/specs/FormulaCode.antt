-- Each type that contracts see needs a code. That of a formula is the list of its signs in Polish notation, which has each operator before its parts.

use Rattle.std.specs.Prelude.{◌≡◌, ℕ, zero, suc, Bool, List, [], ◌∷◌, ◌⊎◌, refl}
use Rattle.std.proofs.Common.{ap, ◌∙◌, inl, inr}
use Rattle.std.specs.Coded.{Coded, code_by, coded×, coded⊎, coded_list, coded_ℕ, coded_bool}
use Rattle.pddl_syntax.specs.Syntax.{AtomForm, EqualityForm, VariableGroup, FormulaForm, atom_formula, equality_formula, negation, conjunction, disjunction, implication, exists, for_all, FormulaForms, no_formulas, formula_then}

-- a word, or several
abbrev pub words_code : Coded (List (List ℕ))
words_code = coded_list (coded_list coded_ℕ)

-- the code of an atom: its predicate and its terms
abbrev pub atom_code : Coded AtomForm
atom_code =
    code_by (List ℕ × List (List ℕ)) (coded× (coded_list coded_ℕ) words_code) (λ atom. (atom.predicate, atom.terms)) (λ p. record { predicate = p.0; terms = p.1 }) (λ _. refl)

-- the code of an equality: its two sides
abbrev pub equality_code : Coded EqualityForm
equality_code =
    code_by (List ℕ × List ℕ) (coded× (coded_list coded_ℕ) (coded_list coded_ℕ)) (λ equality. (equality.left, equality.right)) (λ p. record { left = p.0; right = p.1 }) (λ _. refl)

-- the code of a group of variables: their names and their types
abbrev pub group_code : Coded VariableGroup
group_code =
    code_by (List (List ℕ) × List (List ℕ)) (coded× words_code words_code) (λ group. (group.variables, group.types)) (λ p. record { variables = p.0; types = p.1 }) (λ _. refl)

-- a literal: its sign with its atom, or with its equality
abbrev pub Literal : Type 0
Literal = (Bool × AtomForm) ⊎ (Bool × EqualityForm)

-- a literal, or the number of an operator with the variables that it binds
abbrev pub Sign : Type 0
Sign = Literal ⊎ (ℕ × List VariableGroup)

-- the code of a sign
abbrev pub sign_code : Coded Sign
sign_code = coded⊎ (coded⊎ (coded× coded_bool atom_code) (coded× coded_bool equality_code)) (coded× coded_ℕ (coded_list group_code))

-- the signs of a formula, and then the others
abbrev mutual
  pub signs : FormulaForm → List Sign → List Sign
  signs (atom_formula positive atom) others = inl (inl (positive, atom)) ∷ others
  signs (equality_formula positive equality) others = inl (inr (positive, equality)) ∷ others
  signs (negation formula) others = inr (0, []) ∷ signs formula others
  signs (conjunction formulas) others = inr (1, []) ∷ list_signs formulas others
  signs (disjunction formulas) others = inr (2, []) ∷ list_signs formulas others
  signs (implication premise conclusion) others = inr (3, []) ∷ signs premise (signs conclusion others)
  signs (exists groups body) others = inr (4, groups) ∷ signs body others
  signs (for_all groups body) others = inr (5, groups) ∷ signs body others

  pub list_signs : FormulaForms → List Sign → List Sign
  list_signs no_formulas others = inr (6, []) ∷ others
  list_signs (formula_then formula formulas) others = inr (7, []) ∷ signs formula (list_signs formulas others)

-- what a list of signs stands for, read from its end: the formulas, and the lists of formulas, that no operator has taken as its parts yet
abbrev pub Open : Type 0
Open = List FormulaForm × List FormulaForms

-- the formula that was read last, or any other if there is none
abbrev pub first_formula : List FormulaForm → FormulaForm
first_formula [] = conjunction no_formulas
first_formula (formula ∷ formulas) = formula

-- the formulas without the one that was read last
abbrev pub later_formulas : List FormulaForm → List FormulaForm
later_formulas [] = []
later_formulas (formula ∷ formulas) = formulas

-- the list that was read last, or the empty one if there is none
abbrev pub first_list : List FormulaForms → FormulaForms
first_list [] = no_formulas
first_list (first ∷ lists) = first

-- the lists without the one that was read last
abbrev pub later_lists : List FormulaForms → List FormulaForms
later_lists [] = []
later_lists (first ∷ lists) = lists

-- what is left when the operator with this number has taken its parts: 0 to 5 make a formula, 6 an empty list, and any other number a longer list
abbrev pub applied : ℕ → List VariableGroup → Open → Open
applied zero groups left = (negation (first_formula left.0) ∷ later_formulas left.0, left.1)
applied (suc zero) groups left = (conjunction (first_list left.1) ∷ left.0, later_lists left.1)
applied (suc (suc zero)) groups left = (disjunction (first_list left.1) ∷ left.0, later_lists left.1)
applied (suc (suc (suc zero))) groups left =
    (implication (first_formula left.0) (first_formula (later_formulas left.0)) ∷ later_formulas (later_formulas left.0), left.1)
applied (suc (suc (suc (suc zero)))) groups left = (exists groups (first_formula left.0) ∷ later_formulas left.0, left.1)
applied (suc (suc (suc (suc (suc zero))))) groups left = (for_all groups (first_formula left.0) ∷ later_formulas left.0, left.1)
applied (suc (suc (suc (suc (suc (suc zero)))))) groups left = (left.0, no_formulas ∷ left.1)
applied (suc (suc (suc (suc (suc (suc (suc number))))))) groups left =
    (later_formulas left.0, formula_then (first_formula left.0) (first_list left.1) ∷ later_lists left.1)

-- the formula that is a literal
abbrev pub literal_of : Literal → FormulaForm
literal_of (inl p) = atom_formula p.0 p.1
literal_of (inr p) = equality_formula p.0 p.1

-- what is left when one more sign was read
abbrev pub with_sign : Sign → Open → Open
with_sign (inl literal) left = (literal_of literal ∷ left.0, left.1)
with_sign (inr p) left = applied p.0 p.1 left

-- what a list of signs stands for
abbrev pub read : List Sign → Open
read [] = ([], [])
read (sign ∷ others) = with_sign sign (read others)

-- one more formula
abbrev pub with_formula : FormulaForm → Open → Open
with_formula formula left = (formula ∷ left.0, left.1)

-- one more list
abbrev pub with_list : FormulaForms → Open → Open
with_list formulas left = (left.0, formulas ∷ left.1)

-- reading the signs of a formula gives the formula
mutual
  pub read_signs : (formula : FormulaForm) (others : List Sign) → read (signs formula others) ≡ with_formula formula (read others)
  read_signs (atom_formula positive atom) others = refl
  read_signs (equality_formula positive equality) others = refl
  read_signs (negation formula) others = ap (applied 0 []) (read_signs formula others)
  read_signs (conjunction formulas) others = ap (applied 1 []) (read_list_signs formulas others)
  read_signs (disjunction formulas) others = ap (applied 2 []) (read_list_signs formulas others)
  read_signs (implication premise conclusion) others =
      ap (applied 3 []) (read_signs premise (signs conclusion others) ∙ ap (with_formula premise) (read_signs conclusion others))
  read_signs (exists groups body) others = ap (applied 4 groups) (read_signs body others)
  read_signs (for_all groups body) others = ap (applied 5 groups) (read_signs body others)

  pub read_list_signs : (formulas : FormulaForms) (others : List Sign) → read (list_signs formulas others) ≡ with_list formulas (read others)
  read_list_signs no_formulas others = refl
  read_list_signs (formula_then formula formulas) others =
      ap (applied 7 []) (read_signs formula (list_signs formulas others) ∙ ap (with_formula formula) (read_list_signs formulas others))

-- the code of a formula
abbrev pub formula_code : Coded FormulaForm
formula_code =
    code_by (List Sign) (coded_list sign_code) (λ formula. signs formula []) (λ list. first_formula (read list).0) (λ formula. ap (λ left. first_formula left.0) (read_signs formula []))

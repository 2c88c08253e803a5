-- The formulas that preconditions, goals and the conditions of effects stand for.

use Rattle.std.specs.Prelude.{ℕ, Bool, List, [], ◌∷◌, ◌++◌, Option, Some, None}
use Rattle.std.specs.Option.{option_map}
use Rattle.formulas.specs.declared.terms.Term.{Term}
use Rattle.formulas.specs.Tree.{Tree, parts_of}
use Rattle.formulas.specs.Tree as tree
use Rattle.formulas.specs.declared.variables.VariableGroup as kept
use Rattle.pddl_syntax.specs.Optional.{followed_by, through}
use Rattle.pddl_syntax.specs.Syntax.{VariableGroup, FormulaForm, atom_formula, equality_formula, negation, conjunction, disjunction, implication, exists, for_all, FormulaForms, no_formulas, formula_then}
use Rattle.pddl_reader.specs.Declarations.{Known, pattern_of, term_named}
use Rattle.pddl_reader.specs.Scopes.{Scope, bound_by, quantified}
use Rattle.pddl_reader.specs.declared.resolution.conditions.Junction.{Junction}
use Rattle.pddl_reader.specs.declared.resolution.conditions.Junction.TheVariants.{And, Or}
use Rattle.pddl_reader.specs.declared.resolution.conditions.Quantifier.{Quantifier}
use Rattle.pddl_reader.specs.declared.resolution.conditions.Quantifier.TheVariants.{Exists, ForAll}

-- the formula that two terms, of any types, stand for the same object, or for different ones, if both are known
unfoldable pub equality_by : Bool → Option Term → Option Term → Option Tree
equality_by positive None right = None
equality_by positive (Some left) None = None
equality_by positive (Some left) (Some right) = Some (tree.equality positive left right)

-- an implication, if its premise and its conclusion stand for formulas
unfoldable pub implication_by : Option Tree → Option Tree → Option Tree
implication_by None conclusion = None
implication_by (Some premise) conclusion = option_map (tree.implication premise) conclusion

module _ (types : List (List ℕ)) (known : Known) where
  unfoldable mutual
    -- the formula that syntax stands for in a scope
    pub tree_meant : Scope → FormulaForm → Option Tree
    tree_meant scope (atom_formula positive atom) = option_map (tree.atom positive) (pattern_of known scope atom)
    tree_meant scope (equality_formula positive sides) = equality_by positive (term_named known scope sides.left) (term_named known scope sides.right)
    tree_meant scope (negation formula) = option_map tree.negation (tree_meant scope formula)
    tree_meant scope (conjunction formulas) = option_map (λ trees. tree.conjunction (parts_of trees)) (trees_meant scope formulas)
    tree_meant scope (disjunction formulas) = option_map (λ trees. tree.disjunction (parts_of trees)) (trees_meant scope formulas)
    tree_meant scope (implication premise conclusion) = implication_by (tree_meant scope premise) (tree_meant scope conclusion)
    tree_meant scope (exists groups body) =
        option_map (λ binding. tree.exists binding.0 binding.1) (quantified scope (bound_by types groups) (λ inner. tree_meant inner body))
    tree_meant scope (for_all groups body) =
        option_map (λ binding. tree.for_all binding.0 binding.1) (quantified scope (bound_by types groups) (λ inner. tree_meant inner body))

    -- the formulas that several stand for
    pub trees_meant : Scope → FormulaForms → Option (List Tree)
    trees_meant scope no_formulas = Some []
    trees_meant scope (formula_then formula formulas) = followed_by (tree_meant scope formula) (trees_meant scope formulas)

-- formulas under `and` or `or`, as written
abbrev pub joined_form : Junction → FormulaForms → FormulaForm
joined_form And formulas = conjunction formulas
joined_form Or formulas = disjunction formulas

-- formulas under `and` or `or`
abbrev pub joined : Junction → List Tree → Tree
joined And trees = tree.conjunction (parts_of trees)
joined Or trees = tree.disjunction (parts_of trees)

-- a formula under a quantifier, as written
abbrev pub quantified_form : Quantifier → List VariableGroup → FormulaForm → FormulaForm
quantified_form Exists groups body = exists groups body
quantified_form ForAll groups body = for_all groups body

-- a formula under a quantifier
abbrev pub quantification : Quantifier → List kept.VariableGroup → Tree → Tree
quantification Exists groups body = tree.exists groups body
quantification ForAll groups body = tree.for_all groups body

-- the conjuncts of a formula, through any depth of `and` in `and`
unfoldable mutual
  pub conjuncts : FormulaForm → List FormulaForm
  conjuncts (conjunction formulas) = all_conjuncts formulas
  conjuncts formula = formula ∷ []

  -- the conjuncts of several formulas
  pub all_conjuncts : FormulaForms → List FormulaForm
  all_conjuncts no_formulas = []
  all_conjuncts (formula_then formula formulas) = conjuncts formula ++ all_conjuncts formulas

-- the conditions with one more, if it stands for a formula
unfoldable pub with_condition : List (List ℕ) → Known → Scope → List Tree → FormulaForm → Option (List Tree)
with_condition types known scope conditions formula = option_map (λ condition. conditions ++ condition ∷ []) (tree_meant types known scope formula)

-- the conditions that a precondition or a goal stands for: one for each conjunct, in text order
unfoldable pub conditions_of : List (List ℕ) → Known → Scope → FormulaForm → Option (List Tree)
conditions_of types known scope formula = through (with_condition types known scope) [] (conjuncts formula)

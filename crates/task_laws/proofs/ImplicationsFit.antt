-- A task with every `imply` written as an `or` is well formed.

use Rattle.std.proofs.Common.{◌≡◌, ℕ, true, ◌&&◌, List, [], ◌++◌, refl, ◌∙◌}
use Rattle.formulas.specs.declared.terms.Term.{Term}
use Rattle.formulas.specs.EffectTree.{EffectTree, change, joint, conditional, universal, EffectParts, no_effects, effect_part}
use Rattle.formulas.specs.Tree.{Tree, atom, equality, negation, conjunction, disjunction, implication, exists, for_all, Parts, no_parts, part}
use Rattle.formulas.specs.Variables.{variable_types}
use Rattle.strips_task.specs.declared.tasks.TaskParts.{TaskParts}
use Rattle.strips_task.specs.WellFormed.{are_variables, is_pattern, is_known, is_formula, are_formulas, is_effect, are_effects}
use Rattle.strips_task.proofs.AtomEquality.{both_hold}
use Rattle.task_laws.specs.Implications.{without_imply, all_without_imply, effect_without_imply, effects_without_imply, task_without_imply}
use Rattle.task_laws.specs.Laws.{WithoutImplyIsWellFormed}
use Rattle.task_laws.proofs.WellFormed.{KeepFit, same_terms, stays_well_formed}

module _ (parts : TaskParts) (params : List (List ℕ)) where
  abbrev replaced : TaskParts
  replaced = task_without_imply parts

  same : (bound : List (List ℕ)) (term : Term) → is_known replaced params bound term ≡ is_known parts params bound term
  same = same_terms parts without_imply effect_without_imply params

  mutual
    unfolding is_formula is_pattern

    formula_fits : (tree : Tree) (bound : List (List ℕ)) → is_formula parts params bound tree ≡ true → is_formula replaced params bound (without_imply tree) ≡ true
    formula_fits (atom positive pattern) bound fits = fits
    formula_fits (equality positive left right) bound fits = (λ j. same bound left j && same bound right j) ∙ fits
    formula_fits (negation tree) bound fits = formula_fits tree bound fits
    formula_fits (conjunction trees) bound fits = formulas_fit trees bound fits
    formula_fits (disjunction trees) bound fits = formulas_fit trees bound fits
    formula_fits (implication premise conclusion) bound fits =
        let both = both_hold (is_formula parts params bound premise) (is_formula parts params bound conclusion) fits in
        λ j. formula_fits premise bound both.0 j && (formula_fits conclusion bound both.1 j && true)
    formula_fits (exists groups body) bound fits =
        let both = both_hold (are_variables parts.parents (variable_types groups)) (is_formula parts params (bound ++ variable_types groups) body) fits in
        λ j. both.0 j && formula_fits body (bound ++ variable_types groups) both.1 j
    formula_fits (for_all groups body) bound fits =
        let both = both_hold (are_variables parts.parents (variable_types groups)) (is_formula parts params (bound ++ variable_types groups) body) fits in
        λ j. both.0 j && formula_fits body (bound ++ variable_types groups) both.1 j

    formulas_fit : (trees : Parts) (bound : List (List ℕ)) → are_formulas parts params bound trees ≡ true → are_formulas replaced params bound (all_without_imply trees) ≡ true
    formulas_fit no_parts bound fits = refl
    formulas_fit (part tree trees) bound fits =
        let both = both_hold (is_formula parts params bound tree) (are_formulas parts params bound trees) fits in
        λ j. formula_fits tree bound both.0 j && formulas_fit trees bound both.1 j

  mutual
    unfolding is_effect is_pattern

    effect_fits : (effect : EffectTree) (bound : List (List ℕ)) → is_effect parts params bound effect ≡ true → is_effect replaced params bound (effect_without_imply effect) ≡ true
    effect_fits (change positive pattern) bound fits = fits
    effect_fits (joint effects) bound fits = effects_fit effects bound fits
    effect_fits (conditional condition effect) bound fits =
        let both = both_hold (is_formula parts params bound condition) (is_effect parts params bound effect) fits in
        λ j. formula_fits condition bound both.0 j && effect_fits effect bound both.1 j
    effect_fits (universal groups effect) bound fits =
        let both = both_hold (are_variables parts.parents (variable_types groups)) (is_effect parts params (bound ++ variable_types groups) effect) fits in
        λ j. both.0 j && effect_fits effect (bound ++ variable_types groups) both.1 j

    effects_fit : (effects : EffectParts) (bound : List (List ℕ)) → are_effects parts params bound effects ≡ true → are_effects replaced params bound (effects_without_imply effects) ≡ true
    effects_fit no_effects bound fits = refl
    effects_fit (effect_part effect effects) bound fits =
        let both = both_hold (is_effect parts params bound effect) (are_effects parts params bound effects) fits in
        λ j. effect_fits effect bound both.0 j && effects_fit effects bound both.1 j

pub without_imply_is_well_formed : (parts : TaskParts) → WithoutImplyIsWellFormed parts
without_imply_is_well_formed parts task = stays_well_formed parts without_imply effect_without_imply kept task
  where
    kept : KeepFit parts without_imply effect_without_imply
    kept = record { formulas_fit = λ params tree fits. formula_fits parts params tree [] fits; effects_fit = λ params effect fits. effect_fits parts params effect [] fits }

-- A task with its quantifiers written out is well formed.

use Rattle.std.proofs.Common.{◌≡◌, ℕ, true, ◌&&◌, List, [], ◌∷◌, ◌++◌, map, refl, ◌∙◌}
use Rattle.std.specs.List.{list_all}
use Rattle.formulas.specs.declared.terms.Term.{Term}
use Rattle.formulas.specs.EffectTree.{EffectTree, change, joint, conditional, universal, EffectParts, no_effects, effect_part, effect_parts_of}
use Rattle.formulas.specs.Grounding.{term_with}
use Rattle.formulas.specs.Tree.{Tree, atom, equality, negation, conjunction, disjunction, implication, exists, for_all, Parts, no_parts, part, parts_of}
use Rattle.formulas.specs.Variables.{variable_types}
use Rattle.strips_task.specs.declared.tasks.TaskParts.{TaskParts}
use Rattle.strips_task.specs.WellFormed.{IsWellFormed, are_variables, is_pattern, is_known, is_formula, are_formulas, is_effect, are_effects}
use Rattle.strips_task.proofs.AtomEquality.{both_hold}
use Rattle.strips_judge.specs.State.{objects_of}
use Rattle.task_laws.specs.Laws.{WrittenOutIsWellFormed}
use Rattle.task_laws.specs.WrittenOut.{written_out, all_written_out, effect_written_out, effects_written_out, formula_written_out, task_written_out}
use Rattle.task_laws.proofs.TypedObjects.{are_typed, typed_choices}
use Rattle.task_laws.proofs.TypedTerms.{pattern_fits, side_fits}
use Rattle.task_laws.proofs.WellFormed.{KeepFit, same_terms, stays_well_formed}
use Rattle.task_laws.proofs.WrittenOut.{choices}

module _ (parts : TaskParts) (task : IsWellFormed parts) (params : List (List ℕ)) where
  abbrev replaced : TaskParts
  replaced = task_written_out parts

  same : (term : Term) → is_known replaced params [] term ≡ is_known parts params [] term
  same = same_terms parts (formula_written_out parts) (λ effect. effect_written_out (objects_of parts) effect []) params []

  bodies_fit : (variables : List (List ℕ)) (f : List ℕ → Tree) → ((objects : List ℕ) → are_typed parts variables objects ≡ true → is_formula replaced params [] (f objects) ≡ true)
      → (all : List (List ℕ)) → list_all (are_typed parts variables) all ≡ true → are_formulas replaced params [] (parts_of (map f all)) ≡ true
  unfolding is_formula
  bodies_fit variables f fit [] typed = refl
  bodies_fit variables f fit (objects ∷ all) typed =
      let both = both_hold (are_typed parts variables objects) (list_all (are_typed parts variables) all) typed in
      λ j. fit objects both.0 j && bodies_fit variables f fit all both.1 j

  mutual
    unfolding is_formula is_pattern

    formula_fits : (tree : Tree) (bound : List (List ℕ)) (objects : List ℕ) → are_typed parts bound objects ≡ true → is_formula parts params bound tree ≡ true
        → is_formula replaced params [] (written_out (objects_of parts) tree objects) ≡ true
    formula_fits (atom positive pattern) bound objects typed fits = pattern_fits parts task params bound objects typed pattern fits
    formula_fits (equality positive left right) bound objects typed fits =
        let both = both_hold (is_known parts params bound left) (is_known parts params bound right) fits in
        (λ j. same (term_with [] objects left) j && same (term_with [] objects right) j)
        ∙ (λ j. side_fits parts task params bound objects typed left both.0 j && side_fits parts task params bound objects typed right both.1 j)
    formula_fits (negation tree) bound objects typed fits = formula_fits tree bound objects typed fits
    formula_fits (conjunction trees) bound objects typed fits = formulas_fit trees bound objects typed fits
    formula_fits (disjunction trees) bound objects typed fits = formulas_fit trees bound objects typed fits
    formula_fits (implication premise conclusion) bound objects typed fits =
        let both = both_hold (is_formula parts params bound premise) (is_formula parts params bound conclusion) fits in
        λ j. formula_fits premise bound objects typed both.0 j && formula_fits conclusion bound objects typed both.1 j
    formula_fits (exists groups body) bound objects typed fits =
        let both = both_hold (are_variables parts.parents (variable_types groups)) (is_formula parts params (bound ++ variable_types groups) body) fits in
        bodies_fit (bound ++ variable_types groups) (λ extended. written_out (objects_of parts) body extended)
        (λ extended all. formula_fits body (bound ++ variable_types groups) extended all both.1) (choices (objects_of parts) groups objects)
        (typed_choices parts (variable_types groups) bound objects typed)
    formula_fits (for_all groups body) bound objects typed fits =
        let both = both_hold (are_variables parts.parents (variable_types groups)) (is_formula parts params (bound ++ variable_types groups) body) fits in
        bodies_fit (bound ++ variable_types groups) (λ extended. written_out (objects_of parts) body extended)
        (λ extended all. formula_fits body (bound ++ variable_types groups) extended all both.1) (choices (objects_of parts) groups objects)
        (typed_choices parts (variable_types groups) bound objects typed)

    formulas_fit : (trees : Parts) (bound : List (List ℕ)) (objects : List ℕ) → are_typed parts bound objects ≡ true → are_formulas parts params bound trees ≡ true
        → are_formulas replaced params [] (all_written_out (objects_of parts) trees objects) ≡ true
    formulas_fit no_parts bound objects typed fits = refl
    formulas_fit (part tree trees) bound objects typed fits =
        let both = both_hold (is_formula parts params bound tree) (are_formulas parts params bound trees) fits in
        λ j. formula_fits tree bound objects typed both.0 j && formulas_fit trees bound objects typed both.1 j

  bodies_of_effects_fit : (variables : List (List ℕ)) (f : List ℕ → EffectTree)
      → ((objects : List ℕ) → are_typed parts variables objects ≡ true → is_effect replaced params [] (f objects) ≡ true)
      → (all : List (List ℕ)) → list_all (are_typed parts variables) all ≡ true → are_effects replaced params [] (effect_parts_of (map f all)) ≡ true
  unfolding is_effect
  bodies_of_effects_fit variables f fit [] typed = refl
  bodies_of_effects_fit variables f fit (objects ∷ all) typed =
      let both = both_hold (are_typed parts variables objects) (list_all (are_typed parts variables) all) typed in
      λ j. fit objects both.0 j && bodies_of_effects_fit variables f fit all both.1 j

  mutual
    unfolding is_effect is_pattern

    effect_fits : (effect : EffectTree) (bound : List (List ℕ)) (objects : List ℕ) → are_typed parts bound objects ≡ true → is_effect parts params bound effect ≡ true
        → is_effect replaced params [] (effect_written_out (objects_of parts) effect objects) ≡ true
    effect_fits (change positive pattern) bound objects typed fits = pattern_fits parts task params bound objects typed pattern fits
    effect_fits (joint effects) bound objects typed fits = effects_fit effects bound objects typed fits
    effect_fits (conditional condition effect) bound objects typed fits =
        let both = both_hold (is_formula parts params bound condition) (is_effect parts params bound effect) fits in
        λ j. formula_fits condition bound objects typed both.0 j && effect_fits effect bound objects typed both.1 j
    effect_fits (universal groups effect) bound objects typed fits =
        let both = both_hold (are_variables parts.parents (variable_types groups)) (is_effect parts params (bound ++ variable_types groups) effect) fits in
        bodies_of_effects_fit (bound ++ variable_types groups) (λ extended. effect_written_out (objects_of parts) effect extended)
        (λ extended all. effect_fits effect (bound ++ variable_types groups) extended all both.1) (choices (objects_of parts) groups objects)
        (typed_choices parts (variable_types groups) bound objects typed)

    effects_fit : (effects : EffectParts) (bound : List (List ℕ)) (objects : List ℕ) → are_typed parts bound objects ≡ true → are_effects parts params bound effects ≡ true
        → are_effects replaced params [] (effects_written_out (objects_of parts) effects objects) ≡ true
    effects_fit no_effects bound objects typed fits = refl
    effects_fit (effect_part effect effects) bound objects typed fits =
        let both = both_hold (is_effect parts params bound effect) (are_effects parts params bound effects) fits in
        λ j. effect_fits effect bound objects typed both.0 j && effects_fit effects bound objects typed both.1 j

pub written_out_is_well_formed : (parts : TaskParts) → WrittenOutIsWellFormed parts
written_out_is_well_formed parts task =
    stays_well_formed parts (formula_written_out parts) (λ effect. effect_written_out (objects_of parts) effect []) kept task
  where
    kept : KeepFit parts (formula_written_out parts) (λ effect. effect_written_out (objects_of parts) effect [])
    kept = record {
      formulas_fit = λ params tree fits. formula_fits parts task params tree [] [] refl fits;
      effects_fit = λ params effect fits. effect_fits parts task params effect [] [] refl fits;
    }

-- A step is not hindered exactly where it is applicable, and of a list of conditions nothing is missing exactly where all hold.

use Rattle.std.proofs.Common.{◌≡◌, Bool, true, false, cond, not, List, [], ◌∷◌, Option, Some, None, IsTrue, filter, refl, ap, sym, ◌∙◌}
use Rattle.std.specs.Option.{option_or}
use Rattle.std.proofs.lemmas.List.Elements.{All-nil, All-cons, All-head, All-tail}
use Rattle.formulas.specs.Tree.{Tree}
use Rattle.strips_task.specs.declared.steps.StepText.{StepText}
use Rattle.strips_task.specs.declared.tasks.TaskParts.{TaskParts}
use Rattle.formulas.specs.Equality.{tree_eq}
use Rattle.strips_task.specs.FirstOccurrences.{first_occurrences}
use Rattle.strips_judge.specs.declared.verdict.Why.{Why}
use Rattle.strips_judge.specs.State.{State, holds}
use Rattle.strips_judge.specs.Step.{fault, precondition, missing, missing_why, hindrance}
use Rattle.strips_judge.specs.Validity.{Satisfies, IsApplicable}

-- a list with no first occurrences is empty
none_left : {A : Type 0} (eq : A → A → Bool) (xs : List A) → first_occurrences eq xs ≡ [] → xs ≡ []
unfolding first_occurrences
none_left eq [] e = refl
none_left eq (x ∷ xs) e = cc

-- a test that is passed where none is kept
all_from_none : (parts : TaskParts) (state : State) (conds : List Tree) → filter (λ c. not (holds parts state [] c)) conds ≡ [] → Satisfies parts state conds
all_from_none parts state [] e = All-nil (λ c. IsTrue (holds parts state [] c))
all_from_none parts state (condition ∷ conds) e = by (holds parts state [] condition) refl (all_from_none parts state conds)
  where
    by : (b : Bool) → holds parts state [] condition ≡ b → (filter (λ c. not (holds parts state [] c)) conds ≡ [] → Satisfies parts state conds) → Satisfies parts state (condition ∷ conds)
    by true is rest =
        All-cons (λ c. IsTrue (holds parts state [] c)) condition conds is
        (rest (sym (ap (λ b. cond (not b) (condition ∷ filter (λ c. not (holds parts state [] c)) conds) (filter (λ c. not (holds parts state [] c)) conds)) is) ∙ e))
    by false is rest =
        let kept : condition ∷ filter (λ c. not (holds parts state [] c)) conds ≡ [] =
        sym (ap (λ b. cond (not b) (condition ∷ filter (λ c. not (holds parts state [] c)) conds) (filter (λ c. not (holds parts state [] c)) conds)) is) ∙ e in
        cc

none_from_all : (parts : TaskParts) (state : State) (conds : List Tree) → Satisfies parts state conds → filter (λ c. not (holds parts state [] c)) conds ≡ []
none_from_all parts state [] h = refl
none_from_all parts state (condition ∷ conds) h =
    ap (λ b. cond (not b) (condition ∷ filter (λ c. not (holds parts state [] c)) conds) (filter (λ c. not (holds parts state [] c)) conds)) (All-head (λ c. IsTrue (holds parts state [] c)) condition conds h)
    ∙ none_from_all parts state conds (All-tail (λ c. IsTrue (holds parts state [] c)) condition conds h)

-- nothing is missing exactly where all conditions hold
pub satisfied_from_missing : (parts : TaskParts) (state : State) (conds : List Tree) → missing parts state conds ≡ [] → Satisfies parts state conds
satisfied_from_missing parts state conds e = all_from_none parts state conds (none_left tree_eq (filter (λ c. not (holds parts state [] c)) conds) e)

pub missing_from_satisfied : (parts : TaskParts) (state : State) (conds : List Tree) → Satisfies parts state conds → missing parts state conds ≡ []
unfolding first_occurrences
missing_from_satisfied parts state conds h = ap (first_occurrences tree_eq) (none_from_all parts state conds h)

-- a step is not hindered exactly where it is applicable
pub applicable_from_hindrance : (parts : TaskParts) (state : State) (step : StepText) → hindrance parts state step ≡ None → IsApplicable parts state step
applicable_from_hindrance parts state step e = by (fault parts step) (missing parts state (precondition parts step)) refl refl
  where
    by : (o : Option Why) (m : List Tree) → fault parts step ≡ o → missing parts state (precondition parts step) ≡ m → IsApplicable parts state step
    by (Some why) m f g = let apart : Some why ≡ None = sym (ap (λ x. option_or x (missing_why (missing parts state (precondition parts step)))) f) ∙ e in cc
    by None (condition ∷ conds) f g =
        let apart : missing_why (condition ∷ conds) ≡ None = sym (ap missing_why g) ∙ sym (ap (λ x. option_or x (missing_why (missing parts state (precondition parts step)))) f) ∙ e in
        cc
    by None [] f g = record { faultless = f; satisfied = satisfied_from_missing parts state (precondition parts step) g }

pub hindrance_from_applicable : (parts : TaskParts) (state : State) (step : StepText) → IsApplicable parts state step → hindrance parts state step ≡ None
hindrance_from_applicable parts state step h =
    ap (λ x. option_or x (missing_why (missing parts state (precondition parts step)))) h.faultless
    ∙ ap missing_why (missing_from_satisfied parts state (precondition parts step) h.satisfied)

-- Runs step by step: a run of a step and others is a step that is applicable and a run of the others, and the verdict walks the same way.

use Rattle.std.proofs.Common.{◌≡◌, ℕ, ◌+◌, zero, suc, List, [], ◌∷◌, Some, length, slice_get, refl, ap, sym, ◌∙◌, subst, arith}
use Rattle.strips_task.specs.declared.steps.StepText.{StepText}
use Rattle.strips_task.specs.declared.tasks.TaskParts.{TaskParts}
use Rattle.strips_judge.specs.State.{State}
use Rattle.strips_judge.specs.Step.{after}
use Rattle.strips_judge.specs.Validity.{IsApplicable, LeadTo}

module _ (parts : TaskParts) where
  -- no steps lead nowhere else
  pub lead_none : (start : State) → LeadTo parts start [] start
  lead_none start = (
    start ∷ [],
    record {
      one_more = omega arith;
      starts = refl;
      applicable = λ k state step at of. cc;
      successor = λ k state step at of. cc;
    },
    refl,
  )

  pub lead_none_same : (start end : State) → LeadTo parts start [] end → start ≡ end
  lead_none_same start end (states, run, last) =
      let same : Some start ≡ Some end = sym run.starts ∙ last in cc

  -- a step that is applicable, and a way on from the state after it
  pub lead_more : (start end : State) (step : StepText) (steps : List StepText) → IsApplicable parts start step → LeadTo parts (after parts start step) steps end
      → LeadTo parts start (step ∷ steps) end
  lead_more start end step steps can (states, run, last) = (
    start ∷ states,
    record {
      one_more = omega (arith, run.one_more);
      starts = refl;
      applicable = can_all;
      successor = goes;
    },
    last,
  )
    where
      can_all : (k : ℕ) (state : State) (one : StepText) → slice_get (start ∷ states) k ≡ Some state → slice_get (step ∷ steps) k ≡ Some one → IsApplicable parts state one
      can_all zero state one at of =
          let same : start ≡ state = cc in
          let here : step ≡ one = cc in
          subst (λ (s : State). IsApplicable parts s one) same (subst (λ (x : StepText). IsApplicable parts start x) here can)
      can_all (suc k) state one at of = run.applicable k state one at of

      goes : (k : ℕ) (state : State) (one : StepText) → slice_get (start ∷ states) k ≡ Some state → slice_get (step ∷ steps) k ≡ Some one
          → slice_get (start ∷ states) (k + 1) ≡ Some (after parts state one)
      goes zero state one at of =
          let same : start ≡ state = cc in
          let here : step ≡ one = cc in
          run.starts ∙ (λ j. Some (after parts (same j) (here j)))
      goes (suc k) state one at of =
          ap (λ n. slice_get (start ∷ states) n) (let e : suc k + 1 ≡ suc (k + 1) = omega arith in e) ∙ run.successor k state one at of

  -- and the other way round
  pub lead_first : (start end : State) (step : StepText) (steps : List StepText) → LeadTo parts start (step ∷ steps) end
      → IsApplicable parts start step × LeadTo parts (after parts start step) steps end
  lead_first start end step steps ([], run, last) = absurd (let no : 0 ≡ length (step ∷ steps) + 1 = run.one_more in omega arith)
  lead_first start end step steps (first ∷ states, run, last) = (
    run.applicable 0 start step run.starts refl,
    (
      states,
      record {
        one_more = let more : suc (length states) ≡ suc (length steps) + 1 = run.one_more in omega arith;
        starts = run.successor 0 start step run.starts refl;
        applicable = λ k state one at of. run.applicable (suc k) state one at of;
        successor = λ k state one at of.
            ap (λ n. slice_get (first ∷ states) n) (let e : suc (k + 1) ≡ suc k + 1 = omega arith in e) ∙ run.successor (suc k) state one at of;
      },
      last,
    ),
  )

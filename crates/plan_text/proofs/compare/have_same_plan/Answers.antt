use Rattle.std.proofs.Common.{◌∙◌}
use Rattle.plan_text.proofs.Comparisons.{both_on, steps_by_words, are_apart}
use Rattle.plan_text.proofs.compare.have_same_plan.Goals as goal
use Rattle.plan_text.proofs.compare.have_same_plan.Goals.{in_default-via-in-Step+in_default, in_default-via-in-End+in_default, in_default-via-in_default}

pub steps-preserved : goal.steps-preserved
steps-preserved c =
    both_on _ _ _ _ _ _ _ _ _ _ c.steps.invariant c.in-Step-Step.ensures.behind c.in-Step-Step.ensures'.behind
    (c.are_same_words-same.ensures ∙ steps_by_words _ _ c.in-Step-Step.ensures.some c.in-Step-Step.ensures'.some)

pub have_same_fault-requires : goal.have_same_fault-requires
have_same_fault-requires c =
    are_apart _ _ _ _ _ _ _ c.next_step.result c.next_step-in-steps.result c.steps.invariant c.next_step.ensures c.next_step-in-steps.ensures
    (elim c.in_default.branch [
      | in_default-via-in-Step+in_default w ↦ ((λ x y k l is e. w.in_default.not-Step-1 y l e), λ is e. let no = w.in_default.is-0 in cc)
      | in_default-via-in-End+in_default w ↦ ((λ x y k l is e. let no = w.in_default.is-0 in cc), λ is e. w.in_default.not-End-1 e)
      | in_default-via-in_default w ↦ ((λ x y k l is e. let no = w.in_default.is-0 in cc), λ is e. let no = w.in_default.is-0 in cc)
    ])

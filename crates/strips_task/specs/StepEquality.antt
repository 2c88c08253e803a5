-- The test of two steps is an equality: steps that pass it are the same.

use mathlib.Core.Path.{ap, sym, ◌∙◌}
use Rattle.std.specs.Bool.{Decides}
use Rattle.std.specs.Prelude.{◌≡◌}
use Rattle.std.specs.Cmp.{IsEquivalence, on_equiv, and_equiv, first_so, second_so}
use Rattle.std.specs.Cmp.Lexicographic.{pointwise, pointwise_decides, bytes_decides, lists_equiv, nat_list_eq_equiv}
use Rattle.std.specs.Str.{bytes_eq}
use Rattle.strips_task.specs.declared.steps.StepText.{StepText}
use Rattle.strips_task.specs.Steps.{step_eq}

-- the test of two steps is reflexive, symmetric and transitive
pub step_equivalence : IsEquivalence step_eq
step_equivalence = and_equiv (on_equiv (λ s. s.action) nat_list_eq_equiv) (on_equiv (λ s. s.args) (lists_equiv nat_list_eq_equiv))

-- steps that are equal by the test are the same
pub step_decides : (a b : StepText) → Decides (step_eq a b) (a ≡ b)
step_decides a b = (
  λ h. (λ j. record {
    action = (bytes_decides a.action b.action).0 (first_so (bytes_eq a.action b.action) (pointwise bytes_eq a.args b.args) h) j;
    args = (pointwise_decides bytes_decides a.args b.args).0 (second_so (bytes_eq a.action b.action) (pointwise bytes_eq a.args b.args) h) j;
  }),
  λ e. ap (λ s. step_eq a s) (sym e) ∙ step_equivalence.refl a,
)

-- the test of two lists of steps is reflexive, symmetric and transitive
pub steps_equivalence : IsEquivalence (pointwise step_eq)
steps_equivalence = lists_equiv step_equivalence

-- The test of two plans is an equality: plans that pass it are the same.

use Rattle.std.specs.Prelude.{◌≡◌, true}
use mathlib.Core.Bool.{true≢false}
use mathlib.Core.Path.{refl, sym, ap}
use Rattle.std.specs.Cmp.{IsEquivalence, nat_eq_equiv, unsigned_Decides}
use Rattle.std.specs.Cmp.Lexicographic.{pointwise_decides}
use Rattle.strips_task.specs.declared.plans.Plan.{Plan}
use Rattle.strips_task.specs.declared.plans.Plan.TheVariants.{Steps, Unreadable}
use Rattle.strips_task.specs.StepEquality.{step_decides, steps_equivalence}
use Rattle.strips_task.specs.Plans.{plan_eq}

symmetric : (a b : Plan) → plan_eq a b ≡ plan_eq b a
symmetric (Steps xs) (Steps ys) = steps_equivalence.symm xs ys
symmetric (Steps xs) (Unreadable n) = refl
symmetric (Unreadable m) (Steps ys) = refl
symmetric (Unreadable m) (Unreadable n) = nat_eq_equiv.symm m n

itself : (a : Plan) → plan_eq a a ≡ true
itself (Steps xs) = steps_equivalence.refl xs
itself (Unreadable n) = nat_eq_equiv.refl n

-- plans that are equal by the test are the same
pub plan_same : (a b : Plan) → plan_eq a b ≡ true → a ≡ b
plan_same (Steps xs) (Steps ys) h = ap Steps ((pointwise_decides step_decides xs ys).0 h)
plan_same (Steps xs) (Unreadable n) h = absurd (true≢false (sym h))
plan_same (Unreadable m) (Steps ys) h = absurd (true≢false (sym h))
plan_same (Unreadable m) (Unreadable n) h = ap Unreadable ((unsigned_Decides m n).0 h)

-- the test of two plans is reflexive, symmetric and transitive
pub plans_equivalence : IsEquivalence plan_eq
plans_equivalence = record { refl = itself; symm = symmetric; congr = λ a b z h. ap (λ p. plan_eq p z) (plan_same a b h) }

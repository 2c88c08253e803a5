-- When two plans are the same.

use Rattle.std.specs.Prelude.{Bool, false, nat_eq}
use Rattle.std.specs.Cmp.Lexicographic.{pointwise}
use Rattle.strips_task.specs.declared.plans.Plan.{Plan}
use Rattle.strips_task.specs.declared.plans.Plan.TheVariants.{Steps, Unreadable}
use Rattle.strips_task.specs.Steps.{step_eq}

-- the same steps, or the same line of a fault
abbrev pub plan_eq : Plan → Plan → Bool
plan_eq (Steps steps) (Steps others) = pointwise step_eq steps others
plan_eq (Steps steps) (Unreadable line) = false
plan_eq (Unreadable line) (Steps steps) = false
plan_eq (Unreadable line) (Unreadable other) = nat_eq line other

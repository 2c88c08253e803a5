-- Planners that are open.

use Rattle.std.proofs.Common.{◌≡◌, ◌<◌, ℕ, Bool, true, false, not, length, Option, Some, None, refl, arith}
use Rattle.std.specs.Prelude.{if◌then◌else◌, nat_lt}
use Rattle.std.proofs.lemmas.Bool.Decides.{nat_tests}
use Rattle.intake_rules.specs.declared.refusal.Refusal.{Refusal}
use Rattle.intake_rules.specs.Intake.{has_planner, is_closed_in}
use Rattle.intake_rules.specs.Rules.{submit_refusal}
use Rattle.bench_rule.specs.declared.views.View.{View}
use Rattle.bench_rule.specs.Views.{IsOpen}
use Rattle.judge_bench.specs.Seats.{accepted_intake}

-- if no row applies, the first does not, nor does any of the others
passes : (test : Bool) (why : Refusal) (rest : Option Refusal) → (if test then Some why else rest) ≡ None → (test ≡ false) × (rest ≡ None)
passes true why rest e = absurd (cc)
passes false why rest e = (refl, e)

is_lt : (a b : ℕ) → not (nat_lt a b) ≡ false → a < b
is_lt a b e = grind (arith, nat_tests, e)

-- a planner whose plan is not refused is open
pub open_if_accepted : (slots : ℕ) (view : View) (planner : ℕ) → submit_refusal slots (accepted_intake view) planner ≡ None → IsOpen view planner
open_if_accepted slots view planner e =
    let first = passes (not (has_planner (accepted_intake view) planner)) _ _ e in
    let second = passes (is_closed_in (accepted_intake view) planner) _ _ first.1 in
    (is_lt planner (length view.closed) first.0, second.0)

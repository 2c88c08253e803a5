-- What a seat holds, once one of its slots is spent.

use Rattle.std.proofs.Common.{◌≡◌, ◌<◌, ℕ, ◌+◌, Bool, true, false, cond, eqb, eq-eqb, ne_eqb, List, [], ◌∷◌, length, ap, ⊎_elim, arith}
use mathlib.Core.Logic.{dite}
use native.Mathlib.Decide.{ℕ_discrete}
use Rattle.intake_rules.specs.Jobs.{AcceptedPlan}
use Rattle.bench_rule.specs.declared.views.Held.{Held}
use Rattle.bench_rule.specs.Views.{HoldsJob, times_held, without_held}
use Rattle.bench_rule.proofs.Counts.{one_else}
use Rattle.judge_bench.specs.Bookkeeping.{HeldWithin}

abbrev pick : Bool → List Held → List Held → List Held
pick test xs ys = cond test xs ys

pub length_without : (slot : ℕ) (all : List Held) → 0 < times_held slot all → length (without_held slot all) + 1 ≡ length all
length_without slot [] h = absurd (omega arith)
length_without slot (held ∷ others) h = dite (ℕ_discrete held.slot slot)
    (λ same. let test : eqb held.slot slot ≡ true = eq-eqb held.slot slot same in
    let taken = ap (λ c. length (pick c others (held ∷ without_held slot others))) test in omega arith)
    (λ apart. let test : eqb held.slot slot ≡ false = ne_eqb held.slot slot apart in
    let taken = ap (λ c. length (pick c others (held ∷ without_held slot others))) test in let none = one_else held.slot slot apart in let rest = length_without slot others (omega arith) in omega arith)

pick_within : (slots : ℕ) (held : Held) (others rest : List Held) → HeldWithin slots (held ∷ others) → HeldWithin slots rest → (test : Bool) → HeldWithin slots (pick test others (held ∷ rest))
pick_within slots held others rest known later true = known.1
pick_within slots held others rest known later false = (known.0, later)

pub within_without : (slots slot : ℕ) (all : List Held) → HeldWithin slots all → HeldWithin slots (without_held slot all)
within_without slots slot [] known = tt
within_without slots slot (held ∷ others) known = let rest = within_without slots slot others known.1 in pick_within slots held others (without_held slot others) known rest (eqb held.slot slot)

-- a held slot is one of those that there are
pub slot_within : (slots slot : ℕ) (job : AcceptedPlan) (all : List Held) → HeldWithin slots all → HoldsJob slot job all → slot < slots
slot_within slots slot job [] known holds = absurd holds
slot_within slots slot job (held ∷ others) known holds = ⊎_elim
    (λ (here : (held.slot ≡ slot) × (held.job ≡ job)). let same = here.0 in let inside = known.0 in omega arith)
    (λ (rest : HoldsJob slot job others). slot_within slots slot job others known.1 rest) holds

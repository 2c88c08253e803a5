-- How often slots are in lists of slots and of held slots.

use Rattle.bench_rule.specs.declared.contents.Item.TheVariants.{Nothing}
use Rattle.std.proofs.Common.{◌≡◌, ◌≢◌, ◌<◌, ◌≤◌, ℕ, zero, suc, ◌+◌, Bool, true, false, cond, eqb, eq-eqb, ne_eqb, List, [], ◌∷◌, ◌++◌, slice_get, get_or, Some, length, sym, refl, ap, ◌∙◌, ⊎_elim, arith}
use mathlib.Core.Logic.{dite}
use native.Mathlib.Decide.{ℕ_discrete}
use Rattle.intake_rules.specs.Jobs.{AcceptedPlan}
use Rattle.bench_rule.specs.declared.views.Held.{Held}
use Rattle.bench_rule.specs.Views.{Carried, HoldsJob, one_if, slots_of, times, times_held, without_held, without_slot}
use Rattle.bench_rule.specs.Sound.{HeldWithJobs, finished_in, out_in}

pub one_here : (slot : ℕ) → one_if (eqb slot slot) ≡ 1
one_here slot = ap one_if (eq-eqb slot slot refl)

pub one_at : (slot other : ℕ) → slot ≡ other → one_if (eqb slot other) ≡ 1
one_at slot other same = ap one_if (eq-eqb slot other same)

pub one_else : (slot other : ℕ) → slot ≢ other → one_if (eqb slot other) ≡ 0
one_else slot other apart = ap one_if (ne_eqb slot other apart)

pub one_small : (test : Bool) → one_if test ≤ 1
one_small true = omega arith
one_small false = omega arith

pub out_two : (word : ℕ) → 0 < out_in word → word ≡ 2
out_two word h = dite (ℕ_discrete word 2) (λ same. same) (λ apart. let none = one_else word 2 apart in absurd (omega arith))

pub out_small : (word : ℕ) → out_in word ≤ 1
out_small word = one_small (eqb word 2)

pub finished_small : (word : ℕ) → finished_in word ≤ 1
finished_small word = dite (ℕ_discrete word 3)
    (λ same. let three = one_at word 3 same in let four = one_else word 4 (λ e. omega arith) in omega arith)
    (λ apart. let three = one_else word 3 apart in let four = one_small (eqb word 4) in omega arith)

pub finished_four : (word : ℕ) → 0 < finished_in word → word ≢ 3 → word ≡ 4
finished_four word h apart = dite (ℕ_discrete word 4) (λ same. same) (λ other. let three = one_else word 3 apart in let four = one_else word 4 other in absurd (omega arith))

pub finished_used : (word : ℕ) → 0 < finished_in word → 0 < word
finished_used word h = dite (ℕ_discrete word 0) (λ none. let three = one_else word 3 (λ e. omega arith) in let four = one_else word 4 (λ e. omega arith) in absurd (omega arith)) (λ other. omega arith)

-- where a number of a list is not 0, the list has it
pub number_there : (numbers : List ℕ) (i : ℕ) → 0 < get_or numbers i 0 → i < length numbers
number_there [] i h = absurd (omega arith)
number_there (x ∷ xs) zero h = omega arith
number_there (x ∷ xs) (suc i) h = omega (arith, number_there xs i h)

pub times-push : (slot other : ℕ) (slots : List ℕ) → times slot (slots ++ other ∷ []) ≡ times slot slots + one_if (eqb other slot)
times-push slot other [] = omega arith
times-push slot other (x ∷ xs) = omega (arith, times-push slot other xs)

pub times-append : (slot : ℕ) (xs ys : List ℕ) → times slot (xs ++ ys) ≡ times slot xs + times slot ys
times-append slot [] ys = omega arith
times-append slot (x ∷ xs) ys = omega (arith, times-append slot xs ys)

-- a held slot has an accepted job
pub job_of_held : (jobs : List AcceptedPlan) (slot : ℕ) (all : List Held) → HeldWithJobs jobs all → 0 < times_held slot all → (job : AcceptedPlan) × (slice_get jobs slot ≡ Some job)
job_of_held jobs slot [] known h = absurd (omega arith)
job_of_held jobs slot (held ∷ others) known h = dite (ℕ_discrete held.slot slot)
    (λ same. (held.job, ap (slice_get jobs) (sym same) ∙ known.0))
    (λ apart. job_of_held jobs slot others known.1 (let none = one_else held.slot slot apart in omega arith))

pub held_often : (slot : ℕ) (job : AcceptedPlan) (all : List Held) → HoldsJob slot job all → 0 < times_held slot all
held_often slot job [] holds = absurd holds
held_often slot job (held ∷ others) holds = ⊎_elim (λ (here : (held.slot ≡ slot) × (held.job ≡ job)). let one = one_at held.slot slot here.0 in omega arith) (λ (rest : HoldsJob slot job others). let more = held_often slot job others rest in omega arith) holds

pub held_job : (jobs : List AcceptedPlan) (slot : ℕ) (job : AcceptedPlan) (all : List Held) → HeldWithJobs jobs all → HoldsJob slot job all → slice_get jobs slot ≡ Some job
held_job jobs slot job [] known holds = absurd holds
held_job jobs slot job (held ∷ others) known holds = ⊎_elim
    (λ (here : (held.slot ≡ slot) × (held.job ≡ job)). ap (slice_get jobs) (sym here.0) ∙ (known.0 ∙ ap Some here.1))
    (λ (rest : HoldsJob slot job others). held_job jobs slot job others known.1 rest) holds

abbrev pick : Bool → List Held → List Held → List Held
pick test xs ys = cond test xs ys

pub without_here : (slot : ℕ) (all : List Held) → 0 < times_held slot all → times_held slot (without_held slot all) + 1 ≡ times_held slot all
without_here slot [] h = absurd (omega arith)
without_here slot (held ∷ others) h = dite (ℕ_discrete held.slot slot)
    (λ same. let test : eqb held.slot slot ≡ true = eq-eqb held.slot slot same in
    let taken = ap (λ c. times_held slot (pick c others (held ∷ without_held slot others))) test in let one = ap one_if test in omega arith)
    (λ apart. let test : eqb held.slot slot ≡ false = ne_eqb held.slot slot apart in
    let taken = ap (λ c. times_held slot (pick c others (held ∷ without_held slot others))) test in let none = ap one_if test in let rest = without_here slot others (omega arith) in omega arith)

pub without_else : (slot other : ℕ) (all : List Held) → other ≢ slot → times_held other (without_held slot all) ≡ times_held other all
without_else slot other [] apart = refl
without_else slot other (held ∷ others) apart = dite (ℕ_discrete held.slot slot)
    (λ same. let test : eqb held.slot slot ≡ true = eq-eqb held.slot slot same in
    let taken = ap (λ c. times_held other (pick c others (held ∷ without_held slot others))) test in let none = one_else held.slot other (λ e. apart (sym e ∙ same)) in omega arith)
    (λ differs. let test : eqb held.slot slot ≡ false = ne_eqb held.slot slot differs in
    let taken = ap (λ c. times_held other (pick c others (held ∷ without_held slot others))) test in let rest = without_else slot other others apart in omega arith)

pick_known : (jobs : List AcceptedPlan) (held : Held) (others rest : List Held) → HeldWithJobs jobs (held ∷ others) → HeldWithJobs jobs rest → (test : Bool) → HeldWithJobs jobs (pick test others (held ∷ rest))
pick_known jobs held others rest known later true = known.1
pick_known jobs held others rest known later false = (known.0, later)

pub without_known : (jobs : List AcceptedPlan) (slot : ℕ) (all : List Held) → HeldWithJobs jobs all → HeldWithJobs jobs (without_held slot all)
without_known jobs slot [] known = tt
without_known jobs slot (held ∷ others) known = let rest = without_known jobs slot others known.1 in pick_known jobs held others (without_held slot others) known rest (eqb held.slot slot)

abbrev pick_carried : Bool → Carried → Carried → Carried
pick_carried test xs ys = cond test xs ys

-- a seat that carries what it holds does so too without one of the held slots
pub carries_without : (slot : ℕ) (all : List Held) (more : Carried) → 0 < times_held slot all → without_slot slot (slots_of all ++ more) ≡ slots_of (without_held slot all) ++ more
carries_without slot [] more h = absurd (omega arith)
carries_without slot (held ∷ others) more h = let rest = slots_of others ++ more in dite (ℕ_discrete held.slot slot)
    (λ same. let test : eqb held.slot slot ≡ true = eq-eqb held.slot slot same in
    ap (λ c. pick_carried c rest ((held.slot, Nothing) ∷ without_slot slot rest)) test
    ∙ ap (λ c. slots_of (pick c others (held ∷ without_held slot others)) ++ more) (sym test))
    (λ apart. let test : eqb held.slot slot ≡ false = ne_eqb held.slot slot apart in
    ap (λ c. pick_carried c rest ((held.slot, Nothing) ∷ without_slot slot rest)) test
    ∙ ap (λ (z : Carried). (held.slot, Nothing) ∷ z) (carries_without slot others more (let none = ap one_if test in omega arith))
    ∙ ap (λ c. slots_of (pick c others (held ∷ without_held slot others)) ++ more) (sym test))

-- Stamps that rise, seen step by step.

use Rattle.std.proofs.Common.{◌≡◌, ℕ, zero, suc, ◌+◌, ◌<◌, ◌≤◌, List, [], ◌∷◌, ◌++◌, length, get_or, Option, Some, None, refl, subst, arith}
use Rattle.std.specs.Option.{option_map}
use Rattle.std.specs.List.{cons_option}
use Rattle.std.specs.List.Sorted.{IsStrictlyIncreasing}
use Rattle.plan_text.specs.declared.want.Want.{Want}
use Rattle.plan_text.specs.declared.want.Want.TheVariants.{Step, Number}
use Rattle.pddl_words.specs.Decimals.{Decimal, billionths}
use Rattle.plan_text.specs.PlanGrammar.{WrittenStep, stamps}

-- the least value of a next stamp behind a stamp, or behind none
abbrev pub least_after : ℕ → Option Decimal → ℕ
least_after least None = least
least_after least (Some number) = billionths number + 1

abbrev pub RisesAt : ℕ → Option Decimal → Type 0
RisesAt least None = Unit {0}
RisesAt least (Some number) = least ≤ billionths number

-- the stamps of the steps rise, from this value on
abbrev pub Rises : ℕ → List WrittenStep → Type 0
Rises least [] = Unit {0}
Rises least (s ∷ written) = RisesAt least s.stamp × Rises (least_after least s.stamp) written

abbrev pub least_at : ℕ → List WrittenStep → ℕ
least_at least [] = least
least_at least (s ∷ written) = least_at (least_after least s.stamp) written

-- none of the numbers is below this one
abbrev pub IsFloor : ℕ → List ℕ → Type 0
IsFloor least vs = 0 < length vs → least ≤ get_or vs 0 0

rising_tail : (v : ℕ) (vs : List ℕ) → IsStrictlyIncreasing (v ∷ vs) → IsStrictlyIncreasing vs
rising_tail v vs rising k lt =
    let next : suc k + 1 ≡ suc (k + 1) = omega arith in
    subst (λ (n : ℕ). get_or (v ∷ vs) (suc k) 0 < get_or (v ∷ vs) n 0) next (rising (suc k) (omega arith))

rising_front : (v : ℕ) (vs : List ℕ) → IsStrictlyIncreasing (v ∷ vs) → IsFloor (v + 1) vs
rising_front v vs rising some = omega (arith, rising 0 (omega arith))

rising_cons : (v : ℕ) (vs : List ℕ) → IsStrictlyIncreasing vs → IsFloor (v + 1) vs → IsStrictlyIncreasing (v ∷ vs)
rising_cons v vs rising floor zero lt = omega (arith, floor (omega arith))
rising_cons v vs rising floor (suc k) lt =
    let next : suc (k + 1) ≡ suc k + 1 = omega arith in
    subst (λ (n : ℕ). get_or (v ∷ vs) (suc k) 0 < get_or (v ∷ vs) n 0) next (rising k (omega arith))

rises_by : (least : ℕ) (stamp : Option Decimal) (vs : List ℕ) (R : ℕ → Type 0) → ((l : ℕ) → IsStrictlyIncreasing vs → IsFloor l vs → R l) → IsStrictlyIncreasing (cons_option (option_map billionths stamp) vs) → IsFloor least (cons_option (option_map billionths stamp) vs) → RisesAt least stamp × R (least_after least stamp)
rises_by least None vs R rest rising floor = (tt, rest least rising floor)
rises_by least (Some number) vs R rest rising floor =
    (floor (omega arith), rest (billionths number + 1) (rising_tail (billionths number) vs rising) (rising_front (billionths number) vs rising))

-- strictly increasing stamps rise step by step
pub rises : (least : ℕ) (written : List WrittenStep) → IsStrictlyIncreasing (stamps written) → IsFloor least (stamps written) → Rises least written
rises least [] rising floor = tt
rises least (s ∷ written) rising floor =
    rises_by least s.stamp (stamps written) (λ l. Rises l written) (λ l r f. rises l written r f) rising floor

increases_by : (least : ℕ) (stamp : Option Decimal) (vs : List ℕ) → RisesAt least stamp → IsStrictlyIncreasing vs × IsFloor (least_after least stamp) vs → IsStrictlyIncreasing (cons_option (option_map billionths stamp) vs) × IsFloor least (cons_option (option_map billionths stamp) vs)
increases_by least None vs here rest = rest
increases_by least (Some number) vs here rest = (rising_cons (billionths number) vs rest.0 rest.1, λ some. here)

no_rise : IsStrictlyIncreasing []
no_rise k lt = absurd (omega arith)

-- stamps that rise step by step are strictly increasing
pub increases : (least : ℕ) (written : List WrittenStep) → Rises least written → IsStrictlyIncreasing (stamps written) × IsFloor least (stamps written)
increases least [] rise = (no_rise, λ some. absurd (omega arith))
increases least (s ∷ written) rise =
    increases_by least s.stamp (stamps written) rise.0 (increases (least_after least s.stamp) written rise.1)

pub rises_push : (least : ℕ) (written : List WrittenStep) (s : WrittenStep) → Rises least written → RisesAt (least_at least written) s.stamp → Rises least (written ++ s ∷ [])
rises_push least [] s rise here = (here, tt)
rises_push least (t ∷ written) s rise here = (rise.0, rises_push (least_after least t.stamp) written s rise.1 here)

pub least_push : (least : ℕ) (written : List WrittenStep) (s : WrittenStep) → least_at least (written ++ s ∷ []) ≡ least_after (least_at least written) s.stamp
least_push least [] s = refl
least_push least (t ∷ written) s = least_push (least_after least t.stamp) written s

-- what may come behind a step: its number, unless that was read

abbrev pub want_after : Option Decimal → Want
want_after None = Number
want_after (Some number) = Step

abbrev pub want_at : Want → List WrittenStep → Want
want_at want [] = want
want_at want (s ∷ written) = want_at (want_after s.number) written

pub want_push : (want : Want) (written : List WrittenStep) (s : WrittenStep) → want_at want (written ++ s ∷ []) ≡ want_after s.number
want_push want [] s = refl
want_push want (t ∷ written) s = want_push (want_after t.number) written s

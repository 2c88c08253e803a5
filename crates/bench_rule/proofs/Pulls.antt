-- A seat brings one of its slots before the others: it gives back those before it, and takes them again, all in one step.

use Rattle.bench_rule.specs.declared.contents.Item.TheVariants.{Nothing}
use Rattle.std.proofs.Common.{◌≡◌, ◌≢◌, ◌<◌, ◌≤◌, ℕ, zero, suc, Bool, true, false, cond, eqb, eq-eqb, ne_eqb, List, [], ◌∷◌, ◌++◌, length, set, sym, refl, ap, ◌∙◌, subst, arith}
use mathlib.Core.Logic.{dite}
use native.Mathlib.Decide.{ℕ_discrete}
use mathlib.Core.Option.{some, none}
use mathlib.Core.Option as maybe
use lib.ListN.{get_elem?}
use Rattle.atomic_table.specs.Table.{Act, keeps, takes, gives, chain, Valid, homes_after, carried_after}
use Rattle.atomic_table.proofs.Lists.{set_here, set_else, set_again}
use Rattle.bench_rule.specs.declared.views.Held.{Held}
use Rattle.bench_rule.specs.Views.{Content, Carried, slots_of, times_held, without_slot}
use Rattle.bench_rule.proofs.Counts.{one_here, one_at, one_else}
use Rattle.bench_rule.proofs.Sums.{within}

abbrev pub Homes : Type 0
Homes = List (maybe.Option Content)

module _ {A : Type 0} where
  set_twice : (xs : List A) (i : ℕ) (a b : A) → set (set xs i a) i b ≡ set xs i b
  set_twice [] i a b = refl
  set_twice (x ∷ xs) zero a b = refl
  set_twice (x ∷ xs) (suc i) a b = ap (λ ys. x ∷ ys) (set_twice xs i a b)

  set_swap : (xs : List A) (i j : ℕ) (a b : A) → i ≢ j → set (set xs i a) j b ≡ set (set xs j b) i a
  set_swap [] i j a b apart = refl
  set_swap (x ∷ xs) zero zero a b apart = absurd (apart refl)
  set_swap (x ∷ xs) zero (suc j) a b apart = refl
  set_swap (x ∷ xs) (suc i) zero a b apart = refl
  set_swap (x ∷ xs) (suc i) (suc j) a b apart = ap (λ ys. x ∷ ys) (set_swap xs i j a b (λ e. apart (ap suc e)))

-- no slot is held twice, and each held slot is out
pub record AreOut (homes : Homes) (all : List Held) : Type 0 where
  pub once : (slot : ℕ) → times_held slot all ≤ 1
  pub away : (slot : ℕ) → 0 < times_held slot all → get_elem? homes slot ≡ some none

-- the act leads from these homes and carried slots to those
abbrev pub Leads : Homes → Homes → Carried → Carried → Act Content → Type 0
Leads homes homes' carried carried' act = Valid homes carried act × (homes_after homes carried act ≡ homes') × (carried_after carried act ≡ carried')

-- the slot at the front is given back, another one is taken, and the first one before it, all of it behind the slot that is wanted
behind : (homes : Homes) (other slot : ℕ) (carried : Carried) → other ≢ slot → get_elem? homes other ≡ some none → get_elem? homes slot ≡ some none
    → Leads (set homes other (some Nothing)) homes ((slot, Nothing) ∷ carried) ((slot, Nothing) ∷ (other, Nothing) ∷ carried) (chain gives (chain (takes other Nothing) (takes slot Nothing)))
behind homes other slot carried apart at_other at_slot =
    let homes' : Homes = set homes other (some Nothing) in let given : Homes = set homes' slot (some Nothing) in
    let in_other : other < length homes = within homes other none at_other in let in_slot : slot < length homes = within homes slot none at_slot in
    let there : get_elem? given other ≡ some (some Nothing) = set_else homes' slot other (some Nothing) apart ∙ set_here homes other (some Nothing) in_other in
    let e₁ : set given other none ≡ set homes slot (some Nothing) = set_swap homes' slot other (some Nothing) none (λ e. apart (sym e)) ∙ ap (λ (xs : Homes). set xs slot (some Nothing)) (set_twice homes other (some Nothing) none ∙ set_again homes other none at_other) in
    let there' : get_elem? (set given other none) slot ≡ some (some Nothing) = ap (λ (xs : Homes). get_elem? xs slot) e₁ ∙ set_here homes slot (some Nothing) in_slot in
    ((tt, (there, there')), ap (λ (xs : Homes). set xs slot none) e₁ ∙ (set_twice homes slot (some Nothing) none ∙ set_again homes slot none at_slot), refl)

pub pull : (homes : Homes) (slot : ℕ) (all : List Held) (emitted : Carried) → 0 < times_held slot all → AreOut homes all
    → (act : Act Content) × Leads homes homes (slots_of all ++ emitted) ((slot, Nothing) ∷ without_slot slot (slots_of all ++ emitted)) act
pull homes slot [] emitted h are = absurd (omega arith)
pull homes slot (held ∷ others) emitted h are = let rest = slots_of others ++ emitted in dite (ℕ_discrete held.slot slot)
    (λ same. let test : eqb held.slot slot ≡ true = eq-eqb held.slot slot same in
    (keeps, (tt, refl, ap (λ (z : ℕ × Bool). (z.0, Nothing) ∷ cond z.1 rest ((held.slot, Nothing) ∷ without_slot slot rest)) (λ i. (same i, sym test i)))))
    (λ apart. let test : eqb held.slot slot ≡ false = ne_eqb held.slot slot apart in
    let less : (k : ℕ) → 0 < times_held k others → k ≢ held.slot = λ k l e. let z = are.once k in let one = one_at held.slot k (sym e) in absurd (omega arith) in
    let here : 0 < times_held slot others = let zero_times = one_else held.slot slot apart in omega arith in
    let homes' : Homes = set homes held.slot (some Nothing) in
    let at_held : get_elem? homes held.slot ≡ some none = are.away held.slot (let one = one_here held.slot in omega arith) in
    let at_slot : get_elem? homes slot ≡ some none = are.away slot h in
    let are' : AreOut homes' others = record { once = λ k. let z = are.once k in omega arith; away = λ k l. set_else homes held.slot k (some Nothing) (less k l) ∙ are.away k (omega arith) } in
    let t = pull homes' slot others emitted here are' in
    let back : Act Content = chain gives (chain (takes held.slot Nothing) (takes slot Nothing)) in
    let w = without_slot slot rest in
    let l = behind homes held.slot slot w apart at_held at_slot in
    let P : Homes × Carried → Type 0 = λ z. Leads z.0 homes z.1 ((slot, Nothing) ∷ (held.slot, Nothing) ∷ w) back in
    let k = subst P (λ i. (sym t.1.1 i, sym t.1.2 i)) l in
    (chain gives (chain t.0 back), ((tt, (t.1.0, k.0)), k.1, k.2 ∙ ap (λ (c : Bool). (slot, Nothing) ∷ cond c rest ((held.slot, Nothing) ∷ w)) (sym test))))

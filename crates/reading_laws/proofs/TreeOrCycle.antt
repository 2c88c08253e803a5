-- Parents that are types form a tree or have a cycle.

use Rattle.std.proofs.Common.{◌≡◌, ◌≢◌, ℕ, ◌<◌, ◌&&◌, zero, suc, Bool, true, false, nat_lt, ◌⊎◌, inl, inr, List, length, slice_index, refl, ap, sym, ◌∙◌, arith, below_more}
use Rattle.std.proofs.lemmas.Bool.{and_parts, ltb-true, lt-ltb}
use Rattle.strips_task.specs.Types.{IsTypeTree, ancestor, is_within, is_below}
use Rattle.strips_task.proofs.TypeTrees.{below_from_within}
use Rattle.pddl_reader.specs.TypeCycles.{is_under_itself}
use Rattle.reading_laws.specs.TypeCycles.{HasCycle, IsTreeOrCycle}
use Rattle.pddl_reader.proofs.TypeCycles.{tree_without_cycles}
use Rattle.pddl_reader.proofs.TypeTests.{tree_from}

-- no number below a bound passes a test, or one does
none_or_one : (test : ℕ → Bool) (n : ℕ) → ((i : ℕ) → i < n → test i ≡ false) ⊎ ((i : ℕ) × (i < n) × (test i ≡ true))
none_or_one test zero = inl (λ i lt. absurd (omega arith))
none_or_one test (suc n) = by (test n) refl (none_or_one test n)
  where
    by : (b : Bool) → test n ≡ b → ((i : ℕ) → i < n → test i ≡ false) ⊎ ((i : ℕ) × (i < n) × (test i ≡ true)) →
        ((i : ℕ) → i < suc n → test i ≡ false) ⊎ ((i : ℕ) × (i < suc n) × (test i ≡ true))
    by b e (inr one) = inr (one.0, omega arith, one.2)
    by true e (inl none) = inr (n, omega arith, e)
    by false e (inl none) = inl (λ i lt. below_more (λ k. test k ≡ false) n none e i (omega arith))

module _ (parents : List ℕ) where
  -- a type that is not under itself is not found above its parent
  not_above : (type : ℕ) → type ≢ 0 → is_under_itself parents type ≡ false → is_within parents (length parents) (slice_index parents type) type ≡ false
  unfolding is_under_itself is_below
  not_above type other h =
      sym (ap (λ b. b && is_within parents (length parents) (slice_index parents type) type) (lt-ltb 0 type (omega (arith, other)))) ∙ h

  -- a type under itself makes a cycle
  cycle_from : (type : ℕ) → type < length parents → is_under_itself parents type ≡ true → HasCycle parents
  unfolding is_under_itself is_below ancestor
  cycle_from type lt h =
      let parts = and_parts (nat_lt 0 type) (is_within parents (length parents) (slice_index parents type) type) h in
      let positive : 0 < type = ltb-true 0 type parts.0 in
      let above = below_from_within parents (length parents) (slice_index parents type) type parts.1 in
      (type, above.0, omega (arith, positive), lt, above.1)

pub tree_or_cycle : IsTreeOrCycle
tree_or_cycle parents some top known = by (none_or_one (is_under_itself parents) (length parents))
  where
    by : ((i : ℕ) → i < length parents → is_under_itself parents i ≡ false) ⊎ ((i : ℕ) × (i < length parents) × (is_under_itself parents i ≡ true)) →
        IsTypeTree parents ⊎ HasCycle parents
    by (inl none) =
        inl (tree_from parents (tree_without_cycles parents some top known (λ d lt other.
        not_above parents (slice_index parents d) other (none (slice_index parents d) (known d 0 lt)))))
    by (inr (type, lt, under)) = inr (cycle_from parents type lt under)

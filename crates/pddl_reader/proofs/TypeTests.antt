-- The test of a tree of types agrees with what a tree is.

use Rattle.std.proofs.Common.{◌≡◌, ℕ, ◌<◌, zero, suc, Bool, true, nat_lt, List, length, slice_index, refl, arith, below_more, ap, sym, ◌∙◌, ◌+◌, ◌-◌, ◌≤◌}
use Rattle.std.proofs.lemmas.Bool.{and_parts, eqb-true, eq-eqb, ltb-true, lt-ltb}
use Rattle.std.proofs.lemmas.List.Sums.{AllPass-from_list_all, list_all-from_AllPass}
use Rattle.std.specs.List.{list_all}
use Rattle.strips_task.specs.Types.{IsTypeTree, ancestor, is_below}
use Rattle.strips_task.proofs.TypeTrees.{below_from_within, within_from_below, ancestor-add, ancestor-object}
use Rattle.pddl_reader.specs.TypeOrder.{all_below, is_tree}

all_below_at : (test : ℕ → Bool) (n i : ℕ) → i < n → all_below test n ≡ true → test i ≡ true
unfolding all_below
all_below_at test zero i lt h = absurd (omega arith)
all_below_at test (suc n) i lt h =
    let parts = and_parts (test n) (all_below test n) h in
    below_more (λ k. test k ≡ true) n (λ k below. all_below_at test n k below parts.1) parts.0 i (omega arith)

pub all_below_from : (test : ℕ → Bool) (n : ℕ) → ((i : ℕ) → i < n → test i ≡ true) → all_below test n ≡ true
unfolding all_below
all_below_from test zero h = refl
all_below_from test (suc n) h = rw (h n (omega arith), all_below_from test n (λ i lt. h i (omega arith))) refl

-- what passes the test is a tree
pub tree_from : (parents : List ℕ) → is_tree parents ≡ true → IsTypeTree parents
unfolding is_tree is_below
tree_from parents h =
    let a = and_parts _ _ h in
    let b = and_parts _ _ a.1 in
    let c = and_parts _ _ b.1 in
    record {
      has_object = ltb-true 0 (length parents) a.0;
      object_on_top = eqb-true (slice_index parents 0) 0 b.0;
      parents_known = λ k d lt. ltb-true _ _ (AllPass-from_list_all (λ parent. nat_lt parent (length parents)) parents c.0 k d lt);
      below_object = λ type lt. below_from_within parents (length parents) type 0 (all_below_at (λ t. is_below parents t 0) (length parents) type lt c.1);
    }

-- and a tree passes the test
pub tree_tested : (parents : List ℕ) → IsTypeTree parents → is_tree parents ≡ true
unfolding is_tree is_below
tree_tested parents tree =
    let known : list_all (λ parent. nat_lt parent (length parents)) parents ≡ true =
    list_all-from_AllPass (λ parent. nat_lt parent (length parents)) parents (λ k d lt. lt-ltb _ _ (tree.parents_known k d lt)) in
    let below : all_below (λ type. is_below parents type 0) (length parents) ≡ true =
    all_below_from (λ type. is_below parents type 0) (length parents) (λ type lt.
    within_from_below parents tree.has_object tree.object_on_top (λ i k. tree.parents_known i 0 k) type 0 lt (tree.below_object type lt) (tree.below_object type lt)) in
    rw (lt-ltb 0 (length parents) tree.has_object, eq-eqb (slice_index parents 0) 0 tree.object_on_top, known, below) refl

-- a type above itself stands so any number of times
around : (parents : List ℕ) (type steps : ℕ) → ancestor parents (suc steps) type ≡ type → (m : ℕ) → (k : ℕ) × (m ≤ k) × (ancestor parents k type ≡ type)
unfolding ancestor
around parents type steps h zero = (0, omega arith, refl)
around parents type steps h (suc m) =
    let found = around parents type steps h m in
    let k = found.0 in
    let le : m ≤ k = found.1 in
    (k + suc steps, omega arith, sym (ancestor-add parents (suc steps) k type) ∙ ap (ancestor parents (suc steps)) found.2 ∙ h)

-- in a tree no type but `object` stands above itself
pub no_cycle : (parents : List ℕ) → IsTypeTree parents → (type steps : ℕ) → type < length parents → ancestor parents (suc steps) type ≡ type → type ≡ 0
no_cycle parents tree type steps lt h =
    let below = tree.below_object type lt in
    let n = below.0 in
    let far = around parents type steps h n in
    let k = far.0 in
    let le : n ≤ k = far.1 in
    let parts : n + (k - n) ≡ k = omega arith in
    sym far.2 ∙ ap (λ j. ancestor parents j type) (sym parts) ∙ sym (ancestor-add parents (k - n) n type) ∙ ap (ancestor parents (k - n)) below.1
    ∙ ancestor-object parents tree.has_object tree.object_on_top (λ i known. tree.parents_known i 0 known) (k - n)

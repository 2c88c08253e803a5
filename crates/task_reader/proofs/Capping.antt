-- A product that is kept only up to one more than the limit passes the limit as the product does.

use Rattle.std.proofs.Common.{◌≡◌, ℕ, zero, suc, ◌+◌, ◌*◌, ◌-◌, ◌<◌, ◌≤◌, min, List, [], ◌∷◌, ◌++◌, refl, sym, ap, ◌∙◌, length, map, drop, get_or, arith, Bool, true, false, cond, nat_lt, ◌^◌, Option, None, Some}
use Rattle.std.proofs.lemmas.Bool.{lt-ltb, ltb-true, le-ltb, ltb-false, ltb_from_iff}
use Rattle.std.specs.Option.{option_map}
use Rattle.std.proofs.lemmas.List.{map-append}
use Rattle.std.proofs.lemmas.List.Sums.{fold-append}
use Rattle.formulas.specs.declared.variables.VariableGroup.{VariableGroup}
use Rattle.formulas.specs.Variables.{variable_types}
use Rattle.strips_task.specs.declared.tasks.TaskParts.{TaskParts}
use Rattle.task_reader.specs.Bindings.{added, choices_for, first_past, in_64_bits, most_bindings, times}
use Rattle.task_reader.specs.Capped.{capped, past_in_group, repeated}
use Rattle.task_reader.specs.Objects.{object_count}
use Rattle.task_reader.proofs.Lists.{left, map_same}

-- what is capped is at most one more than the limit
pub capped_bound : (n : ℕ) → capped n ≤ 16777217
unfolding capped
capped_bound n = omega arith

-- a small number stays
pub capped_small : (n : ℕ) → n ≤ 16777217 → capped n ≡ n
unfolding capped
capped_small n le = omega (arith, le)

-- one more factor
pub capped_product : (p count : ℕ) → capped (capped p * count) ≡ capped (p * count)
unfolding capped
capped_product p zero = omega arith
capped_product p (suc count) = by (nat_lt p 16777217) refl
  where
    by : (b : Bool) → nat_lt p 16777217 ≡ b → min (min p 16777217 * suc count) 16777217 ≡ min (p * suc count) 16777217
    by true e =
        let low : p < 16777217 = ltb-true p 16777217 e in
        let same : min p 16777217 ≡ p = omega (arith, low) in
        ap (λ m. min (m * suc count) 16777217) same
    by false e =
        let high : 16777217 ≤ p = ltb-false p 16777217 e in
        let same : min p 16777217 ≡ 16777217 = omega (arith, high) in
        ap (λ m. min (m * suc count) 16777217) same ∙ (let both : min (16777217 * suc count) 16777217 ≡ min (p * suc count) 16777217 = omega (arith, high) in both)

-- more factors
pub capped_times : (counts : List ℕ) (p : ℕ) → capped (times (capped p) counts) ≡ capped (times p counts)
capped_times [] p = capped_product_one p
  where
    capped_product_one : (p : ℕ) → capped (capped p) ≡ capped p
    capped_product_one p = capped_small (capped p) (capped_bound p)
capped_times (count ∷ counts) p =
    sym (capped_times counts (capped p * count)) ∙ ap (λ n. capped (times n counts)) (capped_product p count) ∙ capped_times counts (p * count)

-- the variables of one group, and then those of the others
module _ (task : TaskParts) where
  pub choices_next : (groups : List VariableGroup) (i : ℕ) (group : VariableGroup) → i < length groups → group ≡ get_or groups i group
      → choices_for task (drop i groups) ≡ repeated (length group.names) (object_count task group.types) ++ choices_for task (drop (i + 1) groups)
  choices_next groups i group lt is =
      ap (choices_for task) (left groups i group lt is)
      ∙ map-append (object_count task) (map (λ name. group.types) group.names) (variable_types (drop (i + 1) groups))
      ∙ ap (λ counts. counts ++ choices_for task (drop (i + 1) groups)) (map_same group.types (object_count task) group.names)

-- a product over two lists
pub times_append : (p : ℕ) (counts others : List ℕ) → times p (counts ++ others) ≡ times (times p counts) others
times_append p counts others = fold-append (λ product count. product * count) p counts others

-- two sums are both above the limit or both not
lt_same : (a b c : ℕ) → (a < b → a < c) → (a < c → a < b) → nat_lt a b ≡ nat_lt a c
lt_same a b c there back = ltb_from_iff (λ h. there (ltb-true a b h), λ h. lt-ltb a b (back h))

-- equal but for the cap
pub same_capped : (counted m n : ℕ) → capped m ≡ capped n → nat_lt most_bindings (counted + m) ≡ nat_lt most_bindings (counted + n)
unfolding capped
same_capped counted m n same = lt_same most_bindings (counted + m) (counted + n) (λ h. omega (arith, same, h)) (λ h. omega (arith, same, h))

-- equal but for the cap, and below it
pub same_below : (counted m n : ℕ) → capped m ≡ capped n → counted + n ≤ most_bindings → m ≡ n
unfolding capped
same_below counted m n same le = omega (arith, same, le)

-- the bindings of a quantifier with so many around it
pub capped_added : (counts : List ℕ) (p : ℕ) → capped (added (capped p) counts) ≡ capped (added p counts)
unfolding added
capped_added [] p = refl
capped_added (count ∷ counts) p = capped_times (count ∷ counts) p

-- what is capped once more is the same
pub capped_twice : (p : ℕ) → capped (capped p) ≡ capped p
capped_twice p = capped_small (capped p) (capped_bound p)

-- the variable at fault
pub capped_first : (counted : ℕ) (counts : List ℕ) (p : ℕ) → first_past counted (capped p) counts ≡ first_past counted p counts
unfolding first_past
capped_first counted [] p = refl
capped_first counted (count ∷ counts) p =
    let rest : first_past counted (capped p * count) counts ≡ first_past counted (p * count) counts =
    sym (capped_first counted counts (capped p * count)) ∙ ap (λ n. first_past counted n counts) (capped_product p count) ∙ capped_first counted counts (p * count) in
    ap (λ b. cond b 0 (first_past counted (capped p * count) counts + 1)) (same_capped counted (capped p * count) (p * count) (capped_product p count))
    ∙ ap (λ n. cond (nat_lt most_bindings (counted + p * count)) 0 (n + 1)) rest

-- the same within a group
pub capped_group : (counted count n p : ℕ) → past_in_group counted (capped p) count n ≡ past_in_group counted p count n
capped_group counted count zero p = refl
capped_group counted count (suc n) p =
    let rest : past_in_group counted (capped p * count) count n ≡ past_in_group counted (p * count) count n =
    sym (capped_group counted count n (capped p * count)) ∙ ap (λ m. past_in_group counted m count n) (capped_product p count) ∙ capped_group counted count n (p * count) in
    ap (λ b. cond b (Some 0) (option_map (λ i. i + 1) (past_in_group counted (capped p * count) count n)))
    (same_capped counted (capped p * count) (p * count) (capped_product p count))
    ∙ ap (λ o. cond (nat_lt most_bindings (counted + p * count)) (Some 0) (option_map (λ i. i + 1) o)) rest

-- a step in a group: not at this variable
pub group_on : (counted power count n i : ℕ) (whole : Option ℕ) → option_map (λ more. i + more) (past_in_group counted power count (n - i)) ≡ whole → i < n
    → min (counted + capped (power * count)) (2 ^ 64 - 1) ≤ 16777216
    → option_map (λ more. i + 1 + more) (past_in_group counted (capped (power * count)) count (n - (i + 1))) ≡ whole
unfolding capped
group_on counted power count n i whole is lt small =
    let split : n - i ≡ suc (n - (i + 1)) = omega (arith, lt) in
    let low : nat_lt most_bindings (counted + power * count) ≡ false = le-ltb most_bindings (counted + power * count) (omega (arith, small)) in
    ap (option_map (λ more. i + 1 + more)) (capped_group counted count (n - (i + 1)) (power * count))
    ∙ more (past_in_group counted (power * count) count (n - (i + 1)))
    ∙ sym (ap (λ b. option_map (λ more. i + more) (cond b (Some 0) (option_map (λ k. k + 1) (past_in_group counted (power * count) count (n - (i + 1)))))) low)
    ∙ sym (ap (λ m. option_map (λ more. i + more) (past_in_group counted power count m)) split)
    ∙ is
  where
    more : (o : Option ℕ) → option_map (λ more. i + 1 + more) o ≡ option_map (λ more. i + more) (option_map (λ k. k + 1) o)
    more None = refl
    more (Some k) = ap Some (let e : i + 1 + k ≡ i + (k + 1) = omega arith in e)

-- a step in a group: at this variable
pub group_here : (counted power count n i : ℕ) (whole : Option ℕ) → option_map (λ more. i + more) (past_in_group counted power count (n - i)) ≡ whole → i < n
    → 16777216 < min (counted + capped (power * count)) (2 ^ 64 - 1) → Some i ≡ whole
unfolding capped
group_here counted power count n i whole is lt large =
    let split : n - i ≡ suc (n - (i + 1)) = omega (arith, lt) in
    let high : nat_lt most_bindings (counted + power * count) ≡ true = lt-ltb most_bindings (counted + power * count) (omega (arith, large)) in
    ap Some (let e : i ≡ i + 0 = omega arith in e)
    ∙ sym (ap (λ b. option_map (λ more. i + more) (cond b (Some 0) (option_map (λ k. k + 1) (past_in_group counted (power * count) count (n - (i + 1)))))) high)
    ∙ sym (ap (λ m. option_map (λ more. i + more) (past_in_group counted power count m)) split)
    ∙ is

-- the variable at fault is in a group, or after it
past_group : Option ℕ → ℕ → ℕ
past_group None after = after
past_group (Some index) after = index

group_first : (counted count n p : ℕ) (others : List ℕ)
    → first_past counted p (repeated n count ++ others) ≡ past_group (past_in_group counted p count n) (n + first_past counted (times p (repeated n count)) others)
unfolding first_past past_group
group_first counted count zero p others = let e : first_past counted p others ≡ 0 + first_past counted p others = omega arith in e
group_first counted count (suc n) p others = by (group_first counted count n (p * count) others) (nat_lt most_bindings (counted + p * count))
  where
    later : (o : Option ℕ) (m : ℕ) → past_group o (n + m) + 1 ≡ past_group (option_map (λ k. k + 1) o) (suc n + m)
    later None m = omega arith
    later (Some k) m = refl

    by : first_past counted (p * count) (repeated n count ++ others)
        ≡ past_group (past_in_group counted (p * count) count n) (n + first_past counted (times (p * count) (repeated n count)) others)
        → (b : Bool) → cond b 0 (first_past counted (p * count) (repeated n count ++ others) + 1)
        ≡ past_group (cond b (Some 0) (option_map (λ k. k + 1) (past_in_group counted (p * count) count n))) (suc n + first_past counted (times (p * count) (repeated n count)) others)
    by rest true = refl
    by rest false = ap (λ m. m + 1) rest
        ∙ later (past_in_group counted (p * count) count n) (first_past counted (times (p * count) (repeated n count)) others)

pub group_past : (counted count n p index : ℕ) (others : List ℕ) → past_in_group counted p count n ≡ Some index → first_past counted p (repeated n count ++ others) ≡ index
unfolding past_group
group_past counted count n p index others is = group_first counted count n p others ∙ ap (λ o. past_group o (n + first_past counted (times p (repeated n count)) others)) is

pub group_after : (counted count n p : ℕ) (others : List ℕ) → past_in_group counted p count n ≡ None
    → first_past counted p (repeated n count ++ others) ≡ n + first_past counted (capped (times p (repeated n count))) others
unfolding past_group
group_after counted count n p others is =
    group_first counted count n p others ∙ ap (λ o. past_group o (n + first_past counted (times p (repeated n count)) others)) is
    ∙ ap (λ m. n + m) (sym (capped_first counted others (times p (repeated n count))))

-- indexes are counted one after the other
pub counted_on : (a b c : ℕ) → in_64_bits (in_64_bits (a + b) + c) ≡ in_64_bits (a + (b + c))
unfolding in_64_bits
counted_on a b c = omega arith

-- what fits stays
pub fits_64 : (a : ℕ) → a < 2 ^ 64 → in_64_bits a ≡ a
unfolding in_64_bits
fits_64 a lt = omega (arith, lt)

-- a step over a group
pub inside_next : (p count n : ℕ) (all others : List ℕ) (whole : ℕ) → all ≡ repeated n count ++ others → capped (times p all) ≡ whole
    → capped (times (capped (times p (repeated n count))) others) ≡ whole
inside_next p count n all others whole split is =
    capped_times others (times p (repeated n count)) ∙ ap capped (sym (times_append p (repeated n count) others)) ∙ ap (λ counts. capped (times p counts)) (sym split) ∙ is

-- a step within a group
pub power_next : (p count n i whole : ℕ) → i < n → capped (times p (repeated (n - i) count)) ≡ whole
    → capped (times (capped (p * count)) (repeated (n - (i + 1)) count)) ≡ whole
power_next p count n i whole lt is =
    capped_times (repeated (n - (i + 1)) count) (p * count)
    ∙ ap (λ m. capped (times p (repeated m count))) (let e : suc (n - (i + 1)) ≡ n - i = omega (arith, lt) in e)
    ∙ is

-- no variable
pub first_none : (counted p : ℕ) → first_past counted p [] ≡ 0
unfolding first_past
first_none counted p = refl

-- nothing but `Some` or `None`
pub not_some : (o : Option ℕ) → ((index : ℕ) → o ≡ Some index → ⊥) → o ≡ None
not_some None none = refl
not_some (Some index) none = absurd (none index refl)

-- without variables nothing is added
pub added_none : (task : TaskParts) (groups : List VariableGroup) (around : ℕ) → variable_types groups ≡ [] → capped (added around (choices_for task groups)) ≡ 0
unfolding added capped
added_none task groups around none = ap (λ types. capped (added around (map (object_count task) types))) none

-- with variables the product is
pub added_some : (task : TaskParts) (groups : List VariableGroup) (around : ℕ) (have : Bool) → (variable_types groups ≡ [] → have ≡ false) → have ≡ true
    → capped (added around (choices_for task groups)) ≡ capped (times around (choices_for task groups))
unfolding added
added_some task groups around have none some = by (variable_types groups) (λ e. sym some ∙ none e)
  where
    by : (types : List (List ℕ)) → (types ≡ [] → true ≡ false) → capped (added around (map (object_count task) types)) ≡ capped (times around (map (object_count task) types))
    by [] h = absurd (let clash : true ≡ false = h refl in cc)
    by (type ∷ types) h = refl

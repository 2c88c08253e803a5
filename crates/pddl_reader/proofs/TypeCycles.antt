-- Where no declared type stands under itself, the parents form a tree.

use Rattle.std.proofs.Common.{◌≡◌, ◌≢◌, ℕ, ◌<◌, ◌≤◌, ◌||◌, zero, suc, Bool, true, false, nat_eq, nat_lt, List, [], ◌∷◌, length, slice_index, All, refl, ap, sym, ◌∙◌, subst, true≢false, arith}
use Rattle.std.proofs.lemmas.Bool.{or_parts, or_left, or_right, eqb-true, eq-eqb, lt-ltb}
use Rattle.std.proofs.lemmas.List.Sums.{list_all-from_AllPass}
use Rattle.std.proofs.lemmas.Map.Steps.{length-le_from_distinct_below}
use Rattle.std.specs.List.{list_any, list_all, IsDistinct, AllByRecursion}
use Rattle.strips_task.specs.Types.{is_within, is_below}
use Rattle.pddl_reader.specs.TypeOrder.{all_below, is_tree}
use Rattle.pddl_reader.proofs.TypeTests.{all_below_from}

-- a type and those above it, so many in all
unfoldable pub chain : List ℕ → ℕ → ℕ → List ℕ
chain parents zero type = []
chain parents (suc n) type = type ∷ chain parents n (slice_index parents type)

length-chain : (parents : List ℕ) (n type : ℕ) → length (chain parents n type) ≡ n
unfolding chain
length-chain parents zero type = refl
length-chain parents (suc n) type = ap suc (length-chain parents n (slice_index parents type))

-- what stands in a chain is met by a walk of as many steps less one
within_from_chain : (parents : List ℕ) (m n type sup : ℕ) → m ≤ suc n → list_any (nat_eq sup) (chain parents m type) ≡ true →
    is_within parents n type sup ≡ true
unfolding chain is_within
within_from_chain parents zero n type sup le h = absurd (true≢false (sym h))
within_from_chain parents (suc m) n type sup le h = by (λ k few e. within_from_chain parents m k (slice_index parents type) sup few e) (nat_eq sup type) refl n le h
  where
    found : (n : ℕ) → sup ≡ type → is_within parents n type sup ≡ true
    found zero e = eq-eqb type sup (sym e)
    found (suc n) e = or_left (nat_eq type sup) (is_within parents n (slice_index parents type) sup) (eq-eqb type sup (sym e))

    further : ((k : ℕ) → m ≤ suc k → list_any (nat_eq sup) (chain parents m (slice_index parents type)) ≡ true → is_within parents k (slice_index parents type) sup ≡ true) → (n : ℕ) → suc m ≤ suc n → list_any (nat_eq sup) (chain parents m (slice_index parents type)) ≡ true → is_within parents n type sup ≡ true
    further rest zero few k = absurd (true≢false (sym (ap (λ i. list_any (nat_eq sup) (chain parents i (slice_index parents type))) (let z : 0 ≡ m = omega arith in z) ∙ k)))
    further rest (suc n) few k = or_right (nat_eq type sup) (is_within parents n (slice_index parents type) sup) (rest n (omega arith) k)

    by : ((k : ℕ) → m ≤ suc k → list_any (nat_eq sup) (chain parents m (slice_index parents type)) ≡ true → is_within parents k (slice_index parents type) sup ≡ true) → (test : Bool) → nat_eq sup type ≡ test → (n : ℕ) → suc m ≤ suc n → (nat_eq sup type || list_any (nat_eq sup) (chain parents m (slice_index parents type))) ≡ true →
        is_within parents n type sup ≡ true
    by rest true e n few k = found n (eqb-true sup type e)
    by rest false e n few k = further rest n few (sym (ap (λ b. b || list_any (nat_eq sup) (chain parents m (slice_index parents type))) e) ∙ k)

-- no item of a list is a number that the list has not
apart : (n : ℕ) (ns : List ℕ) → list_any (nat_eq n) ns ≡ false → AllByRecursion (λ k. nat_eq n k ≡ false) ns
apart n [] h = tt
apart n (k ∷ ns) h =
    let parts = or_parts (nat_eq n k) (list_any (nat_eq n) ns) h in
    (parts.0, apart n ns parts.1)

-- a chain in which nothing stands under itself has nothing twice
distinct : (parents : List ℕ) (n m type : ℕ) → m ≤ suc n →
    ((t : ℕ) → list_any (nat_eq t) (chain parents m type) ≡ true → is_within parents n (slice_index parents t) t ≡ false) → IsDistinct nat_eq (chain parents m type)
unfolding chain IsDistinct
distinct parents n zero type le free = tt
distinct parents n (suc m) type le free = (
  apart type (chain parents m (slice_index parents type)) (by (list_any (nat_eq type) (chain parents m (slice_index parents type))) refl),
  distinct parents n m (slice_index parents type) (omega arith) (λ t h. free t (or_right (nat_eq t type) (list_any (nat_eq t) (chain parents m (slice_index parents type))) h)),
)
  where
    by : (test : Bool) → list_any (nat_eq type) (chain parents m (slice_index parents type)) ≡ test → list_any (nat_eq type) (chain parents m (slice_index parents type)) ≡ false
    by false e = e
    by true e =
        let again = within_from_chain parents m n (slice_index parents type) type (omega arith) e in
        let here = free type (or_left (nat_eq type type) (list_any (nat_eq type) (chain parents m (slice_index parents type))) (eq-eqb type type refl)) in
        absurd (true≢false (sym again ∙ here))

module _ (parents : List ℕ) (some : 0 < length parents) (known : (d : ℕ) → d < length parents → slice_index parents d < length parents) where
  -- what stands in a chain above a type is the parent of a type
  is_parent : (m d t : ℕ) → d < length parents → list_any (nat_eq t) (chain parents m (slice_index parents d)) ≡ true →
      (e : ℕ) × (e < length parents) × (t ≡ slice_index parents e)
  unfolding chain
  is_parent zero d t lt h = absurd (true≢false (sym h))
  is_parent (suc m) d t lt h = by (is_parent m (slice_index parents d) t (known d lt)) (nat_eq t (slice_index parents d)) refl h
    where
      by : (list_any (nat_eq t) (chain parents m (slice_index parents (slice_index parents d))) ≡ true → (e : ℕ) × (e < length parents) × (t ≡ slice_index parents e)) →
          (test : Bool) → nat_eq t (slice_index parents d) ≡ test →
          (nat_eq t (slice_index parents d) || list_any (nat_eq t) (chain parents m (slice_index parents (slice_index parents d)))) ≡ true →
          (e : ℕ) × (e < length parents) × (t ≡ slice_index parents e)
      by rest true e k = (d, lt, eqb-true t (slice_index parents d) e)
      by rest false e k =
          rest (sym (ap (λ b. b || list_any (nat_eq t) (chain parents m (slice_index parents (slice_index parents d)))) e) ∙ k)

  -- where no parent but `object` stands under itself, each type is below `object`
  pub reaches : ((d : ℕ) → d < length parents → slice_index parents d ≢ 0 → is_within parents (length parents) (slice_index parents (slice_index parents d)) (slice_index parents d) ≡ false) →
      (type : ℕ) → type < length parents → is_within parents (length parents) type 0 ≡ true
  unfolding chain IsDistinct
  reaches free type lt = by (is_within parents (length parents) type 0) refl
    where
      none : is_within parents (length parents) type 0 ≡ false → (test : Bool) → list_any (nat_eq 0) (chain parents (length parents) (slice_index parents type)) ≡ test → list_any (nat_eq 0) (chain parents (length parents) (slice_index parents type)) ≡ false
      none e false is = is
      none e true is =
          absurd (true≢false (sym (within_from_chain parents (suc (length parents)) (length parents) type 0 (omega arith) (or_right (nat_eq 0 type) (list_any (nat_eq 0) (chain parents (length parents) (slice_index parents type))) is)) ∙ e))

      free_above : list_any (nat_eq 0) (chain parents (length parents) (slice_index parents type)) ≡ false → (t : ℕ) → list_any (nat_eq t) (chain parents (length parents) (slice_index parents type)) ≡ true → is_within parents (length parents) (slice_index parents t) t ≡ false
      free_above miss t h =
          let found = is_parent (length parents) type t lt h in
          let d : ℕ = found.0 in
          let is : t ≡ slice_index parents d = found.2 in
          let other : slice_index parents d ≢ 0 = λ z. true≢false (sym (subst (λ k. list_any (nat_eq k) (chain parents (length parents) (slice_index parents type)) ≡ true) (is ∙ z) h) ∙ miss) in
          subst (λ k. is_within parents (length parents) (slice_index parents k) k ≡ false) (sym is) (free d found.1 other)

      member : (q : ℕ) → list_any (nat_eq q) (0 ∷ (chain parents (length parents) (slice_index parents type))) ≡ true → q < length parents
      member q h = at (nat_eq q 0) refl h
        where
          at : (test : Bool) → nat_eq q 0 ≡ test → (nat_eq q 0 || list_any (nat_eq q) (chain parents (length parents) (slice_index parents type))) ≡ true → q < length parents
          at true e k = let z : q ≡ 0 = eqb-true q 0 e in omega (arith, z)
          at false e k =
              let found = is_parent (length parents) type q lt (sym (ap (λ b. b || list_any (nat_eq q) (chain parents (length parents) (slice_index parents type))) e) ∙ k) in
              let is : q ≡ slice_index parents found.0 = found.2 in
              subst (λ t. t < length parents) (sym is) (known found.0 found.1)

      by : (test : Bool) → is_within parents (length parents) type 0 ≡ test → is_within parents (length parents) type 0 ≡ true
      by true e = e
      by false e =
          let miss = none e (list_any (nat_eq 0) (chain parents (length parents) (slice_index parents type))) refl in
          let once : IsDistinct nat_eq (0 ∷ (chain parents (length parents) (slice_index parents type))) =
          (apart 0 (chain parents (length parents) (slice_index parents type)) miss, distinct parents (length parents) (length parents) (slice_index parents type) (omega arith) (free_above miss)) in
          let few : length (0 ∷ (chain parents (length parents) (slice_index parents type))) ≤ length parents = length-le_from_distinct_below (0 ∷ (chain parents (length parents) (slice_index parents type))) (length parents) once member in
          let long : length (0 ∷ (chain parents (length parents) (slice_index parents type))) ≡ suc (length parents) = ap suc (length-chain parents (length parents) (slice_index parents type)) in
          absurd (omega (arith, few, long))

-- so the parents form a tree
pub tree_without_cycles : (parents : List ℕ) → 0 < length parents → slice_index parents 0 ≡ 0 →
    All (λ parent. parent < length parents) parents → ((d : ℕ) → d < length parents → slice_index parents d ≢ 0 →
    is_within parents (length parents) (slice_index parents (slice_index parents d)) (slice_index parents d) ≡ false) →
    is_tree parents ≡ true
unfolding is_tree is_below
tree_without_cycles parents some top known free =
    let all : list_all (λ parent. nat_lt parent (length parents)) parents ≡ true =
    list_all-from_AllPass (λ parent. nat_lt parent (length parents)) parents (λ k d lt. lt-ltb _ _ (known k d lt)) in
    let below : all_below (λ type. is_below parents type 0) (length parents) ≡ true =
    all_below_from (λ type. is_below parents type 0) (length parents) (reaches parents some (λ d lt. known d 0 lt) free) in
    rw (lt-ltb 0 (length parents) some, eq-eqb (slice_index parents 0) 0 top, all, below) refl

-- In a tree of types a chain of parents is no longer than there are types, so a bounded walk decides the order.

use Rattle.std.proofs.Common.{◌≡◌, ℕ, ◌+◌, ◌-◌, ◌<◌, ◌≤◌, zero, suc, Bool, true, false, cond, ◌||◌, ◌&&◌, nat_eq, List, [], ◌∷◌, length, refl, ap, sym, ◌∙◌, subst, arith, slice_index, true≢false, ◌⊎◌, inl, inr, zero-add, below_more}
use Rattle.std.proofs.lemmas.Bool.{eqb-true, eq-eqb, cases_lt}
use Rattle.std.specs.List.{list_any}
use Rattle.strips_task.specs.Types.{ancestor, IsBelow, is_within, is_below, fits}

module _ (parents : List ℕ) where
  -- a step up from behind
  pub ancestor-step : (n type : ℕ) → ancestor parents (suc n) type ≡ slice_index parents (ancestor parents n type)
  unfolding ancestor
  ancestor-step zero type = refl
  ancestor-step (suc n) type = ancestor-step n (slice_index parents type)

  -- steps up after steps up
  pub ancestor-add : (m n type : ℕ) → ancestor parents m (ancestor parents n type) ≡ ancestor parents (n + m) type
  unfolding ancestor
  ancestor-add m zero type = ap (λ k. ancestor parents k type) (sym (zero-add m))
  ancestor-add m (suc n) type =
      ancestor-add m n (slice_index parents type)
      ∙ ap (λ k. ancestor parents k type) (let e : suc (n + m) ≡ suc n + m = omega arith in e)

  -- what stands within a number of steps is some steps up
  pub below_from_within : (n sub sup : ℕ) → is_within parents n sub sup ≡ true → IsBelow parents sub sup
  unfolding ancestor is_within
  below_from_within zero sub sup h = (0, eqb-true sub sup h)
  below_from_within (suc n) sub sup h =
      by (nat_eq sub sup) refl (below_from_within n (slice_index parents sub) sup)
    where
      by : (b : Bool) → nat_eq sub sup ≡ b → (is_within parents n (slice_index parents sub) sup ≡ true → IsBelow parents (slice_index parents sub) sup)
          → IsBelow parents sub sup
      by true e up = (0, eqb-true sub sup e)
      by false e up =
          let above = up (sym (ap (λ c. c || is_within parents n (slice_index parents sub) sup) e) ∙ h) in
          (suc above.0, above.1)

  -- and the other way round, for a number of steps that is large enough
  pub within_from_steps : (n k sub sup : ℕ) → k ≤ n → ancestor parents k sub ≡ sup → is_within parents n sub sup ≡ true
  unfolding ancestor is_within
  within_from_steps zero zero sub sup h e = eq-eqb sub sup e
  within_from_steps zero (suc k) sub sup h e = absurd (omega arith)
  within_from_steps (suc n) zero sub sup h e = ap (λ c. c || is_within parents n (slice_index parents sub) sup) (eq-eqb sub sup e)
  within_from_steps (suc n) (suc k) sub sup h e =
      by (nat_eq sub sup) (within_from_steps n k (slice_index parents sub) sup (let l : suc k ≤ suc n = h in omega arith) e)
    where
      by : (b : Bool) → is_within parents n (slice_index parents sub) sup ≡ true → (b || is_within parents n (slice_index parents sub) sup) ≡ true
      by true rest = refl
      by false rest = rest

  -- a type is within any number of steps of itself
  pub below_itself : (n sub sup : ℕ) → sub ≡ sup → is_within parents n sub sup ≡ true
  unfolding ancestor
  below_itself n sub sup same = within_from_steps n 0 sub sup (omega arith) same

  -- so an object of some type fits where that is the first of those that are asked for
  pub first_fits : (types : List ℕ) (own : ℕ) → 1 ≤ length types → slice_index types 0 ≡ own → fits parents (own ∷ []) types ≡ true
  unfolding fits is_below
  first_fits [] own some same = absurd (omega arith)
  first_fits (type ∷ types) own some same =
      ap (λ b. (b || list_any (is_below parents own) types) && true) (below_itself (length parents) own type (sym same))

-- how many numbers below a bound pass a test
count : (ℕ → Bool) → ℕ → ℕ
count p zero = 0
count p (suc n) = cond (p n) 1 0 + count p n

count-le : (p : ℕ → Bool) (n : ℕ) → count p n ≤ n
unfolding count
count-le p zero = omega arith
count-le p (suc n) = by (p n) (count-le p n)
  where
    by : (b : Bool) → count p n ≤ n → cond b 1 0 + count p n ≤ suc n
    by true rest = omega arith
    by false rest = omega arith

count_some : (p : ℕ → Bool) (n i : ℕ) → i < n → p i ≡ true → 1 ≤ count p n
unfolding count
count_some p zero i lt e = absurd (omega arith)
count_some p (suc n) i lt e = by (p n) refl (count_some p n i)
  where
    by : (b : Bool) → p n ≡ b → (i < n → p i ≡ true → 1 ≤ count p n) → 1 ≤ cond b 1 0 + count p n
    by true is rest = omega arith
    by false is rest =
        let apart : i ≡ n → ⊥ = λ same. true≢false (sym e ∙ ap p same ∙ is) in
        let below : i < n = omega (arith, apart) in
        omega (arith, rest below e)

count-mono : (p q : ℕ → Bool) (n : ℕ) → ((i : ℕ) → i < n → p i ≡ true → q i ≡ true) → count p n ≤ count q n
unfolding count
count-mono p q zero h = omega arith
count-mono p q (suc n) h = by (p n) (q n) refl refl (count-mono p q n (λ i lt. h i (omega arith)))
  where
    by : (b c : Bool) → p n ≡ b → q n ≡ c → count p n ≤ count q n → cond b 1 0 + count p n ≤ cond c 1 0 + count q n
    by false false is was rest = omega arith
    by false true is was rest = omega arith
    by true true is was rest = omega arith
    by true false is was rest = absurd (true≢false (sym (h n (omega arith) is) ∙ was))

-- a number more that passes makes one more
count_more : (p q : ℕ → Bool) (n : ℕ) → ((i : ℕ) → i < n → p i ≡ true → q i ≡ true)
    → (i : ℕ) → i < n → q i ≡ true → p i ≡ false → count p n + 1 ≤ count q n
unfolding count
count_more p q zero h i lt new old = absurd (omega arith)
count_more p q (suc n) h i lt new old =
    by (p n) (q n) refl refl (count-mono p q n (λ k below. h k (omega arith))) (count_more p q n (λ k below. h k (omega arith)) i)
  where
    by : (b c : Bool) → p n ≡ b → q n ≡ c → count p n ≤ count q n → (i < n → q i ≡ true → p i ≡ false → count p n + 1 ≤ count q n)
        → (cond b 1 0 + count p n) + 1 ≤ cond c 1 0 + count q n
    by false true is was all rest = omega arith
    by false false is was all rest =
        let apart : i ≡ n → ⊥ = λ same. true≢false (sym new ∙ ap q same ∙ was) in
        let below : i < n = omega (arith, apart) in
        omega (arith, rest below new old)
    by true true is was all rest =
        let apart : i ≡ n → ⊥ = λ same. true≢false (sym is ∙ ap p (sym same) ∙ old) in
        let below : i < n = omega (arith, apart) in
        omega (arith, rest below new old)
    by true false is was all rest = absurd (true≢false (sym (h n (omega arith) is) ∙ was))

-- one test passes where the other does, or there is a number at which it does not
same_or_new : (p q : ℕ → Bool) (n : ℕ)
    → ((i : ℕ) → i < n → q i ≡ true → p i ≡ true) ⊎ ((i : ℕ) × (i < n) × (q i ≡ true) × (p i ≡ false))
same_or_new p q zero = inl (λ i lt. absurd (omega arith))
same_or_new p q (suc n) = by (p n) (q n) refl refl (same_or_new p q n)
  where
    by : (b c : Bool) → p n ≡ b → q n ≡ c
        → ((i : ℕ) → i < n → q i ≡ true → p i ≡ true) ⊎ ((i : ℕ) × (i < n) × (q i ≡ true) × (p i ≡ false))
        → ((i : ℕ) → i < suc n → q i ≡ true → p i ≡ true) ⊎ ((i : ℕ) × (i < suc n) × (q i ≡ true) × (p i ≡ false))
    by b c is was (inr new) = inr (new.0, omega arith, new.2, new.3)
    by false true is was (inl all) = inr (n, omega arith, was, is)
    by true c is was (inl all) = inl (λ i lt. below_more (λ i. q i ≡ true → p i ≡ true) n all (λ _. is) i (omega arith))
    by false false is was (inl all) = inl (λ i lt. below_more (λ i. q i ≡ true → p i ≡ true) n all (λ e. absurd (true≢false (sym e ∙ was))) i (omega arith))

module _ (parents : List ℕ) (has_object : 0 < length parents) (top : slice_index parents 0 ≡ 0)
    (known : (i : ℕ) → i < length parents → slice_index parents i < length parents) where
  -- whether so many steps up stands `object`
  abbrev at_top : ℕ → ℕ → Bool
  at_top m i = nat_eq (ancestor parents m i) 0

  -- above `object` stands `object`
  pub ancestor-object : (n : ℕ) → ancestor parents n 0 ≡ 0
  unfolding ancestor
  ancestor-object zero = refl
  ancestor-object (suc n) = ap (ancestor parents n) top ∙ ancestor-object n

  -- whoever reaches `object` in some steps does so in one more
  stays_up : (m i : ℕ) → ancestor parents m i ≡ 0 → ancestor parents (suc m) i ≡ 0
  stays_up m i e = ancestor-step parents m i ∙ ap (slice_index parents) e ∙ top

  -- no type reaches `object` in one step more that does not reach it in so many
  abbrev IsSettled : ℕ → Type 0
  IsSettled m = (i : ℕ) → i < length parents → ancestor parents (suc m) i ≡ 0 → ancestor parents m i ≡ 0

  settled_stays : (m : ℕ) → IsSettled m → IsSettled (suc m)
  unfolding ancestor
  settled_stays m settled i lt e = settled (slice_index parents i) (known i lt) e

  -- with each step up more types have reached `object`, until it is settled which do
  grows : (m : ℕ) → IsSettled m ⊎ (suc m ≤ count (at_top m) (length parents))
  unfolding ancestor
  grows zero = inr (count_some (at_top 0) (length parents) 0 has_object refl)
  grows (suc m) = by (grows m) (same_or_new (at_top m) (at_top (suc m)) (length parents))
    where
      by : IsSettled m ⊎ (suc m ≤ count (at_top m) (length parents))
          → ((i : ℕ) → i < length parents → at_top (suc m) i ≡ true → at_top m i ≡ true)
          ⊎ ((i : ℕ) × (i < length parents) × (at_top (suc m) i ≡ true) × (at_top m i ≡ false))
          → IsSettled (suc m) ⊎ (suc (suc m) ≤ count (at_top (suc m)) (length parents))
      by (inl settled) _ = inl (settled_stays m settled)
      by (inr many) (inl same) =
          inl (settled_stays m (λ i lt e. eqb-true (ancestor parents m i) 0 (same i lt (eq-eqb (ancestor parents (suc m) i) 0 e))))
      by (inr many) (inr new) =
          let more = count_more (at_top m) (at_top (suc m)) (length parents)
          (λ i lt e. eq-eqb (ancestor parents (suc m) i) 0 (stays_up m i (eqb-true (ancestor parents m i) 0 e)))
          new.0 new.1 new.2 new.3 in
          inr (omega (arith, more))

  -- after as many steps as there are types it is settled
  settled_at_length : IsSettled (length parents)
  settled_at_length = by (grows (length parents))
    where
      by : IsSettled (length parents) ⊎ (suc (length parents) ≤ count (at_top (length parents)) (length parents)) → IsSettled (length parents)
      by (inl settled) = settled
      by (inr many) = absurd (omega (arith, count-le (at_top (length parents)) (length parents)))

  settled_above : (j : ℕ) → IsSettled (length parents + j)
  settled_above zero = subst IsSettled (let e : length parents ≡ length parents + 0 = omega arith in e) settled_at_length
  settled_above (suc j) = subst IsSettled (let e : suc (length parents + j) ≡ length parents + suc j = omega arith in e) (settled_stays (length parents + j) (settled_above j))

  -- what reaches `object` in some steps beyond that number reaches it in that number
  comes_down : (j i : ℕ) → i < length parents → ancestor parents (length parents + j) i ≡ 0 → ancestor parents (length parents) i ≡ 0
  comes_down zero i lt e = ap (λ k. ancestor parents k i) (let z : length parents ≡ length parents + 0 = omega arith in z) ∙ e
  comes_down (suc j) i lt e =
      comes_down j i lt (settled_above j i lt (ap (λ k. ancestor parents k i) (let z : suc (length parents + j) ≡ length parents + suc j = omega arith in z) ∙ e))

  -- a type below `object` reaches it in as many steps as there are types
  pub climbs : (i : ℕ) → i < length parents → IsBelow parents i 0 → ancestor parents (length parents) i ≡ 0
  climbs i lt below = by (cases_lt (length parents) below.0)
    where
      by : (length parents < below.0) ⊎ (below.0 ≤ length parents) → ancestor parents (length parents) i ≡ 0
      by (inr few) =
          ap (λ k. ancestor parents k i) (let z : length parents ≡ below.0 + (length parents - below.0) = omega arith in z)
          ∙ sym (ancestor-add parents (length parents - below.0) below.0 i)
          ∙ ap (ancestor parents (length parents - below.0)) below.1
          ∙ ancestor-object (length parents - below.0)
      by (inl many) =
          comes_down (below.0 - length parents) i lt
          (ap (λ k. ancestor parents k i) (let z : length parents + (below.0 - length parents) ≡ below.0 = omega arith in z) ∙ below.1)

  -- so the bounded walk finds every type above one that is below `object`
  pub within_from_below : (i sup : ℕ) → i < length parents → IsBelow parents i 0 → IsBelow parents i sup → is_within parents (length parents) i sup ≡ true
  within_from_below i sup lt below up = by (cases_lt (length parents) up.0)
    where
      by : (length parents < up.0) ⊎ (up.0 ≤ length parents) → is_within parents (length parents) i sup ≡ true
      by (inr few) = within_from_steps parents (length parents) up.0 i sup few up.1
      by (inl many) =
          let e : ancestor parents (length parents) i ≡ sup =
          climbs i lt below
          ∙ sym (ancestor-object (up.0 - length parents))
          ∙ ap (ancestor parents (up.0 - length parents)) (sym (climbs i lt below))
          ∙ ancestor-add parents (up.0 - length parents) (length parents) i
          ∙ ap (λ k. ancestor parents k i) (let z : length parents + (up.0 - length parents) ≡ up.0 = omega arith in z)
          ∙ up.1 in
          within_from_steps parents (length parents) (length parents) i sup (omega arith) e

-- A list that is kept as numbers of distinct items: how it grows, and what stands at an index.

use Rattle.std.proofs.Common.{◌≡◌, ℕ, ◌<◌, ◌≤◌, zero, suc, Bool, true, false, List, [], ◌∷◌, ◌++◌, length, refl, ap, sym, ◌∙◌, arith, slice_get, All, Some, get_or, if◌then◌else◌, append-nil, length-append}
use Rattle.std.specs.List.{filter_map, cons_option, list_any}
use Rattle.std.proofs.lemmas.List.Elements.{filter_map-append, All-push}
use Rattle.indexmap.specs.IndexSet.{insert_key}

-- all numbers but the first are within, too
all_tail : (m n : ℕ) (ns : List ℕ) → All (λ k. k < m) (n ∷ ns) → All (λ k. k < m) ns
all_tail m n ns h = λ k d lt. h (suc k) d (omega arith)

all_head : (m n : ℕ) (ns : List ℕ) → All (λ k. k < m) (n ∷ ns) → n < m
all_head m n ns h = h 0 0 (omega arith)

module _ {A : Type 0} where
  -- an item stands at each index of a list
  pub item_within : (ks : List A) (n : ℕ) → n < length ks → (x : A) × (slice_get ks n ≡ Some x)
  item_within [] n h = absurd (omega arith)
  item_within (x ∷ xs) zero h = (x, refl)
  item_within (x ∷ xs) (suc n) h = item_within xs n (let k : suc n < suc (length xs) = h in omega arith)

  -- the first number's item goes first
  cons_shown : (ks : List A) (n : ℕ) (ns : List ℕ) (x : A) → slice_get ks n ≡ Some x
      → filter_map (slice_get ks) (n ∷ ns) ≡ x ∷ filter_map (slice_get ks) ns
  cons_shown ks n ns x at = ap (λ o. cons_option o (filter_map (slice_get ks) ns)) at

  -- there are as many items as numbers
  pub length-shown : (ks : List A) (ns : List ℕ) → All (λ n. n < length ks) ns → length (filter_map (slice_get ks) ns) ≡ length ns
  length-shown ks [] h = refl
  length-shown ks (n ∷ ns) h =
      let at = item_within ks n (all_head (length ks) n ns h) in
      ap length (cons_shown ks n ns at.0 at.1) ∙ ap suc (length-shown ks ns (all_tail (length ks) n ns h))

  -- at each index stands the item that is numbered there
  pub slice_get-shown : (ks : List A) (ns : List ℕ) → All (λ n. n < length ks) ns → (i d : ℕ) → i < length ns
      → slice_get (filter_map (slice_get ks) ns) i ≡ slice_get ks (get_or ns i d)
  slice_get-shown ks [] h i d lt = absurd (omega arith)
  slice_get-shown ks (n ∷ ns) h zero d lt =
      let at = item_within ks n (all_head (length ks) n ns h) in
      ap (λ l. slice_get l 0) (cons_shown ks n ns at.0 at.1) ∙ sym at.1
  slice_get-shown ks (n ∷ ns) h (suc i) d lt =
      let at = item_within ks n (all_head (length ks) n ns h) in
      ap (λ l. slice_get l (suc i)) (cons_shown ks n ns at.0 at.1)
      ∙ slice_get-shown ks ns (all_tail (length ks) n ns h) i d (let k : suc i < suc (length ns) = lt in omega arith)

  -- an item stands behind those before it
  pub at_end : (xs : List A) (last : A) → slice_get (xs ++ last ∷ []) (length xs) ≡ Some last
  at_end [] last = refl
  at_end (x ∷ xs) last = at_end xs last

  -- an item keeps its number when others come behind it
  pub slice_get-more : (ks zs : List A) (n : ℕ) → n < length ks → slice_get (ks ++ zs) n ≡ slice_get ks n
  slice_get-more [] zs n h = absurd (omega arith)
  slice_get-more (x ∷ xs) zs zero h = refl
  slice_get-more (x ∷ xs) zs (suc n) h = slice_get-more xs zs n (let k : suc n < suc (length xs) = h in omega arith)

  -- and so a numbered list stays as it is
  pub shown-more : (ks zs : List A) (ns : List ℕ) → All (λ n. n < length ks) ns
      → filter_map (slice_get (ks ++ zs)) ns ≡ filter_map (slice_get ks) ns
  shown-more ks zs [] h = refl
  shown-more ks zs (n ∷ ns) h =
      (λ j. cons_option (slice_get-more ks zs n (all_head (length ks) n ns h) j) (shown-more ks zs ns (all_tail (length ks) n ns h) j))

  -- an insertion adds at the end, or nothing
  insert_adds : (eq : A → A → Bool) (ks : List A) (z : A) → (zs : List A) × (insert_key eq ks z ≡ ks ++ zs)
  insert_adds eq ks z = by (list_any (eq z) ks) refl
    where
      by : (b : Bool) → list_any (eq z) ks ≡ b → (zs : List A) × (insert_key eq ks z ≡ ks ++ zs)
      by true e = ([], ap (λ c. if c then ks else ks ++ z ∷ []) e ∙ sym (append-nil ks))
      by false e = (z ∷ [], ap (λ c. if c then ks else ks ++ z ∷ []) e)

  -- one more item: its number goes last, and the list of items grows by it
  pub shown-insert : (eq : A → A → Bool) (ks : List A) (ns : List ℕ) (z : A) (new : List A) (n : ℕ)
      → All (λ k. k < length ks) ns → new ≡ insert_key eq ks z → slice_get new n ≡ Some z
      → filter_map (slice_get new) (ns ++ n ∷ []) ≡ filter_map (slice_get ks) ns ++ z ∷ []
  shown-insert eq ks ns z new n h is at =
      let more = insert_adds eq ks z in
      filter_map-append (slice_get new) ns (n ∷ [])
      ∙ (λ j. filter_map (slice_get ((is ∙ more.1) j)) ns ++ filter_map (slice_get new) (n ∷ []))
      ∙ (λ j. shown-more ks more.0 ns h j ++ cons_option (at j) [])

  -- and all numbers are within
  pub all_within-insert : (eq : A → A → Bool) (ks : List A) (ns : List ℕ) (z : A) (new : List A) (n : ℕ)
      → All (λ k. k < length ks) ns → new ≡ insert_key eq ks z → n < length new
      → All (λ k. k < length new) (ns ++ n ∷ [])
  all_within-insert eq ks ns z new n h is lt =
      let more = insert_adds eq ks z in
      let grows : length ks ≤ length new = omega (arith, ap length (is ∙ more.1), length-append ks more.0) in
      All-push (λ k. k < length new) ns n (λ k d within. let old : get_or ns k d < length ks = h k d within in omega arith) lt

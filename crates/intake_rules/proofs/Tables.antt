-- Lists that have at each index the value of a function at the index.

use Rattle.std.proofs.Common.{◌≡◌, ℕ, ◌<◌, zero, suc, [], ◌∷◌, ◌++◌, Some, length, map, slice_get, get_or, set, replicate, refl, ap, sym, ◌∙◌, arith, inl, inr}
use Rattle.std.proofs.lemmas.Bool.{cases_lt, cases_eq}
use Rattle.std.proofs.lemmas.List.{length_push, length-map, length-set, map_push, get_or_append_left, get_or_at, get_or-set_same, get_or-set_other, get_or-replicate, length-replicate, same_lists}
use Rattle.std.proofs.lemmas.Option.{slice_get-get_or}
use Rattle.intake_rules.specs.History.{below}

pub length-below : (n : ℕ) → length (below n) ≡ n
unfolding below
length-below zero = refl
length-below (suc n) = let last = length_push (below n) n in let rest = length-below n in omega arith

module _ {A : Type 0} (f : ℕ → A) where
  pub length-table : (n : ℕ) → length (map f (below n)) ≡ n
  length-table n = length-map (below n) f ∙ length-below n

  pub table_more : (n : ℕ) → map f (below (suc n)) ≡ map f (below n) ++ f n ∷ []
  unfolding below
  table_more n = map_push f (below n) n

  pub get_or-table : (n i : ℕ) (d : A) → i < n → get_or (map f (below n)) i d ≡ f i
  get_or-table zero i d h = absurd (omega arith)
  get_or-table (suc n) i d h = elim (cases_lt i n) [
    | inl less ↦
        ap (λ xs. get_or xs i d) (table_more n)
        ∙ get_or_append_left (map f (below n)) (f n ∷ []) d i (let long = length-table n in omega arith)
        ∙ get_or-table n i d less
    | inr more ↦
        let same : n ≡ i = omega arith in
        ap (λ xs. get_or xs i d) (table_more n)
        ∙ get_or_at (map f (below n)) (f n) [] d i (length-table n ∙ same)
        ∙ ap f same
  ]

  pub slice_get-table : (n i : ℕ) → i < n → slice_get (map f (below n)) i ≡ Some (f i)
  slice_get-table n i h =
      let long = length-table n in
      slice_get-get_or (map f (below n)) i (f i) (omega arith) ∙ ap Some (get_or-table n i (f i) h)

-- two functions that agree below n have the same list
pub table_same : {A : Type 0} (f g : ℕ → A) (n : ℕ) → ((i : ℕ) → i < n → g i ≡ f i) → map g (below n) ≡ map f (below n)
table_same f g n agree =
    same_lists (map g (below n)) (map f (below n)) (length-table g n ∙ sym (length-table f n))
    λ k d h. let within : k < n = (let long = length-table g n in omega arith) in
    get_or-table g n k d within ∙ agree k within ∙ sym (get_or-table f n k d within)

-- a function that differs from another at one index alone has the other's list with that index written
pub table_set : {A : Type 0} (f g : ℕ → A) (n i : ℕ) (v : A) → g i ≡ v → ((k : ℕ) → (k ≡ i → ⊥) → g k ≡ f k) → map g (below n) ≡ set (map f (below n)) i v
table_set {A} f g n i v here others =
    same_lists (map g (below n)) (set (map f (below n)) i v)
    (length-table g n ∙ sym (length-set (map f (below n)) i v ∙ length-table f n))
    each
  where
    each : (k : ℕ) (d : A) → k < length (map g (below n)) → get_or (map g (below n)) k d ≡ get_or (set (map f (below n)) i v) k d
    each k d h =
        let within : k < n = (let long = length-table g n in omega arith) in
        elim (cases_eq k i) [
          | inl same ↦
              get_or-table g n k d within ∙ ap g same ∙ here
              ∙ sym (ap (λ j. get_or (set (map f (below n)) i v) j d) same ∙ get_or-set_same (map f (below n)) i v d (let long = length-table f n in omega arith))
          | inr apart ↦
              get_or-table g n k d within ∙ others k apart
              ∙ sym (get_or-set_other (map f (below n)) i k v d apart ∙ get_or-table f n k d within)
        ]

-- the list of a function with one value
pub table_replicate : {A : Type 0} (f : ℕ → A) (v : A) (n : ℕ) → ((i : ℕ) → f i ≡ v) → map f (below n) ≡ replicate n v
table_replicate f v n all =
    same_lists (map f (below n)) (replicate n v) (length-table f n ∙ sym (length-replicate n v))
    λ k d h. let within : k < n = (let long = length-table f n in omega arith) in
    get_or-table f n k d within ∙ all k ∙ sym (get_or-replicate n k v d within)

-- What a table holds under a name.

use Rattle.std.proofs.Common.{◌≡◌, ℕ, ◌+◌, ◌<◌, ◌≤◌, zero, suc, Bool, true, false, cond, List, [], ◌∷◌, length, Option, Some, None, refl, arith}
use Rattle.std.proofs.lemmas.List.{length-map}
use Rattle.std.specs.List.{position_from, slice_get}
use Rattle.std.specs.Map.{keys_of, values_of}
use Rattle.std.specs.Str.{bytes_eq}
use Rattle.strips_task.specs.Names.{number_named}
use Rattle.pddl_reader.specs.Tables.{value_at, value_named}

-- an index that is found is one of the list
pub position-within : {A : Type 0} (test : A → Bool) (xs : List A) (i n : ℕ) → position_from test i xs ≡ Some n → n < i + length xs
position-within test [] i n h = cc
position-within {A} test (x ∷ xs) i n h = by (test x) (λ k. position-within test xs (i + 1) n k) h
  where
    by : (b : Bool) → (position_from test (i + 1) xs ≡ Some n → n < i + 1 + length xs) → cond b (Some i) (position_from test (i + 1) xs) ≡ Some n →
        n < i + length (x ∷ xs)
    by true rest e = let same : i ≡ n = cc in omega arith
    by false rest e = let lt : n < i + 1 + length xs = rest e in omega arith

-- an item stands at each index of a list
no_item : {A : Type 0} (xs : List A) (n : ℕ) → slice_get xs n ≡ None → length xs ≤ n
no_item [] n h = omega arith
no_item (x ∷ xs) zero h = cc
no_item (x ∷ xs) (suc n) h = let le : length xs ≤ n = no_item xs n h in omega arith

-- a name without a value has no entry
pub unnamed_value : {V : Type 0} (table : List (List ℕ × V)) (name : List ℕ) → value_named table name ≡ None → number_named table name ≡ None
unfolding value_named value_at number_named
unnamed_value {V} table name h = by (number_named table name) refl h
  where
    by : (found : Option ℕ) → number_named table name ≡ found → value_at table found ≡ None → number_named table name ≡ None
    by None e k = e
    by (Some n) e k =
        absurd (
        let lt : n < 0 + length (keys_of table) = position-within (bytes_eq name) (keys_of table) 0 n e in
        let keys : length (keys_of table) ≡ length table = length-map table (λ (entry : List ℕ × V). entry.0) in
        let values : length (values_of table) ≡ length table = length-map table (λ (entry : List ℕ × V). entry.1) in
        let le : length (values_of table) ≤ n = no_item (values_of table) n k in
        omega arith
        )

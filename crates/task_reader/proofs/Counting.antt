-- Counting objects type by type gives what counting them one by one does.

use Rattle.std.proofs.Common.{◌≡◌, ℕ, zero, suc, ◌+◌, ◌-◌, ◌<◌, ◌≤◌, Bool, true, false, cond, List, [], ◌∷◌, ◌++◌, refl, sym, ap, ◌∙◌, length, drop, get_or, set, slice_get, slice_index, Some, arith, length-append, append_assoc, eqb, get_or-set_same, get_or-set_other}
use Rattle.std.proofs.lemmas.List.{length-set}
use Rattle.std.proofs.lemmas.Bool.{eqb-true, eqb-false}
use Rattle.std.specs.List.{count_by, range_with_len}
use Rattle.std.specs.Map.{values_of}
use Rattle.std.proofs.lemmas.List.Sums.{length-filter, sum_by-cons}
use Rattle.std.proofs.lemmas.Map.Entries.{length-values_of}
use Rattle.strips_task.specs.declared.tasks.TaskParts.{TaskParts}
use Rattle.strips_task.specs.Types.{fits}
use Rattle.task_reader.specs.Capped.{repeated}
use Rattle.task_reader.specs.Objects.{object_count}
use Rattle.task_reader.specs.Tallies.{tallied}
use Rattle.task_reader.proofs.Lists.{left, left_at}

-- no things are of the numbers after the last count
pub tallied_zeros : (test : ℕ → Bool) (number : ℕ) (counts : List ℕ) (n : ℕ) → tallied test number (counts ++ repeated n 0) ≡ tallied test number counts
tallied_zeros test number [] zero = refl
tallied_zeros test number [] (suc n) = none (test number) ∙ tallied_zeros test (number + 1) [] n
  where
    none : (b : Bool) → cond b 0 0 + tallied test (number + 1) (repeated n 0) ≡ tallied test (number + 1) (repeated n 0)
    none true = omega arith
    none false = omega arith
tallied_zeros test number (count ∷ counts) n = ap (λ rest. cond (test number) count 0 + rest) (tallied_zeros test (number + 1) counts n)

-- one more thing
pub tallied_more : (test : ℕ → Bool) (number : ℕ) (counts : List ℕ) (i : ℕ) → i < length counts
    → tallied test number (set counts i (get_or counts i 0 + 1)) ≡ tallied test number counts + cond (test (number + i)) 1 0
tallied_more test number [] i lt = absurd (omega (arith, lt))
tallied_more test number (count ∷ counts) zero lt =
    here (test number) ∙ ap {B = ℕ} (λ n. cond (test number) count 0 + tallied test (number + 1) counts + cond (test n) 1 0) (let e : number ≡ number + 0 = omega arith in e)
  where
    here : (b : Bool) → cond b (count + 1) 0 + tallied test (number + 1) counts ≡ cond b count 0 + tallied test (number + 1) counts + cond b 1 0
    here true = omega arith
    here false = omega arith
tallied_more test number (count ∷ counts) (suc i) lt =
    let rest = tallied_more test (number + 1) counts i (omega (arith, lt)) in
    let same = ap {B = ℕ} (λ n. cond (test n) 1 0) (let e : number + 1 + i ≡ number + suc i = omega arith in e) in
    omega (arith, rest, same)

-- the next count
pub tallied_next : (test : ℕ → Bool) (counts : List ℕ) (i count : ℕ) → i < length counts → count ≡ get_or counts i count
    → tallied test i (drop i counts) ≡ cond (test i) count 0 + tallied test (i + 1) (drop (i + 1) counts)
tallied_next test counts i count lt is = ap (tallied test i) (left counts i count lt is)

-- the first thing, and then the others
counted_first : (test : ℕ → Bool) (value : ℕ) (values : List ℕ) → count_by test (value ∷ values) ≡ cond (test value) 1 0 + count_by test values
counted_first test value values = sum_by-cons (λ v. cond (test v) 1 0) value values

-- the next thing
pub counted_next : (test : ℕ → Bool) (values : List ℕ) (i value : ℕ) → slice_get values i ≡ Some value
    → count_by test (drop i values) ≡ cond (test value) 1 0 + count_by test (drop (i + 1) values)
counted_next test values i value at = ap (count_by test) (left_at values i value at) ∙ counted_first test value (drop (i + 1) values)

-- one more count
pub zeros_next : (counts more : List ℕ) (number : ℕ) (whole : List ℕ) → more ≡ counts ++ 0 ∷ [] → length counts ≤ number
    → counts ++ repeated (number + 1 - length counts) 0 ≡ whole → more ++ repeated (number + 1 - length more) 0 ≡ whole
zeros_next counts more number whole is le all =
    let long : length more ≡ length counts + 1 = ap length is ∙ length-append counts (0 ∷ []) in
    (λ j. is j ++ repeated (number + 1 - length more) 0)
    ∙ append_assoc counts (0 ∷ []) (repeated (number + 1 - length more) 0)
    ∙ ap (λ n. counts ++ repeated n 0) (let e : suc (number + 1 - length more) ≡ number + 1 - length counts = omega (arith, long, le) in e)
    ∙ all

-- by number is the same as one after the other
counted_range : (test : ℕ → Bool) (f : ℕ → ℕ) (values : List ℕ) (a : ℕ) → ((k : ℕ) → k < length values → f (a + k) ≡ get_or values k 0)
    → count_by (λ k. test (f k)) (range_with_len a (length values)) ≡ count_by test values
counted_range test f [] a each = refl
counted_range test f (value ∷ values) a each =
    let here : f a ≡ value = ap f (let e : a ≡ a + 0 = omega arith in e) ∙ each 0 (omega arith) in
    let rest = counted_range test f values (a + 1)
    (λ k lt. ap f (let e : a + 1 + k ≡ a + suc k = omega arith in e) ∙ each (suc k) (omega (arith, lt))) in
    counted_first (λ k. test (f k)) a (range_with_len (a + 1) (length values))
    ∙ (λ j. cond {A = ℕ} (test (here j)) 1 0 + rest j)
    ∙ sym (counted_first test value values)

-- an object count is a count of the types of objects
pub count_types : (task : TaskParts) (types : List ℕ) → object_count task types ≡ count_by (λ type. fits task.parents (type ∷ []) types) (values_of task.objects)
unfolding object_count
count_types task types =
    let test : ℕ → Bool = λ type. fits task.parents (type ∷ []) types in
    let values = values_of task.objects in
    length-filter (λ object. test (slice_index values object)) (range_with_len 0 (length task.objects))
    ∙ ap (λ n. count_by (λ object. test (slice_index values object)) (range_with_len 0 n)) (sym (length-values_of task.objects))
    ∙ counted_range test (slice_index values) values 0 (λ k lt. ap (slice_index values) (let e : 0 + k ≡ k = omega arith in e))

-- a list of counts that is long enough
pub zeros_length : (n : ℕ) → length (repeated n 0) ≡ n
zeros_length zero = refl
zeros_length (suc n) = let e : suc (length (repeated n 0)) ≡ suc n = omega (arith, zeros_length n) in e

pub zeros_index : (counts : List ℕ) (n i : ℕ) → slice_index (counts ++ repeated n 0) i ≡ slice_index counts i
zeros_index [] zero i = refl
zeros_index [] (suc n) zero = refl
zeros_index [] (suc n) (suc i) = zeros_index [] n i ∙ none i
  where
    none : (i : ℕ) → slice_index [] i ≡ 0
    none i = refl
zeros_index (count ∷ counts) n zero = refl
zeros_index (count ∷ counts) n (suc i) = zeros_index counts n i

-- counts after one more object of a type
module _ (old reached new : List ℕ) (type : ℕ) (is_reached : reached ≡ old ++ repeated (type + 1 - length old) 0)
    (is_new : new ≡ set reached type (slice_index reached type + 1)) where
  pub reached_length : length reached ≡ length old + (type + 1 - length old)
  reached_length = ap length is_reached ∙ length-append old (repeated (type + 1 - length old) 0) ∙ ap (λ n. length old + n) (zeros_length (type + 1 - length old))

  pub reaches : type < length reached
  reaches = omega (arith, reached_length)

  pub new_length : length new ≡ length old + (type + 1 - length old)
  new_length = ap length is_new ∙ length-set reached type (slice_index reached type + 1) ∙ reached_length

  pub reached_index : (i : ℕ) → slice_index reached i ≡ slice_index old i
  reached_index i = ap (λ counts. slice_index counts i) is_reached ∙ zeros_index old (type + 1 - length old) i

  pub new_small : (most : ℕ) → ((i : ℕ) → slice_index old i ≤ most) → (i : ℕ) → slice_index new i ≤ most + 1
  new_small most small i = by (eqb i type) refl
    where
      by : (b : Bool) → eqb i type ≡ b → slice_index new i ≤ most + 1
      by true e =
          let same : i ≡ type = eqb-true i type e in
          let value : slice_index new i ≡ slice_index reached type + 1 =
          (λ j. slice_index (is_new j) (same j)) ∙ get_or-set_same reached type (slice_index reached type + 1) 0 reaches in
          omega (arith, value, reached_index type, small type)
      by false e =
          let value : slice_index new i ≡ slice_index reached i =
          ap (λ counts. slice_index counts i) is_new ∙ get_or-set_other reached type i (slice_index reached type + 1) 0 (eqb-false i type e) in
          omega (arith, value, reached_index i, small i)

  pub new_tallied : (test : ℕ → Bool) → tallied test 0 new ≡ tallied test 0 old + cond (test type) 1 0
  new_tallied test =
      ap (tallied test 0) is_new ∙ tallied_more test 0 reached type reaches
      ∙ (λ j. tallied test 0 (is_reached j) + cond {A = ℕ} (test (let e : 0 + type ≡ type = omega arith in e j)) 1 0)
      ∙ ap (λ n. n + cond {A = ℕ} (test type) 1 0) (tallied_zeros test 0 old (type + 1 - length old))

  pub all_tallied : (test : ℕ → Bool) (values : List ℕ) (k : ℕ) → slice_get values k ≡ Some type → tallied test 0 old + count_by test (drop k values) ≡ count_by test values
      → tallied test 0 new + count_by test (drop (k + 1) values) ≡ count_by test values
  all_tallied test values k at all = omega (arith, new_tallied test, counted_next test values k type at, all)

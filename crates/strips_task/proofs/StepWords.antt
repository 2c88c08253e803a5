-- The words of a step among the words of a plan.

use Rattle.std.proofs.Common.{◌≡◌, ℕ, ◌+◌, ◌-◌, ◌<◌, ◌≤◌, zero, suc, List, [], ◌∷◌, ◌++◌, length, take, drop, refl, ap, sym, ◌∙◌, arith, slice_get, Some, length-drop, length-append, All, map}
use Rattle.std.proofs.lemmas.List.{take-append-le, drop-append-le, take_all, map-append}
use Rattle.std.proofs.lemmas.List.Elements.{All-push}
use Rattle.std.proofs.Math.Seq.{drop-append_seam}
use Rattle.std.specs.Prelude.{slice_range}
use Rattle.strips_task.specs.Steps.{step_of, step_at}
use Rattle.strips_task.specs.OpenPlan.{IsStepRange, IsExtension}
use Rattle.strips_task.specs.declared.steps.StepRange.{StepRange}
use Rattle.strips_task.specs.declared.steps.StepText.{StepText}

-- a range that is not empty: its first word names the action, and the others are the arguments
module _ {A : Type 0} where
  drop_head : (xs : List A) (n : ℕ) → n < length xs → (x : A) × (drop n xs ≡ x ∷ drop (suc n) xs) × (slice_get xs n ≡ Some x)
  drop_head [] n lt = absurd (omega arith)
  drop_head (x ∷ xs) zero lt = (x, refl, refl)
  drop_head (x ∷ xs) (suc n) lt = drop_head xs n (let k : suc n < suc (length xs) = lt in omega arith)

  slice_get-take : (xs : List A) (n k : ℕ) → k < n → slice_get (take n xs) k ≡ slice_get xs k
  slice_get-take [] zero k lt = refl
  slice_get-take [] (suc n) k lt = refl
  slice_get-take (x ∷ xs) zero k lt = absurd (omega arith)
  slice_get-take (x ∷ xs) (suc n) zero lt = refl
  slice_get-take (x ∷ xs) (suc n) (suc k) lt = slice_get-take xs n k (let h : suc k < suc n = lt in omega arith)

  slice_get-drop : (xs : List A) (n k : ℕ) → slice_get (drop n xs) k ≡ slice_get xs (n + k)
  slice_get-drop xs zero k = ap (slice_get xs) (let e : k ≡ 0 + k = omega arith in e)
  slice_get-drop [] (suc n) k = refl
  slice_get-drop (x ∷ xs) (suc n) k = slice_get-drop xs n k ∙ ap (slice_get (x ∷ xs)) (let e : suc (n + k) ≡ suc n + k = omega arith in e)

  length-take : (xs : List A) (n : ℕ) → n ≤ length xs → length (take n xs) ≡ n
  length-take xs zero lt = refl
  length-take [] (suc n) lt = absurd (omega arith)
  length-take (x ∷ xs) (suc n) lt = ap suc (length-take xs n (let h : suc n ≤ suc (length xs) = lt in omega arith))

-- the words of a range, one by one
pub step_words : (words : List (List ℕ)) (first end : ℕ) → first < end → end ≤ length words
    → (word : List ℕ) × (slice_get words first ≡ Some word)
    × (step_of (slice_range words first end) ≡ record { action = word; args = take (end - first - 1) (drop (suc first) words) })
unfolding step_of
step_words words first end lt le =
    let head = drop_head words first (omega arith) in (
      head.0,
      head.2,
      ap (λ n. step_of (take n (drop first words))) (let e : end - first ≡ suc (end - first - 1) = omega arith in e)
          ∙ ap (λ l. step_of (take (suc (end - first - 1)) l)) head.1,
    )

pub args_count : (words : List (List ℕ)) (first end : ℕ) → first < end → end ≤ length words
    → end - first - 1 ≡ length (step_of (slice_range words first end)).args
args_count words first end lt le =
    let parts = step_words words first end lt le in
    sym (ap (λ s. length s.args) parts.2
    ∙ length-take (drop (suc first) words) (end - first - 1) (omega (arith, length-drop (suc first) words)))

pub arg_at : (words : List (List ℕ)) (first end index : ℕ) → first < end → end ≤ length words
    → index < length (step_of (slice_range words first end)).args
    → slice_get (step_of (slice_range words first end)).args index ≡ slice_get words (first + 1 + index)
arg_at words first end index lt le within =
    let parts = step_words words first end lt le in
    ap (λ s. slice_get s.args index) parts.2
    ∙ slice_get-take (drop (suc first) words) (end - first - 1) index (omega (arith, args_count words first end lt le))
    ∙ slice_get-drop words (suc first) index
    ∙ ap (slice_get words) (let e : suc first + index ≡ first + 1 + index = omega arith in e)

-- the words of a range stay where more words come behind them
range_kept : (words more : List (List ℕ)) (range : StepRange) → IsStepRange (length words) range → step_at (words ++ more) range ≡ step_at words range
range_kept words more range h =
    let starts : range.first ≤ length words = omega (arith, h.0, h.1) in
    let count : range.end - range.first ≤ length (drop range.first words) = omega (arith, h.1, length-drop range.first words) in
    ap step_of
    (ap (take (range.end - range.first)) (drop-append-le range.first words more starts)
    ∙ take-append-le (range.end - range.first) (drop range.first words) more count)

-- and so do the steps
pub steps_kept : (words more : List (List ℕ)) (ranges : List StepRange) → All (IsStepRange (length words)) ranges
    → map (step_at (words ++ more)) ranges ≡ map (step_at words) ranges
steps_kept words more [] h = refl
steps_kept words more (range ∷ ranges) h =
    λ j. range_kept words more range (h 0 range (omega arith)) j ∷ steps_kept words more ranges (λ k d lt. h (suc k) d (omega arith)) j

-- the words of a range up to the end are all words from its start on
pub range_to_end : (words : List (List ℕ)) (first end : ℕ) → end ≡ length words → slice_range words first end ≡ drop first words
range_to_end words first end e = take_all (end - first) (drop first words) (omega (arith, length-drop first words))

-- a step that was added to a plan: the steps before stay, and its words spell it
pub steps_more : (words new : List (List ℕ)) (ranges after : List StepRange) (step : StepText) (first end : ℕ)
    → All (IsStepRange (length words)) ranges → new ≡ words ++ step.action ∷ step.args → after ≡ ranges ++ record { first = first; end = end } ∷ []
    → first ≡ length words → end ≡ length new
    → map (step_at new) after ≡ map (step_at words) ranges ++ step ∷ []
unfolding step_of
steps_more words new ranges after step first end h grown ranged starts ends =
    ap (map (step_at new)) ranged
    ∙ map-append (step_at new) ranges (record { first = first; end = end } ∷ [])
    ∙ (λ j. (ap (λ l. map (step_at l) ranges) grown ∙ steps_kept words (step.action ∷ step.args) ranges h) j ++ own j ∷ [])
  where
    own : step_at new (record { first = first; end = end }) ≡ step
    own =
        ap step_of
        (range_to_end new first end ends
        ∙ (λ j. drop (starts j) (grown j))
        ∙ drop-append_seam words (step.action ∷ step.args))

-- and its range is one of the new words
pub ranges_more : (words new : List (List ℕ)) (ranges after : List StepRange) (more : List (List ℕ)) (first end : ℕ)
    → All (IsStepRange (length words)) ranges → new ≡ words ++ more → 0 < length more → after ≡ ranges ++ record { first = first; end = end } ∷ []
    → first ≡ length words → end ≡ length new
    → All (IsStepRange (length new)) after
ranges_more words new ranges after more first end h grown some ranged starts ends =
    let total : length new ≡ length words + length more = ap length grown ∙ length-append words more in
    rw ranged
    (All-push (IsStepRange (length new)) ranges (record { first = first; end = end })
    (λ k d lt. let old = h k d lt in (old.0, omega (arith, old.1)))
    (omega arith, omega arith))

pub steps_extended : (words new : List (List ℕ)) (ranges : List StepRange) → All (IsStepRange (length words)) ranges → IsExtension words new
    → map (step_at new) ranges ≡ map (step_at words) ranges
steps_extended words new ranges h ext = ap (λ l. map (step_at l) ranges) ext.extends ∙ steps_kept words ext.more ranges h

-- Rounds over the slots.

use Rattle.std.proofs.Common.{◌≡◌, ◌<◌, ◌≤◌, ℕ, zero, suc, ◌+◌, ◌-◌, List, [], ◌∷◌, ◌++◌, slice_get, Some, refl, sym, ap, ◌∙◌, arith}
use Rattle.std.specs.Prelude.{MatchOption, None, Option, take}
use Rattle.std.specs.List.{range_with_len}
use mathlib.Core.List.{append_assoc}
use Rattle.bench_rule.specs.declared.views.View.{View}
use Rattle.bench_rule.specs.declared.views.Held.{Held}
use Rattle.bench_rule.specs.Views.{with_miss, with_taken}
use Rattle.judge_bench.specs.Seats.{PassedAll, TookAmong, TookOnRound, round, with_misses}

-- a stretch of slots and the one that follows it
pub one_slot_more : (from count : ℕ) → range_with_len from (suc count) ≡ range_with_len from count ++ (from + count) ∷ []
one_slot_more from zero = let same : from ≡ from + zero = omega arith in ap (λ n. n ∷ []) same
one_slot_more from (suc count) = let same : from + 1 + count ≡ from + suc count = omega arith in
    let rest : range_with_len (from + 1) (suc count) ≡ range_with_len (from + 1) count ++ (from + suc count) ∷ [] = one_slot_more (from + 1) count ∙ ap (λ n. range_with_len (from + 1) count ++ n ∷ []) same in
    (λ i. from ∷ rest i)

-- the first slots of a stretch that goes on
take_stretch : (from count length : ℕ) (others : List ℕ) → count ≤ length → take count (range_with_len from length ++ others) ≡ range_with_len from count
take_stretch from zero length others h = refl
take_stretch from (suc count) zero others h = absurd (omega arith)
take_stretch from (suc count) (suc length) others h = ap (λ l. from ∷ l) (take_stretch (from + 1) count length others (omega arith))

-- the first slots of a list that begins with a stretch, beyond the stretch
take_past : (from count length all : ℕ) (others : List ℕ) → all ≡ length + count → take all (range_with_len from length ++ others) ≡ range_with_len from length ++ take count others
take_past from count zero all others e = let same : all ≡ count = omega arith in ap (λ n. take n others) same
take_past from count (suc length) zero others e = absurd (omega arith)
take_past from count (suc length) (suc all) others e = ap (λ l. from ∷ l) (take_past (from + 1) count length all others (omega arith))

slot_of_stretch : (from count length : ℕ) (others : List ℕ) → count < length → slice_get (range_with_len from length ++ others) count ≡ Some (from + count)
slot_of_stretch from count zero others h = absurd (omega arith)
slot_of_stretch from zero (suc length) others h = let same : from ≡ from + zero = omega arith in ap (λ n. Some n) same
slot_of_stretch from (suc count) (suc length) others h = slot_of_stretch (from + 1) count length others (omega arith) ∙ (let same : from + 1 + count ≡ from + suc count = omega arith in ap (λ n. Some n) same)

slot_past : (from count length all : ℕ) (others : List ℕ) → all ≡ length + count → slice_get (range_with_len from length ++ others) all ≡ slice_get others count
slot_past from count zero all others e = let same : all ≡ count = omega arith in ap (λ n. slice_get others n) same
slot_past from count (suc length) zero others e = absurd (omega arith)
slot_past from count (suc length) (suc all) others e = slot_past (from + 1) count length all others (omega arith)

append_none : (from length : ℕ) → range_with_len from length ++ [] ≡ range_with_len from length
append_none from zero = refl
append_none from (suc length) = ap (λ l. from ∷ l) (append_none (from + 1) length)

-- a slot of the first part of a round
pub take_first_part : (slots start count : ℕ) → count ≤ slots - start → take count (round slots start) ≡ range_with_len start count
take_first_part slots start count h = take_stretch start count (slots - start) (range_with_len 0 start) h

pub slot_of_first_part : (slots start count : ℕ) → count < slots - start → slice_get (round slots start) count ≡ Some (start + count)
slot_of_first_part slots start count h = slot_of_stretch start count (slots - start) (range_with_len 0 start) h

-- a slot of the second part of a round
pub take_second_part : (slots start count all : ℕ) → all ≡ slots - start + count → count ≤ start → take all (round slots start) ≡ range_with_len start (slots - start) ++ range_with_len 0 count
take_second_part slots start count all e h = take_past start count (slots - start) all (range_with_len 0 start) e
    ∙ ap (λ l. range_with_len start (slots - start) ++ l) (ap (take count) (sym (append_none 0 start)) ∙ take_stretch 0 count start [] h)

pub slot_of_second_part : (slots start count all : ℕ) → all ≡ slots - start + count → count < start → slice_get (round slots start) all ≡ Some count
slot_of_second_part slots start count all e h = slot_past start count (slots - start) all (range_with_len 0 start) e
    ∙ (ap (λ l. slice_get l count) (sym (append_none 0 start)) ∙ (slot_of_stretch 0 count start [] h ∙ (let same : 0 + count ≡ count = omega arith in ap (λ n. Some n) same)))

-- one miss more, of the slot that follows a stretch of missed ones
pub miss_more : (view : View) (from slot : ℕ) → from ≤ slot → with_miss (with_misses view (range_with_len from (slot - from))) slot ≡ with_misses view (range_with_len from (slot + 1 - from))
miss_more view from slot h =
    let next : slot ≡ from + (slot - from) = omega arith in let long : suc (slot - from) ≡ slot + 1 - from = omega arith in
    let missed : List ℕ = range_with_len from (slot - from) in
    let all : missed ++ slot ∷ [] ≡ range_with_len from (slot + 1 - from) = ap (λ n. missed ++ n ∷ []) next ∙ (sym (one_slot_more from (slot - from)) ∙ ap (range_with_len from) long) in
    ap (λ l. record view { misses = l }) (append_assoc view.misses missed (slot ∷ []) ∙ ap (λ l. view.misses ++ l) all)

pub misses_join : (view : View) (missed more : List ℕ) → with_misses (with_misses view missed) more ≡ with_misses view (missed ++ more)
misses_join view missed more = ap (λ l. record view { misses = l }) (append_assoc view.misses missed more)

pub took_first : (slots start : ℕ) (ticket : Held) (before later : View) → start ≤ slots → TookAmong start slots ticket before later → TookOnRound slots ticket before later
took_first slots start ticket before later h took =
    let (passed, at, inside, is) = took in (
      start,
      passed,
      h,
      slot_of_first_part slots start passed (omega arith) ∙ ap (λ n. Some n) (sym at),
      is ∙ ap (λ l. with_taken (with_misses before l) ticket.slot ticket.job) (sym (take_first_part slots start passed (omega arith))),
    )

pub took_second : (slots start : ℕ) (ticket : Held) (before middle later : View) → start ≤ slots → middle ≡ with_misses before (range_with_len start (slots - start)) → TookAmong 0 start ticket middle later → TookOnRound slots ticket before later
took_second slots start ticket before middle later h missed took =
    let (passed, at, inside, is) = took in let all : ℕ = slots - start + passed in let here : passed ≡ ticket.slot = omega arith in (
      start,
      all,
      h,
      slot_of_second_part slots start passed all refl (omega arith) ∙ ap (λ n. Some n) here,
      is ∙ (ap (λ (v : View). with_taken (with_misses v (range_with_len 0 passed)) ticket.slot ticket.job) missed
          ∙ ap (λ (v : View). with_taken v ticket.slot ticket.job) (misses_join before (range_with_len start (slots - start)) (range_with_len 0 passed)
          ∙ ap (with_misses before) (sym (take_second_part slots start passed all refl (omega arith))))),
    )

pub passed_all : (slots start : ℕ) (before middle later : View) → start ≤ slots → middle ≡ with_misses before (range_with_len start (slots - start)) → later ≡ with_misses middle (range_with_len 0 (start - 0)) → PassedAll slots before later
passed_all slots start before middle later h missed is = let same : start - 0 ≡ start = omega arith in (
  start,
  h,
  is ∙ (ap (λ (v : View). with_misses v (range_with_len 0 (start - 0))) missed
      ∙ (misses_join before (range_with_len start (slots - start)) (range_with_len 0 (start - 0)) ∙ ap (λ n. with_misses before (range_with_len start (slots - start) ++ range_with_len 0 n)) same)),
)

-- what the second part of a round answers, after a first part of misses alone
pub second_part : (slots start : ℕ) (before middle later : View) (result : Option Held) → start ≤ slots → middle ≡ with_misses before (range_with_len start (slots - start))
    → MatchOption result (later ≡ with_misses middle (range_with_len 0 (start - 0))) (λ ticket. TookAmong 0 start ticket middle later)
    → MatchOption result (PassedAll slots before later) (λ ticket. TookOnRound slots ticket before later)
second_part slots start before middle later None h missed is = passed_all slots start before middle later h missed is
second_part slots start before middle later (Some ticket) h missed took = took_second slots start ticket before middle later h missed took

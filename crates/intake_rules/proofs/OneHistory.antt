-- For a list of events there is one lawful history that gives out the least jobs.

use Rattle.std.proofs.Common.{◌≡◌, ℕ, ◌<◌, ◌≤◌, zero, suc, List, [], ◌∷◌, ◌++◌, Some, length, map, slice_get, take, refl, ap, sym, ◌∙◌, arith, inl, inr}
use Rattle.std.proofs.lemmas.List.{map_push, length-map, take_all}
use Rattle.intake_rules.specs.declared.reply.Reply.{Reply}
use Rattle.intake_rules.specs.declared.reply.Reply.TheVariants as reply
use Rattle.intake_rules.specs.History.{History, left_by, IsLawful, TakesLeast}
use Rattle.intake_rules.specs.Intake.{Intake, least_waiting}
use Rattle.intake_rules.specs.Laws.{IsOf, OneHistory}
use Rattle.intake_rules.specs.Rules.{Event, submit, close, take_job, hand_back, finish, emit, Allows, reply_to, taken}
use Rattle.intake_rules.proofs.Lawful.{empty_history, lawful_push, least_goes_on}
use Rattle.intake_rules.proofs.Pushes.{by_pushes}
use Rattle.intake_rules.proofs.Refused.{take_next}

-- an allowed answer that names no job but the least is the answer of an intake that gives out the least job
the_reply : (slots : ℕ) (intake : Intake) (event : Event) (answer : Reply) → Allows slots intake event answer
    → ((job : ℕ) → event ≡ take_job → answer ≡ reply.Taken job → least_waiting intake ≡ Some job) → answer ≡ reply_to slots intake event
the_reply slots intake take_job answer (inl (none, empty)) least = none ∙ sym (ap taken empty)
the_reply slots intake take_job answer (inr (job, is, waits)) least = is ∙ sym (ap taken (least job refl is))
the_reply slots intake (submit planner plan) answer allowed least = allowed
the_reply slots intake (close planner) answer allowed least = allowed
the_reply slots intake (hand_back job) answer allowed least = allowed
the_reply slots intake (finish job finding) answer allowed least = allowed
the_reply slots intake (emit planner) answer allowed least = allowed

module _ (planners slots : ℕ) where
  -- a history of these events with the one that comes next
  pub some_history : (events : List Event) → (history : History) × IsOf planners slots events history
  some_history = by_pushes (λ all. (history : History) × IsOf planners slots all history) none more
    where
      none : (history : History) × IsOf planners slots [] history
      none = let (lawful, least, leaves) = empty_history planners slots in ([], (lawful, least, refl))

      more : (events : List Event) (event : Event) → ((history : History) × IsOf planners slots events history) → (history : History) × IsOf planners slots (events ++ event ∷ []) history
      more events event (history, (lawful, least, of)) =
          let answer = reply_to slots (left_by planners history) event in
          let (allowed, keeps) = least_goes_on planners slots history event in (
            history ++ (event, reply_to slots (left_by planners history) event) ∷ [],
            (
              lawful_push planners slots history event (reply_to slots (left_by planners history) event) lawful allowed,
              keeps least,
              map_push (λ (pair : Event × Reply). pair.0) history (event, reply_to slots (left_by planners history) event) ∙ ap (λ all. all ++ event ∷ []) of,
            ),
          )

  -- an element of a list of events has its pair
  pair_of : (history : History) (index : ℕ) (event : Event) → slice_get (map (λ (pair : Event × Reply). pair.0) history) index ≡ Some event
      → (answer : Reply) × (slice_get history index ≡ Some (event, answer))
  pair_of [] index event e = cc
  pair_of (pair ∷ history) zero event e = let same : pair.0 ≡ event = cc in (pair.1, λ i. Some (same i, pair.1))
  pair_of (pair ∷ history) (suc index) event e = pair_of history index event e

  event_of : (history : History) (index : ℕ) (event : Event) (answer : Reply) → slice_get history index ≡ Some (event, answer)
      → slice_get (map (λ (pair : Event × Reply). pair.0) history) index ≡ Some event
  event_of [] index event answer e = cc
  event_of (pair ∷ history) zero event answer e = let same : pair ≡ (event, answer) = cc in ap (λ (x : Event × Reply). Some x.0) same
  event_of (pair ∷ history) (suc index) event answer e = event_of history index event answer e

  -- a pair of a lawful history that gives out the least jobs
  replied : (history : History) (index : ℕ) (event : Event) (answer : Reply) → IsLawful planners slots history → TakesLeast planners history
      → slice_get history index ≡ Some (event, answer) → answer ≡ reply_to slots (left_by planners (take index history)) event
  replied history index event answer lawful least e =
      the_reply slots (left_by planners (take index history)) event answer (lawful index event answer e)
      λ job is named. least index job (e ∙ λ i. Some (is i, named i))

  -- two such histories of the same events agree as far as either goes
  fronts_agree : (history other : History) → IsLawful planners slots history → TakesLeast planners history → IsLawful planners slots other → TakesLeast planners other
      → map (λ (pair : Event × Reply). pair.0) history ≡ map (λ (pair : Event × Reply). pair.0) other → (count : ℕ) → count ≤ length history → take count history ≡ take count other
  fronts_agree history other lawful least lawful' least' same zero h = refl
  fronts_agree history other lawful least lawful' least' same (suc count) h =
      let front = fronts_agree history other lawful least lawful' least' same count (omega arith) in
      let (pair, at) = there history count (omega arith) in
      let (answer, at') = pair_of other count pair.0 (ap (λ all. slice_get all count) (sym same) ∙ event_of history count pair.0 pair.1 at) in
      let mine = replied history count pair.0 pair.1 lawful least at in
      let theirs = replied other count pair.0 answer lawful' least' at' in
      let answers = mine ∙ ap (λ (x : History). reply_to slots (left_by planners x) pair.0) front ∙ sym theirs in
      take_next history count pair at
      ∙ (λ i. front i ++ (pair.0, answers i) ∷ [])
      ∙ sym (take_next other count (pair.0, answer) at')
    where
      there : {A : Type 0} (xs : List A) (i : ℕ) → i < length xs → (x : A) × (slice_get xs i ≡ Some x)
      there [] i h = absurd (omega arith)
      there (x ∷ xs) zero h = (x, refl)
      there (x ∷ xs) (suc i) h = there xs i (omega arith)

  pub one_history : (events : List Event) → OneHistory planners slots events
  one_history events =
      let (history, is) = some_history events in (
        history,
        is,
        λ other is_other.
            let events_same = is_other.2 ∙ sym is.2 in
            let lengths = sym (length-map other (λ (pair : Event × Reply). pair.0)) ∙ ap length events_same ∙ length-map history (λ (pair : Event × Reply). pair.0) in
            sym (take_all (length other) other (omega arith))
            ∙ fronts_agree other history is_other.0 is_other.1 is.0 is.1 events_same (length other) (omega arith)
            ∙ take_all (length other) history (omega arith),
      )

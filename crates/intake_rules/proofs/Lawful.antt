-- Lawful histories, one pair after the other.

use Rattle.std.proofs.Common.{◌≡◌, ◌⊎◌, ℕ, ◌<◌, ◌≤◌, zero, suc, Bool, true, false, not, List, [], ◌∷◌, ◌++◌, Option, Some, None, length, map, slice_get, take, refl, ap, sym, ◌∙◌, subst, arith, inl, inr}
use Rattle.std.proofs.lemmas.Bool.{ltb-true, lt-ltb, le-ltb, eqb-true, or_cases}
use Rattle.std.proofs.lemmas.List.{take-take}
use Rattle.std.proofs.lemmas.Option.{slice_get_within}
use Rattle.intake_rules.specs.declared.refusal.Refusal.TheVariants as refusal
use Rattle.intake_rules.specs.declared.reply.Reply.{Reply}
use Rattle.intake_rules.specs.declared.reply.Reply.TheVariants as reply
use Rattle.intake_rules.specs.declared.stage.Stage.TheVariants as stage
use Rattle.intake_rules.specs.History.{History, numbered_from, jobs, closes, is_closed, emitted, stage_in, below, left_by, IsLawful, TakesLeast, HasRightFindings}
use Rattle.intake_rules.specs.Intake.{Intake, has_planner, has_job, is_closed_in, stage_of, jobs_of, least_waiting, next_job}
use Rattle.intake_rules.specs.Rules.{Event, submit, close, take_job, hand_back, finish, emit, first_that_applies, refused_or, Allows, reply_to, taken}
use Rattle.intake_rules.specs.Laws.{EmptyHistory, OneMore, LeastGoesOn}
use Rattle.strips_task.specs.declared.costs.CostedTask.{CostedTask}
use Rattle.intake_rules.proofs.Allowed.{least_allowed, returned_from, finished_from, emitted_from}
use Rattle.intake_rules.proofs.Consistent.{IsConsistent, none_consistent, planners_job}
use Rattle.intake_rules.proofs.Ends.{quiet, closed_last}
use Rattle.intake_rules.proofs.Pushes.{by_pushes, slice_get_before, slice_get_last, slice_get_cases, take_before, take_last}
use Rattle.intake_rules.proofs.Lemmas.{Goes, quiet_goes, accepted_goes, closed_goes, taken_goes, returned_goes, finished_goes, emitted_goes}
use Rattle.intake_rules.proofs.Tables.{length-table, get_or-table, table_replicate}

-- what the intake that a history leaves says of planners and jobs
module _ (planners : ℕ) (history : History) where
  pub known_planner : (planner : ℕ) → has_planner (left_by planners history) planner ≡ true → planner < planners
  unfolding left_by
  known_planner planner e =
      let inside = ltb-true planner (length (map (λ p. is_closed p history) (below planners))) e in
      let long = length-table (λ p. is_closed p history) planners in
      omega arith

  pub known_job : (job : ℕ) → has_job (left_by planners history) job ≡ true → job < length (jobs history)
  unfolding left_by
  known_job job e = ltb-true job (length (jobs history)) e

  pub stage_left : (job : ℕ) → job < length (jobs history) → stage_of (left_by planners history) job ≡ stage_in history job
  unfolding left_by
  stage_left job h = get_or-table (stage_in history) (length (jobs history)) job stage.Waiting h

  pub next_left : (planner : ℕ) → planner < planners → next_job (left_by planners history) planner ≡ slice_get (jobs_of planner (jobs history)) (length (emitted planner history))
  unfolding left_by
  next_left planner h = ap (λ k. slice_get (jobs_of planner (jobs history)) k) (get_or-table (λ p. length (emitted p history)) planners planner 0 h)

  pub planner_left : (planner : ℕ) → planner < planners → has_planner (left_by planners history) planner ≡ true
  unfolding left_by
  planner_left planner h = lt-ltb planner (length (map (λ p. is_closed p history) (below planners))) (let long = length-table (λ p. is_closed p history) planners in omega arith)

  pub closed_left : (planner : ℕ) → planner < planners → is_closed_in (left_by planners history) planner ≡ is_closed planner history
  unfolding left_by
  closed_left planner h = get_or-table (λ p. is_closed p history) planners planner false h

  pub job_left : (job : ℕ) → job < length (jobs history) → has_job (left_by planners history) job ≡ true
  unfolding left_by
  job_left job h = lt-ltb job (length (jobs history)) h

  pub no_job_left : (job : ℕ) → length (jobs history) ≤ job → has_job (left_by planners history) job ≡ false
  unfolding left_by
  no_job_left job h = le-ltb job (length (jobs history)) h

  pub jobs_left : (left_by planners history).jobs ≡ jobs history
  unfolding left_by
  jobs_left = refl

-- an answer that the rules allow
pub goes : (planners slots : ℕ) (history : History) → IsConsistent history → (event : Event) (answer : Reply) → Allows slots (left_by planners history) event answer
    → Goes planners history event answer
goes planners slots history consistent (submit planner plan) (reply.Accepted number) allowed = accepted_goes planners history consistent planner plan number
goes planners slots history consistent (submit planner plan) answer allowed =
    quiet_goes planners history (submit planner plan, answer) consistent (quiet (submit planner plan) answer refl)
goes planners slots history consistent (close planner) reply.ClosedNow allowed = closed_goes planners history consistent planner
goes planners slots history consistent (close planner) answer allowed =
    quiet_goes planners history (close planner, answer) consistent (quiet (close planner) answer refl)
goes planners slots history consistent take_job (reply.Taken job) allowed = taken_goes planners history consistent job (stands allowed)
  where
    stands : ((reply.Taken job ≡ reply.NoJob) × (least_waiting (left_by planners history) ≡ None))
        ⊎ ((other : ℕ) × (reply.Taken job ≡ reply.Taken other) × (slice_get (left_by planners history).stages other ≡ Some stage.Waiting))
        → slice_get (left_by planners history).stages job ≡ Some stage.Waiting
    stands (inl (e, none)) = cc
    stands (inr (other, e, at)) = let same : job ≡ other = cc in ap (λ k. slice_get (left_by planners history).stages k) same ∙ at
goes planners slots history consistent take_job answer allowed =
    quiet_goes planners history (take_job, answer) consistent (quiet take_job answer refl)
goes planners slots history consistent (hand_back job) reply.Returned allowed =
    let (has, out) = returned_from (left_by planners history) job allowed in
    let within = known_job planners history job has in
    returned_goes planners history consistent job (sym (stage_left planners history job within) ∙ out)
goes planners slots history consistent (hand_back job) answer allowed =
    quiet_goes planners history (hand_back job, answer) consistent (quiet (hand_back job) answer refl)
goes planners slots history consistent (finish job (Some finding)) reply.Finished allowed =
    let (has, out, of) = finished_from (left_by planners history) job finding allowed in
    let within = known_job planners history job has in
    finished_goes planners history consistent job finding (sym (stage_left planners history job within) ∙ out) (ap (λ xs. slice_get xs job) (sym (jobs_left planners history)) ∙ of)
goes planners slots history consistent (finish job finding) answer allowed =
    quiet_goes planners history (finish job finding, answer) consistent (quiet (finish job finding) answer refl)
goes planners slots history consistent (emit planner) (reply.Emitted finding) allowed =
    let (has, job, next, stands) = emitted_from (left_by planners history) planner finding allowed in
    let known = known_planner planners history planner has in
    let next_is = sym (next_left planners history planner known) ∙ next in
    let within = slice_get_within (jobs history) job.number job (planners_job history planner (length (emitted planner history)) job next_is).1 in
    emitted_goes planners history consistent planner finding job known next_is (sym (stage_left planners history job.number within) ∙ stands)
goes planners slots history consistent (emit planner) answer allowed =
    quiet_goes planners history (emit planner, answer) consistent (quiet (emit planner) answer refl)

-- a history with one pair more is lawful where it was and the rules allow the pair
pub lawful_push : (planners slots : ℕ) (history : History) (event : Event) (answer : Reply) → IsLawful planners slots history → Allows slots (left_by planners history) event answer
    → IsLawful planners slots (history ++ (event, answer) ∷ [])
lawful_push planners slots history event answer lawful allowed index other reply e = elim (slice_get_cases history (event, answer) (other, reply) index e) [
  | inl was ↦ subst (λ (h : History). Allows slots (left_by planners h) other reply) (sym (take_before history (event, answer) index (omega arith))) (lawful index other reply was.1)
  | inr now ↦
      subst (λ (h : History). Allows slots (left_by planners h) other reply) (sym (ap (λ k. take k (history ++ (event, answer) ∷ [])) now.0 ∙ take_last history (event, answer)))
      (subst (λ (x : Event × Reply). Allows slots (left_by planners history) x.0 x.1) now.1 allowed)
]

-- and then it was, and the rules allow the pair
pub lawful_front : (planners slots : ℕ) (history : History) (event : Event) (answer : Reply) → IsLawful planners slots (history ++ (event, answer) ∷ [])
    → IsLawful planners slots history × Allows slots (left_by planners history) event answer
lawful_front planners slots history event answer lawful = (
  λ index other reply e.
      let within = slice_get_within history index (other, reply) e in
      subst (λ (h : History). Allows slots (left_by planners h) other reply) (take_before history (event, answer) index (omega arith))
      (lawful index other reply (slice_get_before history (event, answer) index within ∙ e)),
  subst (λ (h : History). Allows slots (left_by planners h) event answer) (take_last history (event, answer))
      (lawful (length history) event answer (slice_get_last history (event, answer))),
)

-- each lawful history is consistent
pub consistent_lawful : (planners slots : ℕ) (history : History) → IsLawful planners slots history → IsConsistent history
consistent_lawful planners slots = by_pushes (λ h. IsLawful planners slots h → IsConsistent h) (λ lawful. none_consistent)
    λ h pair before lawful.
    let (front, allowed) = lawful_front planners slots h pair.0 pair.1 lawful in
    (goes planners slots h (before front) pair.0 pair.1 allowed).0

pub one_more : (planners slots : ℕ) (history : History) (event : Event) (answer : Reply) → OneMore planners slots history event answer
one_more planners slots history event answer lawful allowed =
    (lawful_push planners slots history event answer lawful allowed, (goes planners slots history (consistent_lawful planners slots history lawful) event answer allowed).1)

-- nothing was asked
pub empty_history : (planners slots : ℕ) → EmptyHistory planners slots
unfolding left_by jobs is_closed emitted below numbered_from
empty_history planners slots = (
  λ index event answer e. cc,
  λ index job e. cc,
  λ i. record {
    jobs = [];
    stages = [];
    closed = table_replicate (λ p. is_closed p []) false planners (λ p. refl) i;
    emitted = table_replicate (λ p. length (emitted p [])) 0 planners (λ p. refl) i;
  },
)

-- a pair keeps to the least job where it gives out the least, or none
least_push : (planners : ℕ) (history : History) (event : Event) (answer : Reply) → TakesLeast planners history
    → ((job : ℕ) → event ≡ take_job → answer ≡ reply.Taken job → least_waiting (left_by planners history) ≡ Some job) → TakesLeast planners (history ++ (event, answer) ∷ [])
least_push planners history event answer least takes index job e = elim (slice_get_cases history (event, answer) (take_job, reply.Taken job) index e) [
  | inl was ↦ ap (λ (h : History). least_waiting (left_by planners h)) (take_before history (event, answer) index (omega arith)) ∙ least index job was.1
  | inr now ↦
      ap (λ k. least_waiting (left_by planners (take k (history ++ (event, answer) ∷ [])))) now.0
      ∙ ap (λ (h : History). least_waiting (left_by planners h)) (take_last history (event, answer))
      ∙ takes job (ap (λ (x : Event × Reply). x.0) now.1) (ap (λ (x : Event × Reply). x.1) now.1)
]

-- a reply that names the least job names the least job
taken_least : (least : Option ℕ) (job : ℕ) → taken least ≡ reply.Taken job → least ≡ Some job
taken_least None job e = cc
taken_least (Some other) job e = cc

least_reply : (slots : ℕ) (intake : Intake) (event : Event) (job : ℕ) → event ≡ take_job → reply_to slots intake event ≡ reply.Taken job → least_waiting intake ≡ Some job
least_reply slots intake take_job job same e = taken_least (least_waiting intake) job e
least_reply slots intake (submit planner plan) job same e = cc
least_reply slots intake (close planner) job same e = cc
least_reply slots intake (hand_back other) job same e = cc
least_reply slots intake (finish other finding) job same e = cc
least_reply slots intake (emit planner) job same e = cc

pub least_goes_on : (planners slots : ℕ) (history : History) (event : Event) → LeastGoesOn planners slots history event
least_goes_on planners slots history event = (
  least_allowed slots (left_by planners history) event,
  λ least. least_push planners history event (reply_to slots (left_by planners history) event) least (least_reply slots (left_by planners history) event),
)

-- an element of a front stands in the whole
slice_get_front : {A : Type 0} (n : ℕ) (xs : List A) (i : ℕ) (x : A) → slice_get (take n xs) i ≡ Some x → (i < n) × (slice_get xs i ≡ Some x)
slice_get_front zero xs i x e = cc
slice_get_front (suc n) [] i x e = cc
slice_get_front (suc n) (y ∷ ys) zero x e = (omega arith, e)
slice_get_front (suc n) (y ∷ ys) (suc i) x e = let (within, at) = slice_get_front n ys i x e in (omega arith, at)

pub lawful_prefix : (planners slots : ℕ) (history : History) (count : ℕ) → IsLawful planners slots history → IsLawful planners slots (take count history)
lawful_prefix planners slots history count lawful index event answer e =
    let (within, at) = slice_get_front count history index (event, answer) e in
    subst (λ (h : History). Allows slots (left_by planners h) event answer) (sym (take-take index count history (omega arith))) (lawful index event answer at)

pub least_prefix : (planners : ℕ) (history : History) (count : ℕ) → TakesLeast planners history → TakesLeast planners (take count history)
least_prefix planners history count least index job e =
    let (within, at) = slice_get_front count history index (take_job, reply.Taken job) e in
    ap (λ (h : History). least_waiting (left_by planners h)) (take-take index count history (omega arith)) ∙ least index job at

pub right_prefix : (task : CostedTask) (history : History) (count : ℕ) → HasRightFindings task history → HasRightFindings task (take count history)
right_prefix task history count right index event answer e = right index event answer (slice_get_front count history index (event, answer) e).1

-- a planner that was closed is one that there is
closed_by : (has was : Bool) → reply.ClosedNow ≡ refused_or (first_that_applies ((not has, refusal.NoPlanner) ∷ (was, refusal.AlreadyClosed) ∷ [])) reply.ClosedNow → has ≡ true
closed_by true was e = refl
closed_by false was e = cc

closing_planner : (planners slots : ℕ) (history : History) (planner : ℕ) (event : Event) (answer : Reply) → Allows slots (left_by planners history) event answer
    → closes planner (event, answer) ≡ true → planner < planners
closing_planner planners slots history planner (close other) reply.ClosedNow allowed e =
    let has = closed_by (has_planner (left_by planners history) other) (is_closed_in (left_by planners history) other) allowed in
    let known = known_planner planners history other has in
    let same = eqb-true other planner e in
    omega arith
closing_planner planners slots history planner event answer allowed e = cc

none_closed : (planner : ℕ) → is_closed planner [] ≡ false
unfolding is_closed
none_closed planner = refl

pub closed_known : (planners slots : ℕ) (history : History) → IsLawful planners slots history → (planner : ℕ) → is_closed planner history ≡ true → planner < planners
closed_known planners slots = by_pushes (λ h. IsLawful planners slots h → (planner : ℕ) → is_closed planner h ≡ true → planner < planners) (λ lawful planner e. let open_is = none_closed planner in cc) more
  where
    more : (h : History) (pair : Event × Reply) → (IsLawful planners slots h → (planner : ℕ) → is_closed planner h ≡ true → planner < planners)
        → IsLawful planners slots (h ++ pair ∷ []) → (planner : ℕ) → is_closed planner (h ++ pair ∷ []) ≡ true → planner < planners
    more h pair before lawful planner e =
        let (front, allowed) = lawful_front planners slots h pair.0 pair.1 lawful in
        elim (or_cases (is_closed planner h) (closes planner pair) (sym (closed_last h pair planner) ∙ e)) [
          | inl was ↦ before front planner was
          | inr now ↦ closing_planner planners slots h planner pair.0 pair.1 allowed now
        ]

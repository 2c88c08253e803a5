-- What the owner's view comes to in a run.

use Rattle.std.proofs.Common.{◌≡◌, ◌<◌, ◌≤◌, ℕ, ◌+◌, ◌-◌, zero, suc, Bool, true, false, List, [], ◌∷◌, ◌++◌, Option, Some, None, length, All, refl, ap, sym, ◌∙◌, subst, arith, append_assoc, append-nil, add-one}
use Rattle.std.specs.Prelude.{replicate, slice_get, slice_index, slice_set}
use Rattle.std.proofs.lemmas.List.{length_push, length-replicate}
use Rattle.std.proofs.lemmas.List.Elements.{All-tail}
use Rattle.std.proofs.lemmas.Option.{slice_get_within}
use Rattle.intake_rules.specs.History.{numbered_from}
use Rattle.intake_rules.specs.Intake.{jobs_of}
use Rattle.intake_rules.specs.Jobs.{AcceptedPlan}
use Rattle.bench_rule.specs.declared.views.View.{View}
use Rattle.bench_rule.specs.Views.{with_close, with_joined, with_posted, with_seat_out, with_shut, times, times_held}
use Rattle.judge_bench.specs.Keeping.{AllKnown, KeptNext, NextIsUnknown, NoneWaits, OnlyAccepts, with_all_closed, with_all_joined, with_all_out, with_more_finished}
use Rattle.judge_bench.specs.Bookkeeping.{Numbered}
use Rattle.judge_bench.specs.Runs.{AllAccepted}
use Rattle.judge_bench.specs.Submissions.{SubmissionParts, job_of, jobs_from}
use Rattle.judge_bench.proofs.JobsOf.{its_slot}

-- an index with nothing is past the end
none_past : {A : Type 0} (xs : List A) (index : ℕ) → slice_get xs index ≡ None → length xs ≤ index
none_past [] index at = omega arith
none_past (x ∷ xs) zero at = cc
none_past (x ∷ xs) (suc index) at = let rest = none_past xs index at in omega arith

-- so far the plans before those that are left were accepted
pub record AcceptedSoFar (slots planners : ℕ) (before view : View) (plans left : List SubmissionParts) : Type 0 where
  pub others : OnlyAccepts before view
  pub jobs : view.jobs ++ jobs_from (length view.jobs) left ≡ before.jobs ++ jobs_from (length before.jobs) plans
  pub room : length view.jobs + length left ≤ slots
  pub known : All (λ plan. plan.planner < planners) left

-- one plan more was accepted
pub one_accepted : (slots planners : ℕ) (before view : View) (plans left : List SubmissionParts) → AcceptedSoFar slots planners before view plans left
    → (plan : SubmissionParts) (rest : List SubmissionParts) → left ≡ plan ∷ rest
    → (later : View) → later ≡ with_posted view (job_of (length view.jobs) plan)
    → AcceptedSoFar slots planners before later plans rest
unfolding numbered_from
one_accepted slots planners before view plans left so_far plan rest at later is =
    let jobs = ap (λ (v : View). v.jobs) is in
    let old = so_far.others in
    let count = ap length jobs ∙ length_push view.jobs (job_of (length view.jobs) plan) in
    let long = ap length at in
    let h = so_far.room in record {
      others = record {
        closed = ap (λ (v : View). v.closed) is ∙ old.closed;
        seats_out = ap (λ (v : View). v.seats_out) is ∙ old.seats_out;
        held = ap (λ (v : View). v.held) is ∙ old.held;
        finished = ap (λ (v : View). v.finished) is ∙ old.finished;
      };
      jobs = ap (λ l. l ++ jobs_from (length later.jobs) rest) jobs
          ∙ ap (λ n. (view.jobs ++ job_of (length view.jobs) plan ∷ []) ++ jobs_from n rest) (count ∙ add-one (length view.jobs))
          ∙ append_assoc view.jobs (job_of (length view.jobs) plan ∷ []) (jobs_from (suc (length view.jobs)) rest)
          ∙ ap (λ l. view.jobs ++ jobs_from (length view.jobs) l) (sym at)
          ∙ so_far.jobs;
      room = omega arith;
      known = All-tail (λ (p : SubmissionParts). p.planner < planners) plan rest (subst (All (λ (p : SubmissionParts). p.planner < planners)) at so_far.known);
    }

-- once none is left, all plans were accepted
pub all_accepted : (slots planners : ℕ) (before view : View) (plans left : List SubmissionParts) → AcceptedSoFar slots planners before view plans left → left ≡ []
    → view.jobs ≡ before.jobs ++ jobs_from (length before.jobs) plans
unfolding numbered_from
all_accepted slots planners before view plans left so_far none =
    sym (append-nil view.jobs) ∙ ap (λ l. view.jobs ++ jobs_from (length view.jobs) l) (sym none) ∙ so_far.jobs

-- the first planners are closed, and so many others are open
abbrev pub with_first_closed : View → ℕ → ℕ → View
with_first_closed view count others = record view { closed = replicate count true ++ replicate others false }

set_next : (count others : ℕ) → slice_set (replicate count true ++ replicate (suc others) false) count true ≡ replicate (suc count) true ++ replicate others false
set_next zero others = refl
set_next (suc count) others = ap (λ l. true ∷ l) (set_next count others)

-- one planner more is closed
pub one_closed : (before view later : View) (count planners : ℕ) → count < planners → view ≡ with_first_closed before count (planners - count) → later ≡ with_close view count
    → later ≡ with_first_closed before (count + 1) (planners - (count + 1))
one_closed before view later count planners within was is =
    let left : planners - count ≡ suc (planners - (count + 1)) = omega arith in
    let closed = ap (λ n. slice_set (replicate count true ++ replicate n false) count true) left ∙ set_next count (planners - (count + 1)) ∙ ap (λ n. replicate n true ++ replicate (planners - (count + 1)) false) (sym (add-one count)) in
    is ∙ ap (λ (v : View). with_close v count) was ∙ (λ i. record before { closed = closed i })

-- a seat more that was handed in
pub one_joined : (before view later joined : View) (count : ℕ) (more : List ℕ) → view ≡ with_all_joined before count more → later ≡ with_joined view joined
    → later ≡ with_all_joined before (count + 1) (more ++ joined.finished)
one_joined before view later joined count more was is =
    let left : before.seats_out - count - 1 ≡ before.seats_out - (count + 1) = omega arith in
    is ∙ ap (λ (v : View). with_joined v joined) was
    ∙ (λ i. record before { seats_out = left i; finished = append_assoc before.finished more joined.finished i })

-- where nothing waits and the owner holds nothing, it knows each job to be finished
pub all_known : (view : View) → NoneWaits view → view.held ≡ [] → Numbered view.jobs → AllKnown view
all_known view none held numbered planner index job at =
    let (slot, whose, is) = its_slot planner view.jobs index job at in
    let number : job.number ≡ slot = numbered slot job is in
    let within : slot < length view.jobs = slice_get_within view.jobs slot job is in
    let known : times slot view.finished ≡ 0 → ⊥ = λ e. none slot (within, ap (times_held slot) held, e) in
    let same = ap (λ n. times n view.finished) number in
    omega arith

-- so where none is emitted any more, all were
pub no_next : (planner : ℕ) (view : View) → AllKnown view → NextIsUnknown planner view → slice_index view.emitted planner ≤ length (jobs_of planner view.jobs)
    → slice_index view.emitted planner ≡ length (jobs_of planner view.jobs)
no_next planner view known unknown within = by (slice_get (jobs_of planner view.jobs) index) refl
  where
    index : ℕ
    index = slice_index view.emitted planner

    by : (next : Option AcceptedPlan) → slice_get (jobs_of planner view.jobs) index ≡ next → index ≡ length (jobs_of planner view.jobs)
    by None at = let past = none_past (jobs_of planner view.jobs) index at in omega arith
    by (Some job) at = let one = known planner index job at in let none = unknown job at in absurd (omega arith)

-- what is known stays known while jobs and finished slots are the same
pub still_known : (before later : View) → later.jobs ≡ before.jobs → later.finished ≡ before.finished → AllKnown before → AllKnown later
still_known before later jobs finished known planner index job at =
    subst (λ l. 0 < times job.number l) (sym finished) (known planner index job (subst (λ l. slice_get (jobs_of planner l) index ≡ Some job) jobs at))

-- an emit that found none was the last of its planner
pub last_emitted : (planner : ℕ) (view later : View) (found : Bool) → found ≡ false → KeptNext planner found view later → AllKnown view → slice_index view.emitted planner ≤ length (jobs_of planner view.jobs)
    → slice_index later.emitted planner ≡ length (jobs_of planner later.jobs)
last_emitted planner view later true none kept known within = cc
last_emitted planner view later false none ((missed, is), unknown) known within =
    ap (λ (v : View). slice_index v.emitted planner) is
    ∙ no_next planner view known unknown within
    ∙ ap (λ (v : View). length (jobs_of planner v.jobs)) (sym is)

-- one seat more is out
pub one_out : (before view later : View) (count : ℕ) → view ≡ with_all_out before count → later ≡ with_seat_out view → later ≡ with_all_out before (count + 1)
one_out before view later count was is =
    let more : before.seats_out + count + 1 ≡ before.seats_out + (count + 1) = omega arith in
    is ∙ ap with_seat_out was ∙ (λ i. record before { seats_out = more i })

-- what the owner finished itself, and then the seats that were handed in
pub worked_and_joined : (before middle later : View) (count : ℕ) (own others : List ℕ) → middle ≡ with_more_finished before own → later ≡ with_all_joined middle count others
    → later ≡ with_all_joined before count (own ++ others)
worked_and_joined before middle later count own others one two =
    two ∙ ap (λ (v : View). with_all_joined v count others) one
    ∙ ap (λ l. record before { seats_out = before.seats_out - count; finished = l }) (append_assoc before.finished own others)

-- where all planners were open, all are closed
pub all_closed : (planners : ℕ) (before later : View) → before.closed ≡ replicate planners false → later ≡ with_all_closed before → later.closed ≡ replicate planners true
all_closed planners before later were is =
    ap (λ (v : View). v.closed) is ∙ ap (λ n. replicate n true) (ap length were ∙ length-replicate planners false)

-- once the bench is shut and all seats were handed in, no seat is out
pub all_in : (plans : List SubmissionParts) (view shut later : View) (count : ℕ) (more : List ℕ) → AllAccepted plans count view → shut ≡ with_shut view → later ≡ with_all_joined shut count more
    → AllAccepted plans 0 later
all_in plans view shut later count more accepted one two =
    let is = two ∙ ap (λ (v : View). with_all_joined v count more) one in
    let out = accepted.seats_out in
    let none : view.seats_out - count ≡ 0 = omega arith in record {
      jobs = ap (λ (v : View). v.jobs) is ∙ accepted.jobs;
      seats_out = ap (λ (v : View). v.seats_out) is ∙ none;
      held = ap (λ (v : View). v.held) is ∙ accepted.held;
    }

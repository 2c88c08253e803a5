-- What a worker has done so far, and how its work ends.

use Rattle.std.proofs.Common.{◌≡◌, ◌<◌, ◌≤◌, inr, ℕ, ◌+◌, ◌-◌, Bool, true, false, List, [], ◌∷◌, ◌++◌, Some, None, length, All, refl, ap, sym, ◌∙◌, subst, arith, append-nil, append_assoc, cond}
use Rattle.std.specs.Prelude.{MatchBool}
use Rattle.std.specs.List.{range_with_len}
use Rattle.std.proofs.lemmas.Bool.{eq-eqb}
use Rattle.std.proofs.lemmas.List.{length_push, length-append}
use Rattle.std.proofs.lemmas.List.Elements.{All-nil, All-cons, All-head, All-tail}
use Rattle.std.proofs.lemmas.List.FromFn.{length-range_with_len}
use Rattle.std.proofs.lemmas.Option.{slice_get_within}
use Rattle.bench_rule.specs.declared.views.Held.{Held}
use Rattle.bench_rule.specs.declared.views.View.{View}
use Rattle.bench_rule.specs.Views.{total, with_finished, with_handed_back, with_note, held_with, without_held}
use Rattle.bench_rule.proofs.Sums.{total-push}
use Rattle.intake_rules.specs.Jobs.{AcceptedPlan}
use Rattle.judge_bench.specs.declared.working.WorkFault.{WorkFault}
use Rattle.judge_bench.specs.declared.working.WorkFault.TheVariants as fault
use Rattle.judge_bench.specs.Seats.{round, PassedAll, TookOnRound}
use Rattle.judge_bench.specs.Turns.{NotJudgedFor}
use Rattle.judge_bench.specs.Work.{Round, found_none, found_job, IsRound, missed_in, missed_by, one_if_none, one_if_job, Went, EndsFor, Worked}

-- so far a seat went so often round all slots without a job, and finished each job that it found
pub record WorkedSoFar (slots count : ℕ) (before later : View) : Type 0 where
  pub rounds : List Round
  pub done : List ℕ
  pub went : Went slots before later rounds done
  pub none : total one_if_none rounds ≡ count
  pub all : total one_if_job rounds ≡ length done

-- nothing was done yet
pub nothing_done : (slots : ℕ) (view : View) → Went slots view view [] []
nothing_done slots view = record {
  each = All-nil (IsRound slots);
  held = refl;
  missed = sym (append-nil view.misses);
  finished = sym (append-nil view.finished);
}

missed_push : (slots : ℕ) (rounds : List Round) (last : Round) → missed_by slots (rounds ++ last ∷ []) ≡ missed_by slots rounds ++ missed_in slots last
missed_push slots [] last = append-nil (missed_in slots last)
missed_push slots (first ∷ others) last =
    ap (λ l. missed_in slots first ++ l) (missed_push slots others last) ∙ sym (append_assoc (missed_in slots first) (missed_by slots others) (missed_in slots last))

each_push : (slots : ℕ) (rounds : List Round) (last : Round) → All (IsRound slots) rounds → IsRound slots last → All (IsRound slots) (rounds ++ last ∷ [])
each_push slots [] last each is = All-cons (IsRound slots) last [] is each
each_push slots (first ∷ others) last each is =
    All-cons (IsRound slots) first (others ++ last ∷ []) (All-head (IsRound slots) first others each) (each_push slots others last (All-tail (IsRound slots) first others each) is)

length_round : (slots start : ℕ) → start ≤ slots → length (round slots start) ≡ slots
length_round slots start within =
    let both = length-append (range_with_len start (slots - start)) (range_with_len 0 start) in
    let first = length-range_with_len start (slots - start) in
    let second = length-range_with_len 0 start in
    both ∙ omega arith

-- without the entry that came first, the held slots are those of before
taken_out : (slot : ℕ) (job : AcceptedPlan) (held : List Held) → without_held slot (held_with slot job ∷ held) ≡ held
taken_out slot job held = ap (λ b. cond b held (held_with slot job ∷ without_held slot held)) (eq-eqb slot slot refl)

-- one round more
module _ (slots : ℕ) (before view later : View) (rounds : List Round) (done : List ℕ) (went : Went slots before view rounds done) (last : Round) (is : IsRound slots last) where
  went_on : (more : List ℕ) → later.held ≡ view.held → later.misses ≡ view.misses ++ missed_in slots last → later.finished ≡ view.finished ++ more
      → Went slots before later (rounds ++ last ∷ []) (done ++ more)
  went_on more held missed finished = record {
    each = each_push slots rounds last went.each is;
    held = held ∙ went.held;
    missed = missed
        ∙ ap (λ l. l ++ missed_in slots last) went.missed
        ∙ append_assoc before.misses (missed_by slots rounds) (missed_in slots last)
        ∙ ap (λ l. before.misses ++ l) (sym (missed_push slots rounds last));
    finished = finished ∙ ap (λ l. l ++ more) went.finished ∙ append_assoc before.finished done more;
  }

  went_on_without : later.held ≡ view.held → later.misses ≡ view.misses ++ missed_in slots last → later.finished ≡ view.finished → Went slots before later (rounds ++ last ∷ []) done
  went_on_without held missed finished = subst (Went slots before later (rounds ++ last ∷ [])) (append-nil done) (went_on [] held missed (finished ∙ sym (append-nil view.finished)))

module _ (slots count : ℕ) (before view : View) (so_far : WorkedSoFar slots count before view) where
  none_with : (last : Round) → total one_if_none (so_far.rounds ++ last ∷ []) ≡ count + one_if_none last
  none_with last = total-push one_if_none so_far.rounds last ∙ ap (λ n. n + one_if_none last) so_far.none

  jobs_with : (last : Round) → total one_if_job (so_far.rounds ++ last ∷ []) ≡ length so_far.done + one_if_job last
  jobs_with last = total-push one_if_job so_far.rounds last ∙ ap (λ n. n + one_if_job last) so_far.all

  took_in_round : (ticket : Held) (taken : View) → (took : TookOnRound slots ticket view taken) → IsRound slots (found_job took.0 took.1)
  took_in_round ticket taken (start, passed, within, at, is) =
      let inside = slice_get_within (round slots start) passed ticket.slot at in let long = length_round slots start within in (within, omega arith)

  pub job_finished : (ticket : Held) (taken later : View) → TookOnRound slots ticket view taken → later ≡ with_finished taken ticket.slot → WorkedSoFar slots count before later
  job_finished ticket taken later took made =
      let all = made ∙ ap (λ (v : View). with_finished v ticket.slot) took.4 in
      let last = found_job took.0 took.1 in
      let none : total one_if_none (so_far.rounds ++ last ∷ []) ≡ count + 0 = none_with last in
      let jobs : total one_if_job (so_far.rounds ++ last ∷ []) ≡ length so_far.done + 1 = jobs_with last in
      let more = length_push so_far.done ticket.slot in record {
        rounds = so_far.rounds ++ last ∷ [];
        done = so_far.done ++ ticket.slot ∷ [];
        went = went_on slots before view later so_far.rounds so_far.done so_far.went last (took_in_round ticket taken took) (ticket.slot ∷ [])
            (ap (λ (v : View). v.held) all ∙ taken_out ticket.slot ticket.job view.held) (ap (λ (v : View). v.misses) all) (ap (λ (v : View). v.finished) all);
        none = omega arith;
        all = omega arith;
      }

  pub still_noted : (ticket : Held) (taken later : View) → TookOnRound slots ticket view taken → later ≡ with_finished taken ticket.slot → view.noted ≡ true → later.noted ≡ true
  still_noted ticket taken later took made shut = ap (λ (v : View). v.noted) (made ∙ ap (λ (v : View). with_finished v ticket.slot) took.4) ∙ shut

  -- one round more without a job
  pub round_without_job : (later : View) (more : ℕ) → PassedAll slots view later → more ≡ count + 1 → WorkedSoFar slots more before later
  round_without_job later more (start, within, is) next =
      let last = found_none start in
      let none : total one_if_none (so_far.rounds ++ last ∷ []) ≡ count + 1 = none_with last in
      let jobs : total one_if_job (so_far.rounds ++ last ∷ []) ≡ length so_far.done + 0 = jobs_with last in record {
        rounds = so_far.rounds ++ last ∷ [];
        done = so_far.done;
        went = went_on_without slots before view later so_far.rounds so_far.done so_far.went last within (ap (λ (v : View). v.held) is) (ap (λ (v : View). v.misses) is) (ap (λ (v : View). v.finished) is);
        none = omega arith;
        all = omega arith;
      }

  -- a look may note that the bench is shut, and changes nothing else
  pub looked : (shut : Bool) (later : View) → MatchBool shut (later ≡ with_note view) (later ≡ view) → WorkedSoFar slots count before later × (shut ≡ true → later.noted ≡ true)
  looked true later is = (
    record {
      rounds = so_far.rounds;
      done = so_far.done;
      went = record {
        each = so_far.went.each;
        held = ap (λ (v : View). v.held) is ∙ so_far.went.held;
        missed = ap (λ (v : View). v.misses) is ∙ so_far.went.missed;
        finished = ap (λ (v : View). v.finished) is ∙ so_far.went.finished;
      };
      none = so_far.none;
      all = so_far.all;
    },
    λ e. ap (λ (v : View). v.noted) is,
  )
  looked false later is = (subst (λ v. WorkedSoFar slots count before v) (sym is) so_far, λ e. cc)

  module _ (MayHold : ℕ → Type 0) (idle : ℕ) where
    why_not_judged : (later : View) (rounds : List Round) (done : ℕ) (job : AcceptedPlan) (why : WorkFault) → NotJudgedFor MayHold job why
        → total one_if_job rounds ≡ done + 1 → total one_if_none rounds < idle → EndsFor MayHold idle later rounds done (Some why)
    why_not_judged later rounds done job fault.OutOfMemory reason jobs fewer = inr (jobs, fewer)
    why_not_judged later rounds done job (fault.Held number) reason jobs fewer = ((jobs, fewer), reason.1)
    why_not_judged later rounds done job fault.Idle reason jobs fewer = absurd reason

    -- a job was handed back
    pub ends_unjudged : (ticket : Held) (taken later : View) (why : WorkFault) → TookOnRound slots ticket view taken → later ≡ with_handed_back taken ticket.slot → NotJudgedFor MayHold ticket.job why
        → count < idle → Worked MayHold slots idle before later (Some why)
    ends_unjudged ticket taken later why took made reason fewer =
        let all = made ∙ ap (λ (v : View). with_handed_back v ticket.slot) took.4 in
        let last = found_job took.0 took.1 in
        let none : total one_if_none (so_far.rounds ++ last ∷ []) ≡ count + 0 = none_with last in record {
          rounds = so_far.rounds ++ last ∷ [];
          done = so_far.done;
          went = went_on_without slots before view later so_far.rounds so_far.done so_far.went last (took_in_round ticket taken took)
              (ap (λ (v : View). v.held) all ∙ taken_out ticket.slot ticket.job view.held) (ap (λ (v : View). v.misses) all) (ap (λ (v : View). v.finished) all);
          ends = why_not_judged later (so_far.rounds ++ last ∷ []) (length so_far.done) ticket.job why reason (jobs_with last) (omega arith);
        }

    -- no job was found after the bench was seen to be shut
    pub ends_shut : (later : View) → PassedAll slots view later → view.noted ≡ true → Worked MayHold slots idle before later None
    ends_shut later (start, within, is) noted =
        let last = found_none start in
        let jobs : total one_if_job (so_far.rounds ++ last ∷ []) ≡ length so_far.done + 0 = jobs_with last in record {
          rounds = so_far.rounds ++ last ∷ [];
          done = so_far.done;
          went = went_on_without slots before view later so_far.rounds so_far.done so_far.went last within (ap (λ (v : View). v.held) is) (ap (λ (v : View). v.misses) is) (ap (λ (v : View). v.finished) is);
          ends = ((so_far.rounds, start, refl), omega arith, ap (λ (v : View). v.noted) is ∙ noted);
        }

    -- no job was found in as many rounds as are allowed
    pub ends_idle : count ≡ idle → Worked MayHold slots idle before view (Some fault.Idle)
    ends_idle same = record {
      rounds = so_far.rounds;
      done = so_far.done;
      went = so_far.went;
      ends = (so_far.none ∙ same, so_far.all);
    }

-- How a worker's turn at a bench ends.

use Rattle.std.specs.Prelude.{◌≡◌, ◌⊎◌, ◌<◌, ◌≤◌, ℕ, ◌+◌, true, List, [], ◌∷◌, ◌++◌, All, Option, Some, None, length, take}
use Rattle.bench_rule.specs.declared.views.View.{View}
use Rattle.bench_rule.specs.Views.{total}
use Rattle.judge_bench.specs.declared.working.WorkFault.{WorkFault}
use Rattle.judge_bench.specs.declared.working.WorkFault.TheVariants.{OutOfMemory, Held, Idle}
use Rattle.judge_bench.specs.Seats.{round}

-- a round over the slots, with the slot at which it began: it found no job and missed all slots, or it found one after so many misses
pub data Round : Type 0 where
  found_none : ℕ → Round
  found_job : ℕ → ℕ → Round

-- a round begins at a slot or behind the last, and one that finds a job has not missed all slots before
abbrev pub IsRound : ℕ → Round → Type 0
IsRound slots (found_none start) = start ≤ slots
IsRound slots (found_job start missed) = (start ≤ slots) × (missed < slots)

-- the slots that a round missed, in order
abbrev pub missed_in : ℕ → Round → List ℕ
missed_in slots (found_none start) = round slots start
missed_in slots (found_job start missed) = take missed (round slots start)

-- the slots that some rounds missed, one round after another
abbrev pub missed_by : ℕ → List Round → List ℕ
missed_by slots [] = []
missed_by slots (first ∷ others) = missed_in slots first ++ missed_by slots others

-- 1 for a round that found no job
abbrev pub one_if_none : Round → ℕ
one_if_none (found_none start) = 1
one_if_none (found_job start missed) = 0

-- 1 for a round that found a job
abbrev pub one_if_job : Round → ℕ
one_if_job (found_none start) = 0
one_if_job (found_job start missed) = 1

-- what a seat has done after these rounds: it holds the same slots as before, has missed what the rounds missed, and has finished these slots
pub record Went (slots : ℕ) (before later : View) (rounds : List Round) (done : List ℕ) : Type 0 where
  pub each : All (IsRound slots) rounds
  pub held : later.held ≡ before.held
  pub missed : later.misses ≡ before.misses ++ missed_by slots rounds
  pub finished : later.finished ≡ before.finished ++ done

-- the last round found no job
abbrev pub EndsWithNone : List Round → Type 0
EndsWithNone rounds = (earlier : List Round) × (start : ℕ) × (rounds ≡ earlier ++ found_none start ∷ [])

-- each job that the rounds found was finished
abbrev pub FinishedAll : List Round → ℕ → Type 0
FinishedAll rounds done = total one_if_job rounds ≡ done

-- all jobs that the rounds found were finished, except one that was handed back; and fewer than `idle` rounds found none
abbrev pub HandedOneBack : ℕ → List Round → ℕ → Type 0
HandedOneBack idle rounds done = (total one_if_job rounds ≡ done + 1) × (total one_if_none rounds < idle)

-- why work ends after these rounds, in which it finished so many jobs: after a round without a job, if the bench was seen to be shut; because memory
-- ran out, before the first round or for a job that was handed back; for a job that the gate may hold; or after `idle` rounds without a job
abbrev pub EndsFor : (ℕ → Type 0) → ℕ → View → List Round → ℕ → Option WorkFault → Type 0
EndsFor MayHold idle later rounds done None = EndsWithNone rounds × FinishedAll rounds done × (later.noted ≡ true)
EndsFor MayHold idle later rounds done (Some OutOfMemory) = ((rounds ≡ []) × (done ≡ 0)) ⊎ HandedOneBack idle rounds done
EndsFor MayHold idle later rounds done (Some (Held job)) = HandedOneBack idle rounds done × MayHold job
EndsFor MayHold idle later rounds done (Some Idle) = (total one_if_none rounds ≡ idle) × FinishedAll rounds done

-- what is true of a seat after its work: it went round the slots, finished what it found or handed it back, and there is a reason why it ended
pub record Worked (MayHold : ℕ → Type 0) (slots idle : ℕ) (before later : View) (refused : Option WorkFault) : Type 0 where
  pub rounds : List Round
  pub done : List ℕ
  pub went : Went slots before later rounds done
  pub ends : EndsFor MayHold idle later rounds (length done) refused

-- What a history leaves with one pair more, by that pair.

use Rattle.std.proofs.Common.{◌≡◌, ℕ, ◌+◌, suc, Bool, true, false, not, ◌||◌, ◌&&◌, List, [], ◌∷◌, ◌++◌, Some, None, is_some, length, filter, slice_get, nat_eq, refl, ap, sym, ◌∙◌, arith, if◌then◌else◌}
use Rattle.std.specs.List.{filter_map}
use Rattle.std.proofs.lemmas.List.{length_push}
use Rattle.strips_task.specs.declared.plans.Plan.{Plan}
use Rattle.intake_rules.specs.declared.finding.Finding.{Finding}
use Rattle.intake_rules.specs.declared.reply.Reply.{Reply}
use Rattle.intake_rules.specs.declared.reply.Reply.TheVariants as reply
use Rattle.intake_rules.specs.declared.stage.Stage.TheVariants as stage
use Rattle.intake_rules.specs.History.{History, accepted_by, numbered_from, jobs, closes, is_closed, emitted_by, emitted, finished_by, finding_of, takes, returns, is_out, emits, is_emitted, stage_by, stage_in}
use Rattle.intake_rules.specs.Rules.{Event, submit, close, take_job, hand_back, finish, emit}
use Rattle.intake_rules.proofs.Numbered.{length-numbered, numbered_push}
use Rattle.intake_rules.proofs.Pushes.{any_last, filter_drops, filter_keeps, filter_map_drops, filter_map_keeps}

-- how often a job was given out, and how often it was handed back
abbrev pub taken_count : ℕ → History → ℕ
taken_count job history = length (filter (takes job) history)

abbrev pub returned_count : ℕ → History → ℕ
returned_count job history = length (filter (returns job) history)

-- the pair says nothing of jobs, findings or planners
pub record IsQuiet (pair : Event × Reply) : Type 0 where
  pub accepting : accepted_by pair ≡ None
  pub closing : (planner : ℕ) → closes planner pair ≡ false
  pub emitting : (planner : ℕ) → emitted_by planner pair ≡ None
  pub finishing : (job : ℕ) → finished_by job pair ≡ None
  pub taking : (job : ℕ) → takes job pair ≡ false
  pub returning : (job : ℕ) → returns job pair ≡ false
  pub giving : (job : ℕ) → emits job pair ≡ false

-- whether a pair of an event and this answer says something
abbrev pub tells : Event → Reply → Bool
tells (submit planner plan) (reply.Accepted number) = true
tells (close planner) reply.ClosedNow = true
tells take_job (reply.Taken job) = true
tells (hand_back job) reply.Returned = true
tells (finish job (Some finding)) reply.Finished = true
tells (emit planner) (reply.Emitted finding) = true
tells event answer = false

pub quiet : (event : Event) (answer : Reply) → tells event answer ≡ false → IsQuiet (event, answer)
quiet (submit planner plan) (reply.Accepted number) e = cc
quiet (close planner) reply.ClosedNow e = cc
quiet take_job (reply.Taken job) e = cc
quiet (hand_back job) reply.Returned e = cc
quiet (finish job (Some finding)) reply.Finished e = cc
quiet (emit planner) (reply.Emitted finding) e = cc
quiet event answer e = record {
  accepting = refl;
  closing = λ planner. refl;
  emitting = λ planner. refl;
  finishing = λ job. refl;
  taking = λ job. refl;
  returning = λ job. refl;
  giving = λ job. refl;
}

-- the two histories say the same of a job's way
pub record SameAt (before later : History) (job : ℕ) : Type 0 where
  pub found : finding_of job later ≡ finding_of job before
  pub taken : taken_count job later ≡ taken_count job before
  pub returned : returned_count job later ≡ returned_count job before
  pub given : is_emitted job later ≡ is_emitted job before

pub is_out_by : (history : History) (job : ℕ) → is_out job history ≡ (not (is_some (finding_of job history)) && nat_eq (taken_count job history) (suc (returned_count job history)))
unfolding is_out
is_out_by history job = refl

pub stage_in_by : (history : History) (job : ℕ)
    → stage_in history job ≡ (if is_emitted job history then stage.Emitted else stage_by (finding_of job history) (is_out job history))
unfolding stage_in
stage_in_by history job = refl

pub same_out : (before later : History) (job : ℕ) → SameAt before later job → is_out job later ≡ is_out job before
same_out before later job same =
    is_out_by later job
    ∙ (λ i. not (is_some (same.found i)) && nat_eq (same.taken i) (suc (same.returned i)))
    ∙ sym (is_out_by before job)

pub same_stage : (before later : History) (job : ℕ) → SameAt before later job → stage_in later job ≡ stage_in before job
same_stage before later job same =
    let out = same_out before later job same in
    stage_in_by later job
    ∙ (λ i. if same.given i then stage.Emitted else stage_by (same.found i) (out i))
    ∙ sym (stage_in_by before job)

module _ (history : History) (pair : Event × Reply) where
  pub jobs_same : accepted_by pair ≡ None → jobs (history ++ pair ∷ []) ≡ jobs history
  unfolding jobs
  jobs_same e = ap (numbered_from 0) (filter_map_drops accepted_by history pair e)

  pub jobs_more : (planner : ℕ) (plan : Plan) → accepted_by pair ≡ Some (planner, plan)
      → jobs (history ++ pair ∷ []) ≡ jobs history ++ record { number = length (jobs history); planner = planner; plan = plan } ∷ []
  unfolding jobs
  jobs_more planner plan e =
      ap (numbered_from 0) (filter_map_keeps accepted_by history pair (planner, plan) e)
      ∙ numbered_push 0 (filter_map accepted_by history) planner plan
      ∙ ap (λ k. numbered_from 0 (filter_map accepted_by history) ++ record { number = k; planner = planner; plan = plan } ∷ [])
      (let long = length-numbered 0 (filter_map accepted_by history) in
      let e : 0 + length (filter_map accepted_by history) ≡ length (numbered_from 0 (filter_map accepted_by history)) = omega arith in e)

  pub closed_last : (planner : ℕ) → is_closed planner (history ++ pair ∷ []) ≡ (is_closed planner history || closes planner pair)
  unfolding is_closed
  closed_last planner = any_last (closes planner) history pair

  pub emitted_same : (planner : ℕ) → emitted_by planner pair ≡ None → emitted planner (history ++ pair ∷ []) ≡ emitted planner history
  unfolding emitted
  emitted_same planner e = filter_map_drops (emitted_by planner) history pair e

  pub emitted_more : (planner : ℕ) (finding : Finding) → emitted_by planner pair ≡ Some finding → emitted planner (history ++ pair ∷ []) ≡ emitted planner history ++ finding ∷ []
  unfolding emitted
  emitted_more planner finding e = filter_map_keeps (emitted_by planner) history pair finding e

  pub finding_same : (job : ℕ) → finished_by job pair ≡ None → finding_of job (history ++ pair ∷ []) ≡ finding_of job history
  unfolding finding_of
  finding_same job e = ap (λ xs. slice_get xs 0) (filter_map_drops (finished_by job) history pair e)

  -- the first finding of a job is its finding
  pub finding_first : (job : ℕ) (finding : Finding) → finished_by job pair ≡ Some finding → finding_of job history ≡ None → finding_of job (history ++ pair ∷ []) ≡ Some finding
  unfolding finding_of
  finding_first job finding e none =
      ap (λ xs. slice_get xs 0) (filter_map_keeps (finished_by job) history pair finding e) ∙ at_front (filter_map (finished_by job) history) none
    where
      at_front : (xs : List Finding) → slice_get xs 0 ≡ None → slice_get (xs ++ finding ∷ []) 0 ≡ Some finding
      at_front [] f = refl
      at_front (x ∷ xs) f = cc

  pub given_last : (job : ℕ) → is_emitted job (history ++ pair ∷ []) ≡ (is_emitted job history || emits job pair)
  unfolding is_emitted
  given_last job = any_last (emits job) history pair

  pub taken_same : (job : ℕ) → takes job pair ≡ false → taken_count job (history ++ pair ∷ []) ≡ taken_count job history
  taken_same job e = ap length (filter_drops (takes job) history pair e)

  pub taken_more : (job : ℕ) → takes job pair ≡ true → taken_count job (history ++ pair ∷ []) ≡ suc (taken_count job history)
  taken_more job e = ap length (filter_keeps (takes job) history pair e) ∙ (let long = length_push (filter (takes job) history) pair in omega arith)

  pub returned_same : (job : ℕ) → returns job pair ≡ false → returned_count job (history ++ pair ∷ []) ≡ returned_count job history
  returned_same job e = ap length (filter_drops (returns job) history pair e)

  pub returned_more : (job : ℕ) → returns job pair ≡ true → returned_count job (history ++ pair ∷ []) ≡ suc (returned_count job history)
  returned_more job e = ap length (filter_keeps (returns job) history pair e) ∙ (let long = length_push (filter (returns job) history) pair in omega arith)

  or_none : (b c : Bool) → c ≡ false → (b || c) ≡ b
  or_none true c e = refl
  or_none false c e = e

  pub closed_same : (planner : ℕ) → closes planner pair ≡ false → is_closed planner (history ++ pair ∷ []) ≡ is_closed planner history
  closed_same planner e = closed_last planner ∙ or_none (is_closed planner history) (closes planner pair) e

  -- a pair that says nothing of a job leaves its way as it was
  pub same_at : (job : ℕ) → finished_by job pair ≡ None → takes job pair ≡ false → returns job pair ≡ false → emits job pair ≡ false → SameAt history (history ++ pair ∷ []) job
  same_at job a b c d = record {
    found = finding_same job a;
    taken = taken_same job b;
    returned = returned_same job c;
    given = given_last job ∙ or_none (is_emitted job history) (emits job pair) d;
  }

  -- a pair that says nothing leaves each job's way as it was
  pub quiet_at : IsQuiet pair → (job : ℕ) → SameAt history (history ++ pair ∷ []) job
  quiet_at silent job = same_at job (silent.finishing job) (silent.taking job) (silent.returning job) (silent.giving job)

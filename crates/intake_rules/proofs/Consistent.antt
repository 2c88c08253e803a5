-- What every lawful history keeps: how what it says of jobs, findings and planners hangs together.

use Rattle.std.proofs.Common.{◌≡◌, ◌⊎◌, ℕ, ◌<◌, ◌≤◌, suc, Bool, true, false, not, ◌&&◌, ◌||◌, [], ◌∷◌, Option, Some, None, is_some, length, slice_get, nat_eq, refl, ap, sym, ◌∙◌, arith, inl, inr, if◌then◌else◌}
use Rattle.std.specs.List.{filter_map, list_any, cons_option}
use Rattle.std.proofs.lemmas.Bool.{eqb-true, eq-eqb, ne_eqb}
use Rattle.std.proofs.lemmas.Option.{slice_get_within}
use Rattle.intake_rules.specs.declared.finding.Finding.{Finding}
use Rattle.intake_rules.specs.declared.reply.Reply.{Reply}
use Rattle.intake_rules.specs.declared.reply.Reply.TheVariants as reply
use Rattle.intake_rules.specs.declared.stage.Stage.TheVariants as stage
use Rattle.intake_rules.specs.History.{History, numbered_from, accepted_by, jobs, emitted_by, emitted, finding_of, is_out, emits, is_emitted, stage_by, stage_in}
use Rattle.intake_rules.specs.Intake.{jobs_of}
use Rattle.intake_rules.specs.Jobs.{AcceptedPlan}
use Rattle.intake_rules.specs.Rules.{Event, emit}
use Rattle.intake_rules.proofs.Ends.{taken_count, returned_count, is_out_by, stage_in_by}
use Rattle.intake_rules.proofs.Numbered.{stands_at, one_index}

pub record IsConsistent (history : History) : Type 0 where
  -- a job was handed back as often as it was given out, or once less, and then it is an accepted one
  pub out : (job : ℕ) → (taken_count job history ≡ returned_count job history) ⊎ ((taken_count job history ≡ suc (returned_count job history)) × (job < length (jobs history)))
  -- the finding of a job is of that job
  pub found : (job : ℕ) (finding : Finding) → finding_of job history ≡ Some finding → slice_get (jobs history) job ≡ Some finding.job
  -- the findings emitted for a planner are of its first jobs, in order
  pub first : (planner index : ℕ) (finding : Finding) → slice_get (emitted planner history) index ≡ Some finding → slice_get (jobs_of planner (jobs history)) index ≡ Some finding.job
  -- what was emitted is the finding of its job
  pub known : (planner index : ℕ) (finding : Finding) → slice_get (emitted planner history) index ≡ Some finding → finding_of finding.job.number history ≡ Some finding

pub none_consistent : IsConsistent []
unfolding emitted finding_of
none_consistent = record {
  out = λ job. inl refl;
  found = λ job finding e. cc;
  first = λ planner index finding e. cc;
  known = λ planner index finding e. cc;
}

-- a job of a planner stands at its number among all
pub planners_job : (history : History) (planner index : ℕ) (job : AcceptedPlan) → slice_get (jobs_of planner (jobs history)) index ≡ Some job
    → (job.planner ≡ planner) × (slice_get (jobs history) job.number ≡ Some job)
unfolding jobs
planners_job history planner index job e =
    let (i, number, whose, at) = stands_at 0 (filter_map accepted_by history) planner job index e in
    (whose, ap (λ k. slice_get (numbered_from 0 (filter_map accepted_by history)) k) (let f : job.number ≡ i = omega arith in f) ∙ at)

-- and at one index among the planner's
pub once : (history : History) (planner k l : ℕ) (job other : AcceptedPlan) → slice_get (jobs_of planner (jobs history)) k ≡ Some job
    → slice_get (jobs_of planner (jobs history)) l ≡ Some other → job.number ≡ other.number → k ≡ l
unfolding jobs
once history planner k l job other e f same = one_index 0 (filter_map accepted_by history) planner k l job other e f same

-- where the finding of a job was emitted, it stands among those emitted for some planner
abbrev pub StandsEmitted : ℕ → History → Type 0
StandsEmitted job history = (planner index : ℕ) × (finding : Finding) × (slice_get (emitted planner history) index ≡ Some finding) × (finding.job.number ≡ job)

pub where_emitted : (history : History) (job : ℕ) → is_emitted job history ≡ true → StandsEmitted job history
unfolding is_emitted emitted
where_emitted [] job e = cc
where_emitted ((event, answer) ∷ history) job e = by event answer e (where_emitted history job)
  where
    shifted : (event : Event) (answer : Reply) → StandsEmitted job history → StandsEmitted job ((event, answer) ∷ history)
    shifted event answer (planner, index, finding, stands, number) = at (emitted_by planner (event, answer)) refl
      where
        at : (o : Option Finding) → emitted_by planner (event, answer) ≡ o → StandsEmitted job ((event, answer) ∷ history)
        at None f = (planner, index, finding, ap (λ o. slice_get (cons_option o (filter_map (emitted_by planner) history)) index) f ∙ stands, number)
        at (Some other) f = (planner, suc index, finding, ap (λ o. slice_get (cons_option o (filter_map (emitted_by planner) history)) (suc index)) f ∙ stands, number)

    by : (event : Event) (answer : Reply) → (emits job (event, answer) || list_any (emits job) history) ≡ true
        → (list_any (emits job) history ≡ true → StandsEmitted job history) → StandsEmitted job ((event, answer) ∷ history)
    by (emit planner) (reply.Emitted finding) e rest = here (nat_eq finding.job.number job) refl e
      where
        here : (t : Bool) → nat_eq finding.job.number job ≡ t → (t || list_any (emits job) history) ≡ true → StandsEmitted job ((emit planner, reply.Emitted finding) ∷ history)
        here true t f = (
          planner,
          0,
          finding,
          ap (λ b. slice_get (cons_option (if b then Some finding else None) (filter_map (emitted_by planner) history)) 0) (eq-eqb planner planner refl),
          eqb-true finding.job.number job t,
        )
        here false t f = shifted (emit planner) (reply.Emitted finding) (rest f)
    by event answer e rest = shifted event answer (rest e)

-- the parts of a stage
waiting_parts : (given : Bool) (found : Option Finding) (out : Bool) → (if given then stage.Emitted else stage_by found out) ≡ stage.Waiting → (given ≡ false) × (found ≡ None) × (out ≡ false)
waiting_parts true found out e = cc
waiting_parts false (Some finding) out e = cc
waiting_parts false None true e = cc
waiting_parts false None false e = (refl, refl, refl)

out_parts : (given : Bool) (found : Option Finding) (out : Bool) → (if given then stage.Emitted else stage_by found out) ≡ stage.Out → (given ≡ false) × (found ≡ None) × (out ≡ true)
out_parts true found out e = cc
out_parts false (Some finding) out e = cc
out_parts false None true e = (refl, refl, refl)
out_parts false None false e = cc

finished_parts : (given : Bool) (found : Option Finding) (out : Bool) (finding : Finding) → (if given then stage.Emitted else stage_by found out) ≡ stage.Finished finding → (given ≡ false) × (found ≡ Some finding)
finished_parts true found out finding e = cc
finished_parts false (Some other) out finding e = (refl, cc)
finished_parts false None true finding e = cc
finished_parts false None false finding e = cc

module _ (history : History) (job : ℕ) where
  pub stage_from : (given : Bool) (found : Option Finding) (out : Bool) → is_emitted job history ≡ given → finding_of job history ≡ found → is_out job history ≡ out
      → stage_in history job ≡ (if given then stage.Emitted else stage_by found out)
  stage_from given found out a b c = stage_in_by history job ∙ (λ i. if a i then stage.Emitted else stage_by (b i) (c i))

  -- a job that was given out once more than it was handed back is out, unless it is finished
  pub out_from : finding_of job history ≡ None → taken_count job history ≡ suc (returned_count job history) → is_out job history ≡ true
  out_from none more =
      is_out_by history job
      ∙ ap (λ (o : Option Finding). not (is_some o) && nat_eq (taken_count job history) (suc (returned_count job history))) none
      ∙ eq-eqb (taken_count job history) (suc (returned_count job history)) more

  pub not_out_from : taken_count job history ≡ returned_count job history → is_out job history ≡ false
  not_out_from same = is_out_by history job ∙ by (is_some (finding_of job history)) (nat_eq (taken_count job history) (suc (returned_count job history))) (ne_eqb _ _ λ e. omega arith)
    where
      by : (finished more : Bool) → more ≡ false → (not finished && more) ≡ false
      by true more e = refl
      by false more e = e

  module _ (consistent : IsConsistent history) where
    -- a job that waits is neither emitted nor finished, and was handed back as often as it was given out
    pub waiting_from : stage_in history job ≡ stage.Waiting → (is_emitted job history ≡ false) × (finding_of job history ≡ None) × (taken_count job history ≡ returned_count job history)
    waiting_from e =
        let (given, found, out) = waiting_parts (is_emitted job history) (finding_of job history) (is_out job history) (sym (stage_in_by history job) ∙ e) in (
          given,
          found,
          elim (consistent.out job) [
            | inl same ↦ same
            | inr more ↦ (let is = out_from found more.0 in cc)
          ],
        )

    -- a job that is out is neither emitted nor finished, and was given out once more than it was handed back
    pub out_in : stage_in history job ≡ stage.Out → (is_emitted job history ≡ false) × (finding_of job history ≡ None) × (taken_count job history ≡ suc (returned_count job history))
    out_in e =
        let (given, found, out) = out_parts (is_emitted job history) (finding_of job history) (is_out job history) (sym (stage_in_by history job) ∙ e) in (
          given,
          found,
          elim (consistent.out job) [
            | inl same ↦ (let is_not = not_out_from same in cc)
            | inr more ↦ more.0
          ],
        )

    pub finished_in : (finding : Finding) → stage_in history job ≡ stage.Finished finding → (is_emitted job history ≡ false) × (finding_of job history ≡ Some finding)
    finished_in finding e =
        finished_parts (is_emitted job history) (finding_of job history) (is_out job history) finding (sym (stage_in_by history job) ∙ e)

    -- what was emitted was found
    pub emitted_found : is_emitted job history ≡ true → (finding : Finding) × (finding_of job history ≡ Some finding)
    emitted_found e =
        let (planner, index, finding, stands, number) = where_emitted history job e in
        (finding, ap (λ k. finding_of k history) (sym number) ∙ consistent.known planner index finding stands)

    -- of a job that there is not nothing is known
    pub beyond_found : length (jobs history) ≤ job → finding_of job history ≡ None
    beyond_found h = by (finding_of job history) refl
      where
        by : (found : Option Finding) → finding_of job history ≡ found → finding_of job history ≡ None
        by None e = e
        by (Some finding) e = absurd (let within = slice_get_within (jobs history) job finding.job (consistent.found job finding e) in omega arith)

    pub beyond_emitted : length (jobs history) ≤ job → is_emitted job history ≡ false
    beyond_emitted h = by (is_emitted job history) refl
      where
        by : (given : Bool) → is_emitted job history ≡ given → is_emitted job history ≡ false
        by false e = e
        by true e = let (finding, found) = emitted_found e in let none = beyond_found h in cc

    pub beyond_stage : length (jobs history) ≤ job → stage_in history job ≡ stage.Waiting
    beyond_stage h = stage_from false None false (beyond_emitted h) (beyond_found h) (not_out_from (elim (consistent.out job) [
      | inl same ↦ same
      | inr more ↦ absurd (let within = more.1 in omega arith)
    ]))

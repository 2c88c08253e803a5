-- What is refused, and that it changes nothing.

use Rattle.std.proofs.Common.{◌≡◌, ℕ, ◌<◌, zero, suc, Bool, true, false, not, ◌&&◌, List, [], ◌∷◌, ◌++◌, Option, Some, None, is_some, length, slice_get, take, refl, ap, sym, ◌∙◌, subst, inl, inr}
use Rattle.std.proofs.lemmas.Bool.{false_from_ne_true}
use Rattle.std.proofs.lemmas.Option.{slice_get_within}
use Rattle.intake_rules.specs.declared.finding.Finding.{Finding}
use Rattle.intake_rules.specs.declared.refusal.Refusal.{Refusal}
use Rattle.intake_rules.specs.declared.refusal.Refusal.TheVariants as refusal
use Rattle.intake_rules.specs.declared.reply.Reply.{Reply}
use Rattle.intake_rules.specs.declared.reply.Reply.TheVariants as reply
use Rattle.intake_rules.specs.History.{History, jobs, finding_of, is_finished, is_out, is_emitted, stage_in, left_by, IsLawful}
use Rattle.intake_rules.specs.Intake.{is_out_stage, is_finished_stage}
use Rattle.intake_rules.specs.Laws.{LeaveTheSame, RefusalsChangeNothing, RefusedAfterClose, RefusedDoubled, RefusedStrange}
use Rattle.intake_rules.specs.Rules.{Event, submit, finish, first_that_applies, refused_or, is_of_job}
use Rattle.intake_rules.proofs.Allowed.{same_job_from_test}
use Rattle.intake_rules.proofs.Consistent.{IsConsistent, stage_from, emitted_found, not_out_from}
use Rattle.intake_rules.proofs.Ends.{IsQuiet, tells, quiet, quiet_at, is_out_by, same_out, jobs_same, closed_same, emitted_same, finding_same}
use Rattle.intake_rules.proofs.Lawful.{lawful_prefix, consistent_lawful, closed_known, planner_left, closed_left, job_left, no_job_left, jobs_left, stage_left}

-- the first elements with the next
pub take_next : {A : Type 0} (xs : List A) (i : ℕ) (x : A) → slice_get xs i ≡ Some x → take (suc i) xs ≡ take i xs ++ x ∷ []
take_next [] i x e = cc
take_next (y ∷ ys) zero x e = let same : y ≡ x = cc in ap (λ z. z ∷ []) same
take_next (y ∷ ys) (suc i) x e = ap (λ zs. y ∷ zs) (take_next ys i x e)

-- a pair that says nothing leaves all as it was
quiet_same : (history : History) (pair : Event × Reply) → IsQuiet pair → LeaveTheSame history (history ++ pair ∷ [])
quiet_same history pair silent = record {
  same_jobs = jobs_same history pair silent.accepting;
  same_closed = λ planner. closed_same history pair planner (silent.closing planner);
  same_emitted = λ planner. emitted_same history pair planner (silent.emitting planner);
  same_findings = λ job. finding_same history pair job (silent.finishing job);
  same_out = λ job. same_out history (history ++ pair ∷ []) job (quiet_at history pair silent job);
}

refusal_tells : (event : Event) (why : Refusal) → tells event (reply.Refused why) ≡ false
refusal_tells (finish job None) why = refl
refusal_tells (finish job (Some finding)) why = refl
refusal_tells event why = refl

pub refusals_change_nothing : (history : History) → RefusalsChangeNothing history
refusals_change_nothing history index event why e =
    subst (λ (h : History). LeaveTheSame (take index history) h) (sym (take_next history index (event, reply.Refused why) e)) (quiet_same (take index history) (event, reply.Refused why) (quiet event (reply.Refused why) (refusal_tells event why)))

-- the rows of a submit and of a finish
submit_closed : (has closed full : Bool) (done : Reply) → has ≡ true → closed ≡ true
    → refused_or (first_that_applies ((not has, refusal.NoPlanner) ∷ (closed, refusal.Closed) ∷ (full, refusal.Full) ∷ [])) done ≡ reply.Refused refusal.Closed
submit_closed true true full done a b = refl
submit_closed false closed full done a b = cc
submit_closed true false full done a b = cc

abbrev finish_answer : Bool → Bool → Bool → Bool → Reply
finish_answer known finished out same =
    refused_or (first_that_applies ((not known, refusal.UnknownJob) ∷ (finished, refusal.AlreadyFinished) ∷ (not out, refusal.NotOut) ∷ (not same, refusal.OtherPlan) ∷ [])) reply.Finished

finish_unknown : (known finished out same : Bool) → known ≡ false → finish_answer known finished out same ≡ reply.Refused refusal.UnknownJob
finish_unknown false finished out same a = refl
finish_unknown true finished out same a = cc

finish_doubled : (known finished out same : Bool) → known ≡ true → finished ≡ true → finish_answer known finished out same ≡ reply.Refused refusal.AlreadyFinished
finish_doubled true true out same a b = refl
finish_doubled false finished out same a b = cc
finish_doubled true false out same a b = cc

finish_not_out : (known finished out same : Bool) → known ≡ true → finished ≡ false → out ≡ false → finish_answer known finished out same ≡ reply.Refused refusal.NotOut
finish_not_out true false false same a b c = refl
finish_not_out false finished out same a b c = cc
finish_not_out true true out same a b c = cc
finish_not_out true false true same a b c = cc

finish_other : (known finished out same : Bool) → known ≡ true → finished ≡ false → out ≡ true → same ≡ false → finish_answer known finished out same ≡ reply.Refused refusal.OtherPlan
finish_other true false true false a b c d = refl
finish_other false finished out same a b c d = cc
finish_other true true out same a b c d = cc
finish_other true false false same a b c d = cc
finish_other true false true true a b c d = cc

-- a job that has a finding is at a finished stage
pub finished_stage : (history : History) (job : ℕ) → is_finished job history ≡ true → is_finished_stage (stage_in history job) ≡ true
finished_stage history job e = by (is_emitted job history) (finding_of job history) refl refl e
  where
    by : (given : Bool) (found : Option Finding) → is_emitted job history ≡ given → finding_of job history ≡ found → is_some found ≡ true → is_finished_stage (stage_in history job) ≡ true
    by true found a b f = ap is_finished_stage (stage_from history job true found (is_out job history) a b refl)
    by false (Some finding) a b f = ap is_finished_stage (stage_from history job false (Some finding) (is_out job history) a b refl)
    by false None a b f = cc

none_found : (found : Option Finding) → is_some found ≡ false → found ≡ None
none_found None e = refl
none_found (Some finding) e = cc

-- a job that is out has no finding
unfinished_out : (found : Option Finding) (more : Bool) → (not (is_some found) && more) ≡ true → found ≡ None
unfinished_out None more e = refl
unfinished_out (Some finding) more e = cc

module _ (planners slots : ℕ) (history : History) (lawful : IsLawful planners slots history) where
  before_consistent : (index : ℕ) → IsConsistent (take index history)
  before_consistent index = consistent_lawful planners slots (take index history) (lawful_prefix planners slots history index lawful)

  pub refused_after_close : RefusedAfterClose history
  refused_after_close index planner plan answer e closed =
      let known = closed_known planners slots (take index history) (lawful_prefix planners slots history index lawful) planner closed in
      let has = planner_left planners (take index history) planner known in
      let is = closed_left planners (take index history) planner known ∙ closed in
      lawful index (submit planner plan) answer e ∙ submit_closed _ _ _ _ has is

  -- a job that is not emitted, with what was found of it
  not_emitted : (index job : ℕ) → finding_of job (take index history) ≡ None → is_emitted job (take index history) ≡ false
  not_emitted index job none = false_from_ne_true (is_emitted job (take index history)) λ given.
      let (finding, found) = emitted_found (take index history) job (before_consistent index) given in
      cc

  -- a job with a finding is an accepted one
  finished_within : (index job : ℕ) → is_finished job (take index history) ≡ true → job < length (jobs (take index history))
  finished_within index job e = by (finding_of job (take index history)) refl e
    where
      by : (found : Option Finding) → finding_of job (take index history) ≡ found → is_some found ≡ true → job < length (jobs (take index history))
      by None f g = cc
      by (Some finding) f g = slice_get_within (jobs (take index history)) job finding.job ((before_consistent index).found job finding f)

  -- a job that is out is an accepted one
  out_within : (index job : ℕ) → is_out job (take index history) ≡ true → job < length (jobs (take index history))
  out_within index job e = elim ((before_consistent index).out job) [
    | inl same ↦ (let not_so = not_out_from (take index history) job same in cc)
    | inr more ↦ more.1
  ]

  pub refused_doubled : RefusedDoubled history
  refused_doubled index job finding answer e finished =
      let within = finished_within index job finished in
      let known = job_left planners (take index history) job within in
      let is = ap is_finished_stage (stage_left planners (take index history) job within) ∙ finished_stage (take index history) job finished in
      lawful index (finish job (Some finding)) answer e ∙ finish_doubled _ _ _ _ known is

  pub refused_strange : RefusedStrange history
  refused_strange index job None answer e = lawful index (finish job None) answer e
  refused_strange index job (Some finding) answer e = record {
    unknown_job = λ past. lawful index (finish job (Some finding)) answer e ∙ finish_unknown _ _ _ _ (no_job_left planners (take index history) job past);
    not_out = λ within unfinished inside.
        let none = none_found (finding_of job (take index history)) unfinished in
        let at = stage_left planners (take index history) job within ∙ stage_from (take index history) job false None false (not_emitted index job none) none inside in
        lawful index (finish job (Some finding)) answer e
        ∙ finish_not_out _ _ _ _ (job_left planners (take index history) job within) (ap is_finished_stage at) (ap is_out_stage at);
    other_plan = λ out apart.
        let none = unfinished_out (finding_of job (take index history)) _ (sym (is_out_by (take index history) job) ∙ out) in
        let within = out_within index job out in
        let at = stage_left planners (take index history) job within ∙ stage_from (take index history) job false None true (not_emitted index job none) none out in
        lawful index (finish job (Some finding)) answer e
        ∙ finish_other _ _ _ _ (job_left planners (take index history) job within) (ap is_finished_stage at) (ap is_out_stage at)
        (false_from_ne_true (is_of_job (left_by planners (take index history)) job finding) λ same.
        apart (ap (λ xs. slice_get xs job) (sym (jobs_left planners (take index history))) ∙ same_job_from_test (slice_get (left_by planners (take index history)).jobs job) finding.job same));
  }

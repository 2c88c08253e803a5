-- One pair more, by what was answered: the history stays consistent, and leaves the intake as the rules have it afterwards.

use Rattle.std.proofs.Common.{◌≡◌, ◌⊎◌, ℕ, ◌<◌, ◌≤◌, suc, Bool, true, false, ◌||◌, List, [], ◌∷◌, ◌++◌, Some, None, length, map, slice_get, slice_index, set, nat_eq, refl, ap, sym, ◌∙◌, arith, inl, inr, if◌then◌else◌, subst}
use Rattle.std.proofs.lemmas.Bool.{eq-eqb, ne_eqb, cases_eq}
use Rattle.std.proofs.lemmas.List.{length_push}
use Rattle.std.proofs.lemmas.Option.{slice_get_within}
use Rattle.strips_task.specs.declared.plans.Plan.{Plan}
use Rattle.intake_rules.specs.declared.finding.Finding.{Finding}
use Rattle.intake_rules.specs.declared.reply.Reply.{Reply}
use Rattle.intake_rules.specs.declared.reply.Reply.TheVariants as reply
use Rattle.intake_rules.specs.declared.stage.Stage.{Stage}
use Rattle.intake_rules.specs.declared.stage.Stage.TheVariants as stage
use Rattle.intake_rules.specs.History.{History, accepted_by, jobs, closes, is_closed, emitted_by, emitted, finding_of, is_out, is_emitted, stage_in, below, left_by}
use Rattle.intake_rules.specs.Intake.{with_stage, jobs_of}
use Rattle.intake_rules.specs.Jobs.{AcceptedPlan}
use Rattle.intake_rules.specs.Rules.{Event, submit, close, take_job, hand_back, finish, emit, after}
use Rattle.intake_rules.proofs.Consistent.{IsConsistent, planners_job, waiting_from, out_in, finished_in, stage_from, out_from, not_out_from, beyond_stage}
use Rattle.intake_rules.proofs.Ends.{taken_count, returned_count, SameAt, IsQuiet, quiet_at, same_stage, jobs_same, jobs_more, closed_last, closed_same, emitted_same, emitted_more, finding_same, finding_first, given_last, taken_same, taken_more, returned_same, returned_more, same_at}
use Rattle.intake_rules.proofs.Numbered.{jobs_of_push}
use Rattle.intake_rules.proofs.Pushes.{slice_get_kept, slice_get_cases}
use Rattle.intake_rules.proofs.Tables.{table_same, table_set, table_more, length-table, get_or-table, slice_get-table}

or_true : (b c : Bool) → c ≡ true → (b || c) ≡ true
or_true true c e = refl
or_true false c e = e

or_false : (b : Bool) → b ≡ false → (b || false) ≡ false
or_false true e = e
or_false false e = refl

-- the later history has the jobs of the earlier at their indexes, and perhaps more
record Grows (before later : History) : Type 0 where
  pub kept : (index : ℕ) (job : AcceptedPlan) → slice_get (jobs before) index ≡ Some job → slice_get (jobs later) index ≡ Some job
  pub kept_of : (planner index : ℕ) (job : AcceptedPlan) → slice_get (jobs_of planner (jobs before)) index ≡ Some job → slice_get (jobs_of planner (jobs later)) index ≡ Some job
  pub count : length (jobs before) ≤ length (jobs later)

grows_same : (before later : History) → jobs later ≡ jobs before → Grows before later
grows_same before later e = record {
  kept = λ index job f. ap (λ xs. slice_get xs index) e ∙ f;
  kept_of = λ planner index job f. ap (λ xs. slice_get (jobs_of planner xs) index) e ∙ f;
  count = (let long = ap length e in omega arith);
}

grows_more : (before later : History) (new : AcceptedPlan) → jobs later ≡ jobs before ++ new ∷ [] → Grows before later
grows_more before later new e = record {
  kept = λ index job f. ap (λ xs. slice_get xs index) e ∙ slice_get_kept (jobs before) new job index f;
  kept_of = λ planner index job f. ap (λ xs. slice_get (jobs_of planner xs) index) e ∙ jobs_of_push planner (jobs before) new job index f;
  count = (let long = ap length e in let push = length_push (jobs before) new in omega arith);
}

-- what a consistent history says of how often a job was given out
abbrev OutAt : History → ℕ → Type 0
OutAt history job = (taken_count job history ≡ returned_count job history) ⊎ ((taken_count job history ≡ suc (returned_count job history)) × (job < length (jobs history)))

out_kept : (before later : History) (job : ℕ) → OutAt before job → Grows before later → SameAt before later job → OutAt later job
out_kept before later job out grows same = elim out [
  | inl equal ↦ inl (same.taken ∙ equal ∙ sym same.returned)
  | inr more ↦ inr (same.taken ∙ more.0 ∙ ap suc (sym same.returned), (let within = more.1 in let count = grows.count in omega arith))
]

consistent_from : (before later : History) → IsConsistent before → Grows before later
    → ((job : ℕ) → OutAt later job)
    → ((job : ℕ) (finding : Finding) → finding_of job before ≡ Some finding → finding_of job later ≡ Some finding)
    → ((job : ℕ) (finding : Finding) → finding_of job later ≡ Some finding → (finding_of job before ≡ Some finding) ⊎ (slice_get (jobs later) job ≡ Some finding.job))
    → ((planner index : ℕ) (finding : Finding) → slice_get (emitted planner later) index ≡ Some finding
    → (slice_get (emitted planner before) index ≡ Some finding)
    ⊎ ((slice_get (jobs_of planner (jobs later)) index ≡ Some finding.job) × (finding_of finding.job.number before ≡ Some finding)))
    → IsConsistent later
consistent_from before later consistent grows out kept found given = record {
  out = out;
  found = λ job finding e. elim (found job finding e) [
    | inl was ↦ grows.kept job finding.job (consistent.found job finding was)
    | inr new ↦ new
  ];
  first = λ planner index finding e. elim (given planner index finding e) [
    | inl was ↦ grows.kept_of planner index finding.job (consistent.first planner index finding was)
    | inr new ↦ new.0
  ];
  known = λ planner index finding e. elim (given planner index finding e) [
    | inl was ↦ kept finding.job.number finding (consistent.known planner index finding was)
    | inr new ↦ kept finding.job.number finding new.1
  ];
}

-- the intake that a history leaves, by its parts
left_as : (planners : ℕ) (later : History) (those : List AcceptedPlan) (stages : List Stage) (closed : List Bool) (counts : List ℕ)
    → jobs later ≡ those → map (stage_in later) (below (length those)) ≡ stages → map (λ planner. is_closed planner later) (below planners) ≡ closed
    → map (λ planner. length (emitted planner later)) (below planners) ≡ counts
    → left_by planners later ≡ record { jobs = those; stages = stages; closed = closed; emitted = counts }
unfolding left_by
left_as planners later those stages closed counts a b c d =
    let at_stages = ap (λ xs. map (stage_in later) (below (length xs))) a ∙ b in
    λ i. record { jobs = a i; stages = at_stages i; closed = c i; emitted = d i }

-- what the pair leads to
abbrev pub Goes : ℕ → History → Event → Reply → Type 0
Goes planners history event answer = IsConsistent (history ++ (event, answer) ∷ []) × (left_by planners (history ++ (event, answer) ∷ []) ≡ after (left_by planners history) event answer)

module _ (planners : ℕ) (history : History) (pair : Event × Reply) where
  stages_same : (n : ℕ) → ((job : ℕ) → SameAt history (history ++ pair ∷ []) job) → map (stage_in (history ++ pair ∷ [])) (below n) ≡ map (stage_in history) (below n)
  stages_same n same = table_same (stage_in history) (stage_in (history ++ pair ∷ [])) n λ job h. same_stage history (history ++ pair ∷ []) job (same job)

  stages_set : (n job : ℕ) (now : Stage) → stage_in (history ++ pair ∷ []) job ≡ now → ((other : ℕ) → (other ≡ job → ⊥) → SameAt history (history ++ pair ∷ []) other)
      → map (stage_in (history ++ pair ∷ [])) (below n) ≡ set (map (stage_in history) (below n)) job now
  stages_set n job now e same =
      table_set (stage_in history) (stage_in (history ++ pair ∷ [])) n job now e λ other apart. same_stage history (history ++ pair ∷ []) other (same other apart)

  all_closed_same : ((planner : ℕ) → closes planner pair ≡ false)
      → map (λ planner. is_closed planner (history ++ pair ∷ [])) (below planners) ≡ map (λ planner. is_closed planner history) (below planners)
  all_closed_same none =
      table_same (λ planner. is_closed planner history) (λ planner. is_closed planner (history ++ pair ∷ [])) planners λ planner h. closed_same history pair planner (none planner)

  all_emitted_same : ((planner : ℕ) → emitted_by planner pair ≡ None)
      → map (λ planner. length (emitted planner (history ++ pair ∷ []))) (below planners) ≡ map (λ planner. length (emitted planner history)) (below planners)
  all_emitted_same none =
      table_same (λ planner. length (emitted planner history)) (λ planner. length (emitted planner (history ++ pair ∷ []))) planners
      λ planner h. ap length (emitted_same history pair planner (none planner))

  given_same : ((planner : ℕ) → emitted_by planner pair ≡ None) → (planner index : ℕ) (finding : Finding) → slice_get (emitted planner (history ++ pair ∷ [])) index ≡ Some finding
      → slice_get (emitted planner history) index ≡ Some finding
  given_same none planner index finding e = ap (λ xs. slice_get xs index) (sym (emitted_same history pair planner (none planner))) ∙ e

-- a pair that changes nothing
pub quiet_goes : (planners : ℕ) (history : History) (pair : Event × Reply) → IsConsistent history → IsQuiet pair
    → IsConsistent (history ++ pair ∷ []) × (left_by planners (history ++ pair ∷ []) ≡ left_by planners history)
unfolding left_by
quiet_goes planners history pair consistent silent = (
  consistent_from history (history ++ pair ∷ []) consistent grows
      (λ job. out_kept history (history ++ pair ∷ []) job (consistent.out job) grows (quiet_at history pair silent job))
      (λ job finding e. finding_same history pair job (silent.finishing job) ∙ e)
      (λ job finding e. inl (sym (finding_same history pair job (silent.finishing job)) ∙ e))
      (λ planner index finding e. inl (given_same planners history pair silent.emitting planner index finding e)),
  left_as planners (history ++ pair ∷ []) (jobs history) _ _ _ (jobs_same history pair silent.accepting)
      (stages_same planners history pair (length (jobs history)) (quiet_at history pair silent))
      (all_closed_same planners history pair silent.closing) (all_emitted_same planners history pair silent.emitting),
)
  where
    grows : Grows history (history ++ pair ∷ [])
    grows = grows_same history (history ++ pair ∷ []) (jobs_same history pair silent.accepting)

-- what holds of one number and of each other holds of all
by_number : (P : ℕ → Type 0) (one : ℕ) → P one → ((other : ℕ) → (other ≡ one → ⊥) → P other) → (n : ℕ) → P n
by_number P one here others n = elim (cases_eq n one) [
  | inl same ↦ subst P (sym same) here
  | inr apart ↦ others n apart
]

-- a pair that changes the stage of one job that is not emitted, and nothing else
way_goes : (planners : ℕ) (history : History) (pair : Event × Reply) → IsConsistent history → accepted_by pair ≡ None → ((planner : ℕ) → closes planner pair ≡ false)
    → ((planner : ℕ) → emitted_by planner pair ≡ None) → (job : ℕ) (now : Stage)
    → ((other : ℕ) → (other ≡ job → ⊥) → SameAt history (history ++ pair ∷ []) other)
    → stage_in (history ++ pair ∷ []) job ≡ now
    → (taken_count job (history ++ pair ∷ []) ≡ returned_count job (history ++ pair ∷ []))
    ⊎ ((taken_count job (history ++ pair ∷ []) ≡ suc (returned_count job (history ++ pair ∷ []))) × (job < length (jobs history)))
    → ((finding : Finding) → finding_of job history ≡ Some finding → finding_of job (history ++ pair ∷ []) ≡ Some finding)
    → ((finding : Finding) → finding_of job (history ++ pair ∷ []) ≡ Some finding → (finding_of job history ≡ Some finding) ⊎ (slice_get (jobs history) job ≡ Some finding.job))
    → IsConsistent (history ++ pair ∷ []) × (left_by planners (history ++ pair ∷ []) ≡ with_stage (left_by planners history) job now)
unfolding left_by
way_goes planners history pair consistent accepting closing emitting job now others stage out kept found = (
  consistent_from history later consistent grows
      (by_number (OutAt later) job here λ other apart. out_kept history later other (consistent.out other) grows (others other apart))
      (by_number (λ k. (finding : Finding) → finding_of k history ≡ Some finding → finding_of k later ≡ Some finding) job kept λ other apart finding e. (others other apart).found ∙ e)
      (by_number (λ k. (finding : Finding) → finding_of k later ≡ Some finding → (finding_of k history ≡ Some finding) ⊎ (slice_get (jobs later) k ≡ Some finding.job)) job new
      λ other apart finding e. inl (sym (others other apart).found ∙ e))
      (λ planner index finding e. inl (given_same planners history pair emitting planner index finding e)),
  left_as planners later (jobs history) _ _ _ (jobs_same history pair accepting) (stages_set planners history pair (length (jobs history)) job now stage others)
      (all_closed_same planners history pair closing) (all_emitted_same planners history pair emitting),
)
  where
    later : History
    later = history ++ pair ∷ []

    grows : Grows history (history ++ pair ∷ [])
    grows = grows_same history (history ++ pair ∷ []) (jobs_same history pair accepting)

    here : OutAt (history ++ pair ∷ []) job
    here = elim out [
      | inl same ↦ inl same
      | inr more ↦ inr (more.0, (let count = grows.count in let within = more.1 in omega arith))
    ]

    new : (finding : Finding) → finding_of job (history ++ pair ∷ []) ≡ Some finding
        → (finding_of job history ≡ Some finding) ⊎ (slice_get (jobs (history ++ pair ∷ [])) job ≡ Some finding.job)
    new finding e = elim (found finding e) [
      | inl was ↦ inl was
      | inr of ↦ inr (grows.kept job finding.job of)
    ]

module _ (planners : ℕ) (history : History) (consistent : IsConsistent history) where
  -- a plan is accepted
  pub accepted_goes : (planner : ℕ) (plan : Plan) (number : ℕ) → Goes planners history (submit planner plan) (reply.Accepted number)
  unfolding left_by
  accepted_goes planner plan number = (
    consistent_from history later consistent grows
        (λ job. out_kept history later job (consistent.out job) grows (same job))
        (λ job finding e. finding_same history pair job refl ∙ e)
        (λ job finding e. inl (sym (finding_same history pair job refl) ∙ e))
        (λ owner index finding e. inl (given_same planners history pair (λ other. refl) owner index finding e)),
    left_as planners later (jobs history ++ new ∷ []) _ _ _ (jobs_more history pair planner plan refl) stages
        (all_closed_same planners history pair λ other. refl) (all_emitted_same planners history pair λ other. refl),
  )
    where
      pair : Event × Reply
      pair = (submit planner plan, reply.Accepted number)

      later : History
      later = history ++ (submit planner plan, reply.Accepted number) ∷ []

      new : AcceptedPlan
      new = record { number = length (jobs history); planner = planner; plan = plan }

      same : (job : ℕ) → SameAt history later job
      same job = same_at history pair job refl refl refl refl

      grows : Grows history later
      grows = grows_more history later new (jobs_more history pair planner plan refl)

      stages : map (stage_in later) (below (length (jobs history ++ new ∷ []))) ≡ map (stage_in history) (below (length (jobs history))) ++ stage.Waiting ∷ []
      stages =
          ap (λ n. map (stage_in later) (below n)) (let long = length_push (jobs history) new in let e : length (jobs history ++ new ∷ []) ≡ suc (length (jobs history)) = omega arith in e)
          ∙ stages_same planners history pair (suc (length (jobs history))) same
          ∙ table_more (stage_in history) (length (jobs history))
          ∙ ap (λ s. map (stage_in history) (below (length (jobs history))) ++ s ∷ []) (beyond_stage history (length (jobs history)) consistent (omega arith))

  -- a planner is closed
  pub closed_goes : (planner : ℕ) → Goes planners history (close planner) reply.ClosedNow
  unfolding left_by
  closed_goes planner = (
    consistent_from history later consistent grows
        (λ job. out_kept history later job (consistent.out job) grows (same job))
        (λ job finding e. finding_same history pair job refl ∙ e)
        (λ job finding e. inl (sym (finding_same history pair job refl) ∙ e))
        (λ owner index finding e. inl (given_same planners history pair (λ other. refl) owner index finding e)),
    left_as planners later (jobs history) _ _ _ (jobs_same history pair refl) (stages_same planners history pair (length (jobs history)) same)
        closed (all_emitted_same planners history pair λ other. refl),
  )
    where
      pair : Event × Reply
      pair = (close planner, reply.ClosedNow)

      later : History
      later = history ++ (close planner, reply.ClosedNow) ∷ []

      same : (job : ℕ) → SameAt history later job
      same job = same_at history pair job refl refl refl refl

      grows : Grows history later
      grows = grows_same history later (jobs_same history pair refl)

      closed : map (λ other. is_closed other later) (below planners) ≡ set (map (λ other. is_closed other history) (below planners)) planner true
      closed =
          table_set (λ other. is_closed other history) (λ other. is_closed other later) planners planner true
          (closed_last history pair planner ∙ or_true (is_closed planner history) (nat_eq planner planner) (eq-eqb planner planner refl))
          λ other apart. closed_same history pair other (ne_eqb planner other λ e. apart (sym e))

  -- a job is given out
  pub taken_goes : (job : ℕ) → slice_get (left_by planners history).stages job ≡ Some stage.Waiting → Goes planners history take_job (reply.Taken job)
  unfolding left_by
  taken_goes job stands =
      way_goes planners history pair consistent refl (λ p. refl) (λ p. refl) job stage.Out others
      (stage_from (history ++ pair ∷ []) job false None true (given_last history pair job ∙ or_false (is_emitted job history) waits.0)
      (finding_same history pair job refl ∙ waits.1) (out_from (history ++ pair ∷ []) job (finding_same history pair job refl ∙ waits.1) more))
      (inr (more, within)) (λ finding e. finding_same history pair job refl ∙ e) (λ finding e. inl (sym (finding_same history pair job refl) ∙ e))
    where
      pair : Event × Reply
      pair = (take_job, reply.Taken job)

      others : (other : ℕ) → (other ≡ job → ⊥) → SameAt history (history ++ (take_job, reply.Taken job) ∷ []) other
      others other apart = same_at history pair other refl (ne_eqb job other λ e. apart (sym e)) refl refl

      within : job < length (jobs history)
      within = let inside = slice_get_within (map (stage_in history) (below (length (jobs history)))) job stage.Waiting stands in
          let long = length-table (stage_in history) (length (jobs history)) in omega arith

      waits : (is_emitted job history ≡ false) × (finding_of job history ≡ None) × (taken_count job history ≡ returned_count job history)
      waits = waiting_from history job consistent
          (let same : Some (stage_in history job) ≡ Some stage.Waiting = sym (slice_get-table (stage_in history) (length (jobs history)) job within) ∙ stands in cc)

      more : taken_count job (history ++ (take_job, reply.Taken job) ∷ []) ≡ suc (returned_count job (history ++ (take_job, reply.Taken job) ∷ []))
      more = taken_more history pair job (eq-eqb job job refl) ∙ ap suc (waits.2 ∙ sym (returned_same history pair job refl))

  -- a job is handed back
  pub returned_goes : (job : ℕ) → stage_in history job ≡ stage.Out → Goes planners history (hand_back job) reply.Returned
  unfolding left_by
  returned_goes job is =
      way_goes planners history pair consistent refl (λ p. refl) (λ p. refl) job stage.Waiting others
      (stage_from (history ++ pair ∷ []) job false None false (given_last history pair job ∙ or_false (is_emitted job history) was.0)
      (finding_same history pair job refl ∙ was.1) (not_out_from (history ++ pair ∷ []) job even))
      (inl even) (λ finding e. finding_same history pair job refl ∙ e) (λ finding e. inl (sym (finding_same history pair job refl) ∙ e))
    where
      pair : Event × Reply
      pair = (hand_back job, reply.Returned)

      others : (other : ℕ) → (other ≡ job → ⊥) → SameAt history (history ++ (hand_back job, reply.Returned) ∷ []) other
      others other apart = same_at history pair other refl refl (ne_eqb job other λ e. apart (sym e)) refl

      was : (is_emitted job history ≡ false) × (finding_of job history ≡ None) × (taken_count job history ≡ suc (returned_count job history))
      was = out_in history job consistent is

      even : taken_count job (history ++ (hand_back job, reply.Returned) ∷ []) ≡ returned_count job (history ++ (hand_back job, reply.Returned) ∷ [])
      even = taken_same history pair job refl ∙ was.2 ∙ sym (returned_more history pair job (eq-eqb job job refl))

  -- a finding is stored
  pub finished_goes : (job : ℕ) (finding : Finding) → stage_in history job ≡ stage.Out → slice_get (jobs history) job ≡ Some finding.job
      → Goes planners history (finish job (Some finding)) reply.Finished
  unfolding left_by
  finished_goes job finding is of =
      way_goes planners history pair consistent refl (λ p. refl) (λ p. refl) job (stage.Finished finding) others
      (stage_from (history ++ pair ∷ []) job false (Some finding) (is_out job (history ++ pair ∷ [])) (given_last history pair job ∙ or_false (is_emitted job history) was.0) now refl)
      (inr (taken_same history pair job refl ∙ was.2 ∙ ap suc (sym (returned_same history pair job refl)), slice_get_within (jobs history) job finding.job of))
      (λ one e. let none = was.1 in cc)
      λ one e. let equal : Some finding ≡ Some one = sym now ∙ e in
      let one_is : finding ≡ one = cc in
      inr (of ∙ ap (λ (x : Finding). Some x.job) one_is)
    where
      pair : Event × Reply
      pair = (finish job (Some finding), reply.Finished)

      others : (other : ℕ) → (other ≡ job → ⊥) → SameAt history (history ++ (finish job (Some finding), reply.Finished) ∷ []) other
      others other apart = same_at history pair other (ap (λ b. if b then Some finding else None) (ne_eqb job other λ e. apart (sym e))) refl refl refl

      was : (is_emitted job history ≡ false) × (finding_of job history ≡ None) × (taken_count job history ≡ suc (returned_count job history))
      was = out_in history job consistent is

      now : finding_of job (history ++ (finish job (Some finding), reply.Finished) ∷ []) ≡ Some finding
      now = finding_first history pair job finding (ap (λ b. if b then Some finding else None) (eq-eqb job job refl)) was.1

  -- a finding is emitted
  pub emitted_goes : (planner : ℕ) (finding : Finding) (job : AcceptedPlan) → planner < planners
      → slice_get (jobs_of planner (jobs history)) (length (emitted planner history)) ≡ Some job → stage_in history job.number ≡ stage.Finished finding
      → Goes planners history (emit planner) (reply.Emitted finding)
  unfolding left_by
  emitted_goes planner finding job known next is = (
    consistent_from history later consistent grows out
        (λ other one e. finding_same history pair other refl ∙ e)
        (λ other one e. inl (sym (finding_same history pair other refl) ∙ e))
        given,
    left_as planners later (jobs history) _ _ _ (jobs_same history pair refl)
        (stages_set planners history pair (length (jobs history)) finding.job.number stage.Emitted
        (stage_from later finding.job.number true (finding_of finding.job.number later) (is_out finding.job.number later)
        (given_last history pair finding.job.number ∙ or_true (is_emitted finding.job.number history) _ (eq-eqb finding.job.number finding.job.number refl)) refl refl)
        others)
        (all_closed_same planners history pair λ other. refl) counts,
  )
    where
      pair : Event × Reply
      pair = (emit planner, reply.Emitted finding)

      later : History
      later = history ++ (emit planner, reply.Emitted finding) ∷ []

      others : (other : ℕ) → (other ≡ finding.job.number → ⊥) → SameAt history later other
      others other apart = same_at history pair other refl refl refl (ne_eqb finding.job.number other λ e. apart (sym e))

      grows : Grows history later
      grows = grows_same history later (jobs_same history pair refl)

      out : (other : ℕ) → OutAt later other
      out other = elim (consistent.out other) [
        | inl equal ↦ inl (taken_same history pair other refl ∙ equal ∙ sym (returned_same history pair other refl))
        | inr more ↦ inr (
          taken_same history pair other refl ∙ more.0 ∙ ap suc (sym (returned_same history pair other refl)),
          (let count = grows.count in let within = more.1 in omega arith),
        )
      ]

      of_found : finding_of job.number history ≡ Some finding
      of_found = (finished_in history job.number consistent finding is).1

      -- the finding is of the planner's next job
      of_job : finding.job ≡ job
      of_job =
          let stands = (planners_job history planner (length (emitted planner history)) job next).1 in
          let equal : Some finding.job ≡ Some job = sym (consistent.found job.number finding of_found) ∙ stands in
          cc

      mine : emitted_by planner pair ≡ Some finding
      mine = ap (λ b. if b then Some finding else None) (eq-eqb planner planner refl)

      others_none : (other : ℕ) → (other ≡ planner → ⊥) → emitted_by other (emit planner, reply.Emitted finding) ≡ None
      others_none other apart = ap (λ b. if b then Some finding else None) (ne_eqb planner other λ e. apart (sym e))

      last : (index : ℕ) (one : Finding) → slice_get (emitted planner history ++ finding ∷ []) index ≡ Some one
          → (slice_get (emitted planner history) index ≡ Some one)
          ⊎ ((slice_get (jobs_of planner (jobs later)) index ≡ Some one.job) × (finding_of one.job.number history ≡ Some one))
      last index one e = elim (slice_get_cases (emitted planner history) finding one index e) [
        | inl was ↦ inl was.1
        | inr now ↦ inr (
          ap (λ k. slice_get (jobs_of planner (jobs later)) k) now.0
              ∙ grows.kept_of planner (length (emitted planner history)) job next
              ∙ ap Some (sym of_job)
              ∙ ap (λ (x : Finding). Some x.job) now.1,
          ap (λ (x : Finding). finding_of x.job.number history) (sym now.1)
              ∙ ap (λ (x : AcceptedPlan). finding_of x.number history) of_job
              ∙ of_found
              ∙ ap Some now.1,
        )
      ]

      given : (owner index : ℕ) (one : Finding) → slice_get (emitted owner later) index ≡ Some one
          → (slice_get (emitted owner history) index ≡ Some one)
          ⊎ ((slice_get (jobs_of owner (jobs later)) index ≡ Some one.job) × (finding_of one.job.number history ≡ Some one))
      given owner index one e = elim (cases_eq owner planner) [
        | inl same ↦
            subst (λ (p : ℕ). (slice_get (emitted p history) index ≡ Some one)
            ⊎ ((slice_get (jobs_of p (jobs later)) index ≡ Some one.job) × (finding_of one.job.number history ≡ Some one)))
            (sym same)
            (last index one (ap (λ xs. slice_get xs index) (sym (emitted_more history pair planner finding mine)) ∙ ap (λ p. slice_get (emitted p later) index) (sym same) ∙ e))
        | inr apart ↦ inl (ap (λ xs. slice_get xs index) (sym (emitted_same history pair owner (others_none owner apart))) ∙ e)
      ]

      counts : map (λ other. length (emitted other later)) (below planners)
          ≡ set (map (λ other. length (emitted other history)) (below planners)) planner (suc (slice_index (map (λ other. length (emitted other history)) (below planners)) planner))
      counts =
          table_set (λ other. length (emitted other history)) (λ other. length (emitted other later)) planners planner
          (suc (slice_index (map (λ other. length (emitted other history)) (below planners)) planner))
          (ap length (emitted_more history pair planner finding mine)
          ∙ (let long = length_push (emitted planner history) finding in
          let e : length (emitted planner history ++ finding ∷ []) ≡ suc (length (emitted planner history)) = omega arith in e)
          ∙ ap suc (sym (get_or-table (λ other. length (emitted other history)) planners planner 0 known)))
          λ other apart. ap length (emitted_same history pair other (others_none other apart))

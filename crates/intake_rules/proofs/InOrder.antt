-- What is emitted for a planner: the verdicts of its accepted plans in order, and all of them once it is closed and its jobs are finished.

use Rattle.std.proofs.Common.{◌≡◌, ◌⊎◌, ◌↔◌, ℕ, ◌<◌, ◌≤◌, zero, suc, Bool, true, false, List, [], ◌∷◌, Option, Some, None, is_some, length, map, slice_get, take, nat_eq, refl, ap, sym, ◌∙◌, subst, arith, inl, inr, if◌then◌else◌}
use Rattle.std.specs.List.{filter_map, cons_option}
use Rattle.std.proofs.lemmas.Bool.{false_from_ne_true}
use Rattle.std.proofs.lemmas.List.{length-map, take_all}
use Rattle.std.proofs.lemmas.Option.{slice_get_within, get_or_from_slice_get}
use Rattle.strips_task.specs.declared.costs.CostedTask.{CostedTask}
use Rattle.intake_rules.specs.declared.finding.Finding.{Finding}
use Rattle.intake_rules.specs.declared.refusal.Refusal.TheVariants as refusal
use Rattle.intake_rules.specs.declared.reply.Reply.{Reply}
use Rattle.intake_rules.specs.declared.reply.Reply.TheVariants as reply
use Rattle.intake_rules.specs.declared.stage.Stage.{Stage}
use Rattle.intake_rules.specs.declared.stage.Stage.TheVariants as stage
use Rattle.intake_rules.specs.Findings.{verdict_of, counted_cost, IsRight}
use Rattle.intake_rules.specs.History.{History, jobs, accepted, emitted, finished_by, finding_of, is_finished, is_out, is_emitted, left_by, IsLawful, IsRightFinish, HasRightFindings}
use Rattle.intake_rules.specs.Intake.{Intake, stage_of, jobs_of, next_job}
use Rattle.intake_rules.specs.Jobs.{AcceptedPlan}
use Rattle.intake_rules.specs.Laws.{VerdictsInOrder, WholeListOnceClosed, CompleteIsWhole}
use Rattle.intake_rules.specs.Rules.{Event, finish, emit, finding_at, emit_reply_of, nothing_left}
use Rattle.intake_rules.proofs.Consistent.{IsConsistent, planners_job, once, where_emitted, stage_from}
use Rattle.intake_rules.proofs.Lawful.{lawful_prefix, right_prefix, consistent_lawful, closed_known, planner_left, closed_left, next_left, stage_left, known_planner}

-- where each element of a list has one at its index in another with the same value, the values are the other's first
values_first : {A B V : Type 0} (f : A → V) (g : B → V) (xs : List A) (ys : List B)
    → ((index : ℕ) (x : A) → slice_get xs index ≡ Some x → (y : B) × (slice_get ys index ≡ Some y) × (f x ≡ g y))
    → (length xs ≤ length ys) × (map f xs ≡ take (length xs) (map g ys))
values_first f g [] ys each = (omega arith, refl)
values_first f g (x ∷ xs) [] each = let (y, at, same) = each 0 x refl in cc
values_first f g (x ∷ xs) (y ∷ ys) each =
    let (other, at, same) = each 0 x refl in
    let is : y ≡ other = cc in
    let (count, rest) = values_first f g xs ys λ index z e. each (suc index) z e in
    (omega arith, λ i. (same ∙ ap g (sym is)) i ∷ rest i)

map_twice : {A B C : Type 0} (f : B → C) (g : A → B) (xs : List A) → map f (map g xs) ≡ map (λ x. f (g x)) xs
map_twice f g [] = refl
map_twice f g (x ∷ xs) = ap (λ ys. f (g x) ∷ ys) (map_twice f g xs)

-- where all findings handed in are right, the finding of a job is
pub right_found : (task : CostedTask) (history : History) (job : ℕ) (finding : Finding) → HasRightFindings task history → finding_of job history ≡ Some finding → IsRight task finding
unfolding finding_of
right_found task [] job finding right e = cc
right_found task ((event, answer) ∷ history) job finding right e =
    by event answer (right 0 event answer refl) e (right_found task history job finding (λ index. right (suc index)))
  where
    by : (event : Event) (answer : Reply) → IsRightFinish task event
        → slice_get (filter_map (finished_by job) ((event, answer) ∷ history)) 0 ≡ Some finding
        → (slice_get (filter_map (finished_by job) history) 0 ≡ Some finding → IsRight task finding) → IsRight task finding
    by (finish other (Some one)) reply.Finished is e rest = at (nat_eq other job) e
      where
        at : (mine : Bool) → slice_get (cons_option (if mine then Some one else None) (filter_map (finished_by job) history)) 0 ≡ Some finding → IsRight task finding
        at true f = let same : one ≡ finding = cc in subst (λ (x : Finding). IsRight task x) same is
        at false f = rest f
    by event answer is e rest = rest e

module _ (history : History) (consistent : IsConsistent history) where
  pub emitted_within : (planner : ℕ) → length (emitted planner history) ≤ length (jobs_of planner (jobs history))
  emitted_within planner =
      (values_first (λ (finding : Finding). finding.job) (λ (job : AcceptedPlan). job) (emitted planner history) (jobs_of planner (jobs history))
      λ index finding e. (finding.job, consistent.first planner index finding e, refl)).0

  -- the next job of a planner was not emitted
  pub next_not_emitted : (planner : ℕ) (job : AcceptedPlan) → slice_get (jobs_of planner (jobs history)) (length (emitted planner history)) ≡ Some job → is_emitted job.number history ≡ false
  next_not_emitted planner job next = false_from_ne_true (is_emitted job.number history) λ given.
      let (owner, index, finding, stands, number) = where_emitted history job.number given in
      let theirs = consistent.first owner index finding stands in
      let (whose, at) = planners_job history owner index finding.job theirs in
      let (mine, here) = planners_job history planner (length (emitted planner history)) job next in
      let equal : Some finding.job ≡ Some job = sym at ∙ ap (λ k. slice_get (jobs history) k) number ∙ here in
      let one : finding.job ≡ job = cc in
      let owners : owner ≡ planner = sym whose ∙ ap (λ (x : AcceptedPlan). x.planner) one ∙ mine in
      let index_is = once history planner index (length (emitted planner history)) finding.job job (ap (λ p. slice_get (jobs_of p (jobs history)) index) (sym owners) ∙ theirs) next number in
      let within = slice_get_within (emitted owner history) index finding stands in
      let counts = ap (λ p. length (emitted p history)) owners in
      omega arith

pub verdicts_in_order : (planners slots : ℕ) (task : CostedTask) (history : History) → IsLawful planners slots history → HasRightFindings task history → VerdictsInOrder task history
unfolding accepted
verdicts_in_order planners slots task history lawful right planner = (
  (let long = length-map (jobs_of planner (jobs history)) (λ (job : AcceptedPlan). job.plan) in let less = verdicts.0 in omega arith),
  verdicts.1 ∙ ap (take (length (emitted planner history))) (sym (map_twice (verdict_of task) (λ (job : AcceptedPlan). job.plan) (jobs_of planner (jobs history)))),
  costs.1 ∙ ap (take (length (emitted planner history))) (sym (map_twice (counted_cost task) (λ (job : AcceptedPlan). job.plan) (jobs_of planner (jobs history)))),
)
  where
    consistent : IsConsistent history
    consistent = consistent_lawful planners slots history lawful

    found : (index : ℕ) (finding : Finding) → slice_get (emitted planner history) index ≡ Some finding → IsRight task finding
    found index finding e = right_found task history finding.job.number finding right (consistent.known planner index finding e)

    verdicts : (length (emitted planner history) ≤ length (jobs_of planner (jobs history)))
        × (map (λ finding. finding.verdict) (emitted planner history) ≡ take (length (emitted planner history)) (map (λ job. verdict_of task job.plan) (jobs_of planner (jobs history))))
    verdicts = values_first (λ (finding : Finding). finding.verdict) (λ (job : AcceptedPlan). verdict_of task job.plan) (emitted planner history) (jobs_of planner (jobs history))
        λ index finding e. (finding.job, consistent.first planner index finding e, (found index finding e).0)

    costs : (length (emitted planner history) ≤ length (jobs_of planner (jobs history)))
        × (map (λ finding. finding.cost) (emitted planner history) ≡ take (length (emitted planner history)) (map (λ job. counted_cost task job.plan) (jobs_of planner (jobs history))))
    costs = values_first (λ (finding : Finding). finding.cost) (λ (job : AcceptedPlan). counted_cost task job.plan) (emitted planner history) (jobs_of planner (jobs history))
        λ index finding e. (finding.job, consistent.first planner index finding e, (found index finding e).1)

nothing_at : {A : Type 0} (xs : List A) (index : ℕ) → slice_get xs index ≡ None → length xs ≤ index
nothing_at [] index e = omega arith
nothing_at (x ∷ xs) zero e = cc
nothing_at (x ∷ xs) (suc index) e = let rest = nothing_at xs index e in omega arith

length-accepted : (planner : ℕ) (history : History) → length (accepted planner history) ≡ length (jobs_of planner (jobs history))
unfolding accepted
length-accepted planner history = length-map (jobs_of planner (jobs history)) (λ (job : AcceptedPlan). job.plan)

-- where a planner has no next job, as many findings were emitted for it as plans were accepted
all_emitted : (history : History) → IsConsistent history → (planner : ℕ) → slice_get (jobs_of planner (jobs history)) (length (emitted planner history)) ≡ None
    → length (emitted planner history) ≡ length (accepted planner history)
all_emitted history consistent planner none =
    let past = nothing_at (jobs_of planner (jobs history)) (length (emitted planner history)) none in
    let within = emitted_within history consistent planner in
    let long = length-accepted planner history in
    omega arith

some_found : (found : Option Finding) → is_some found ≡ true → (finding : Finding) × (found ≡ Some finding)
some_found None e = cc
some_found (Some finding) e = (finding, refl)

-- an answer that a planner has all is given where it has no next job
no_finding_complete : (job : ℕ) (at : Stage) → reply.Refused refusal.Complete ≡ finding_at job at → ⊥
no_finding_complete job (stage.Finished finding) e = cc
no_finding_complete job stage.Waiting e = cc
no_finding_complete job stage.Out e = cc
no_finding_complete job stage.Emitted e = cc

complete_next : (intake : Intake) (planner : ℕ) (has : Bool) (next : Option AcceptedPlan)
    → reply.Refused refusal.Complete ≡ (if has then emit_reply_of intake planner next else reply.Refused refusal.NoPlanner) → (has ≡ true) × (next ≡ None)
complete_next intake planner true None e = (refl, refl)
complete_next intake planner true (Some job) e = absurd (no_finding_complete job.number (stage_of intake job.number) e)
complete_next intake planner false next e = cc

module _ (planners slots : ℕ) (history : History) (lawful : IsLawful planners slots history) where
  consistent_before : (index : ℕ) → IsConsistent (take index history)
  consistent_before index = consistent_lawful planners slots (take index history) (lawful_prefix planners slots history index lawful)

  pub complete_is_whole : (task : CostedTask) → HasRightFindings task history → CompleteIsWhole task history
  complete_is_whole task right index planner e =
      let (has, next) = complete_next (left_by planners (take index history)) planner _ _ (lawful index (emit planner) (reply.Refused refusal.Complete) e) in
      let known = known_planner planners (take index history) planner has in
      let count = all_emitted (take index history) (consistent_before index) planner (sym (next_left planners (take index history) planner known) ∙ next) in
      let (less, verdicts, costs) = verdicts_in_order planners slots task (take index history) (lawful_prefix planners slots history index lawful) (right_prefix task history index right) planner in (
        verdicts
            ∙ take_all (length (emitted planner (take index history))) (map (verdict_of task) (accepted planner (take index history)))
            (let long = length-map (accepted planner (take index history)) (verdict_of task) in omega arith),
        costs
            ∙ take_all (length (emitted planner (take index history))) (map (counted_cost task) (accepted planner (take index history)))
            (let long = length-map (accepted planner (take index history)) (counted_cost task) in omega arith),
      )

  pub whole_list_once_closed : WholeListOnceClosed history
  whole_list_once_closed index planner answer e closed finished =
      by (slice_get (jobs_of planner (jobs (take index history))) (length (emitted planner (take index history)))) refl
    where
      known : planner < planners
      known = closed_known planners slots (take index history) (lawful_prefix planners slots history index lawful) planner closed

      is_reply : (next : Option AcceptedPlan) → slice_get (jobs_of planner (jobs (take index history))) (length (emitted planner (take index history))) ≡ next
          → answer ≡ emit_reply_of (left_by planners (take index history)) planner next
      is_reply next f =
          lawful index (emit planner) answer e
          ∙ ap (λ b. if b then emit_reply_of (left_by planners (take index history)) planner (next_job (left_by planners (take index history)) planner) else reply.Refused refusal.NoPlanner)
          (planner_left planners (take index history) planner known)
          ∙ ap (emit_reply_of (left_by planners (take index history)) planner) (next_left planners (take index history) planner known ∙ f)

      by : (next : Option AcceptedPlan) → slice_get (jobs_of planner (jobs (take index history))) (length (emitted planner (take index history))) ≡ next
          → (((finding : Finding) × (answer ≡ reply.Emitted finding)) ⊎ (answer ≡ reply.Refused refusal.Complete))
          × ((answer ≡ reply.Refused refusal.Complete) ↔ (length (emitted planner (take index history)) ≡ length (accepted planner (take index history))))
      by None f =
          let complete = is_reply None f ∙ ap (λ b. reply.Refused (nothing_left b)) (closed_left planners (take index history) planner known ∙ closed) in
          (inr complete, (λ g. all_emitted (take index history) (consistent_before index) planner f, λ g. complete))
      by (Some job) f =
          let (mine, stands) = planners_job (take index history) planner (length (emitted planner (take index history))) job f in
          let inside = slice_get_within (jobs_of planner (jobs (take index history))) (length (emitted planner (take index history))) job f in
          let item = get_or_from_slice_get (jobs_of planner (jobs (take index history))) (length (emitted planner (take index history))) job job f in
          let is = subst (λ (x : AcceptedPlan). is_finished x.number (take index history) ≡ true) item (finished (length (emitted planner (take index history))) job inside) in
          let (finding, found) = some_found (finding_of job.number (take index history)) is in
          let within = slice_get_within (jobs (take index history)) job.number job stands in
          let not_yet = next_not_emitted (take index history) (consistent_before index) planner job f in
          let at = stage_left planners (take index history) job.number within
          ∙ stage_from (take index history) job.number false (Some finding) (is_out job.number (take index history)) not_yet found refl in
          let given = is_reply (Some job) f ∙ ap (finding_at job.number) at in
          let long = length-accepted planner (take index history) in
          (inl (finding, given), (λ g. cc, λ g. absurd (omega arith)))

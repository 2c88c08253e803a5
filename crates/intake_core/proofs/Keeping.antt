-- What the calls of a desk keep true of its rows.

use Rattle.std.proofs.Common.{◌≡◌, ◌≢◌, ℕ, ◌<◌, ◌≤◌, ⊎_elim, true, false, List, [], ◌∷◌, ◌++◌, length, get_or, set, map, Option, Some, None, ap, sym, ◌∙◌, subst, refl, arith}
use Rattle.std.specs.Prelude.{slice_get, IfSome, ◌-◌}
use Rattle.std.proofs.Math.Seq.{map-set_same}
use Rattle.std.proofs.Math.ListN.{length-set}
use Rattle.std.proofs.lemmas.Bool.{cases_eq, cases_lt}
use Rattle.std.proofs.lemmas.List.{map-append, length-map}
use Rattle.std.proofs.lemmas.Option.{slice_get_past, slice_get_within, slice_get_read}
use Rattle.bit_rows.specs.Rows.{row_has, ChangesBit}
use Rattle.strips_task.specs.declared.costs.CostedTask.{CostedTask}
use Rattle.intake_rules.specs.declared.finding.Finding.{Finding}
use Rattle.intake_rules.specs.declared.stage.Stage.{Stage}
use Rattle.intake_rules.specs.declared.stage.Stage.TheVariants.{Waiting, Finished}
use Rattle.intake_rules.specs.Findings.{IsRight}
use Rattle.intake_rules.specs.Jobs.{AcceptedPlan}
use Rattle.intake_rules.specs.Intake.{Intake, is_waiting_stage}
use Rattle.intake_core.specs.declared.slot.Slot.{Slot}
use Rattle.intake_core.specs.declared.slot.Planner.{Planner}
use Rattle.intake_core.specs.State.{DeskState, with_intake}
use Rattle.intake_core.specs.Rows.{jobs_in, stages_in, links_in, waits, waits_at, IsAtRest, IsLine, IsKept, line_of, last_of, linked, joined}
use Rattle.intake_core.proofs.Tables.{get-set_same, get-set_other, length-push, get-push_before, get-push_at, get-push_past}
use Rattle.intake_core.proofs.Lines.{Numbered, line-joined, line-kept, length-linked, on-line-lt}

-- a row that was written: what it leaves of the jobs, the stages and the links
module _ (table : List Slot) (j : ℕ) (row new : Slot) (was : row ≡ get_or table j row) where
  pub jobs-written : new.job ≡ row.job → jobs_in (set table j new) ≡ jobs_in table
  jobs-written same = map-set_same (λ r. r.job) table j new row (same ∙ ap (λ r. r.job) was)

  pub stages-unwritten : new.stage ≡ row.stage → stages_in (set table j new) ≡ stages_in table
  stages-unwritten same = map-set_same (λ r. r.stage) table j new row (same ∙ ap (λ r. r.stage) was)

  pub links-written : new.following ≡ row.following → links_in (set table j new) ≡ links_in table
  links-written same = map-set_same (λ r. r.following) table j new row (same ∙ ap (λ r. r.following) was)

-- the same lists under other names
pub kept-as : (task : CostedTask) (slots : ℕ) (jobs new_jobs : List AcceptedPlan) (stages new_stages : List Stage) (links new_links : List (Option ℕ)) (planners new_planners : List Planner) (waiting : List ℕ)
    → new_jobs ≡ jobs → new_stages ≡ stages → new_links ≡ links → new_planners ≡ planners
    → IsKept task slots jobs stages links planners waiting → IsKept task slots new_jobs new_stages new_links new_planners waiting
kept-as task slots jobs new_jobs stages new_stages links new_links planners new_planners waiting same_jobs same_stages same_links same_planners kept =
    subst (λ x. IsKept task slots x new_stages new_links new_planners waiting) (sym same_jobs)
    (subst (λ x. IsKept task slots jobs x new_links new_planners waiting) (sym same_stages)
    (subst (λ x. IsKept task slots jobs stages x new_planners waiting) (sym same_links)
    (subst (λ x. IsKept task slots jobs stages links x waiting) (sym same_planners) kept)))

-- a row that was added
module _ (old new : List Slot) (slot : Slot) (is : new ≡ old ++ slot ∷ []) where
  pub jobs-pushed : (jobs : List AcceptedPlan) → jobs_in old ≡ jobs → jobs_in new ≡ jobs ++ slot.job ∷ []
  jobs-pushed jobs same = ap jobs_in is ∙ map-append (λ row. row.job) old (slot ∷ []) ∙ ap (λ js. js ++ slot.job ∷ []) same

  pub stages-pushed : (stages : List Stage) → stages_in old ≡ stages → stages_in new ≡ stages ++ slot.stage ∷ []
  stages-pushed stages same = ap stages_in is ∙ map-append (λ row. row.stage) old (slot ∷ []) ∙ ap (λ ss. ss ++ slot.stage ∷ []) same

  pub links-pushed : (links : List (Option ℕ)) → links_in old ≡ links → links_in new ≡ links ++ slot.following ∷ []
  links-pushed links same = ap links_in is ∙ map-append (λ row. row.following) old (slot ∷ []) ∙ ap (λ ls. ls ++ slot.following ∷ []) same

-- the state after a change of the intake
pub state-changes : (task : CostedTask) (slots : ℕ) (old new : Intake) (now : DeskState) (change : Intake → Intake) → new ≡ change old
    → record { task = task; slots = slots; intake = old } ≡ now → record { task = task; slots = slots; intake = new } ≡ with_intake now (change now.intake)
state-changes task slots old new now change is view =
    ap (λ i. record { task = task; slots = slots; intake = i }) is ∙ ap (λ desk. with_intake desk (change desk.intake)) view

-- intakes with the same lists
pub same-intake : (a b : Intake) → a.jobs ≡ b.jobs → a.stages ≡ b.stages → a.closed ≡ b.closed → a.emitted ≡ b.emitted → a ≡ b
same-intake a b jobs stages closed emitted =
    ap (λ x. record { jobs = x; stages = a.stages; closed = a.closed; emitted = a.emitted }) jobs
    ∙ ap (λ x. record { jobs = b.jobs; stages = x; closed = a.closed; emitted = a.emitted }) stages
    ∙ ap (λ x. record { jobs = b.jobs; stages = b.stages; closed = x; emitted = a.emitted }) closed
    ∙ ap (λ x. record { jobs = b.jobs; stages = b.stages; closed = b.closed; emitted = x }) emitted

-- the bits of the jobs that wait, where one job's stage is written
waits-written : (stages : List Stage) (old new : List ℕ) (j : ℕ) (stage : Stage) → ((k : ℕ) → row_has old k ≡ waits_at stages k) → j < length stages
    → ChangesBit old new j (is_waiting_stage stage) → (k : ℕ) → row_has new k ≡ waits_at (set stages j stage) k
waits-written stages old new j stage is within change k =
    ⊎_elim
    (λ (at : k ≡ j).
    ap (row_has new) at ∙ change.at ∙ sym (ap (waits_at (set stages j stage)) at ∙ ap waits (get-set_same stages j stage within)))
    (λ (apart : k ≢ j). change.others k apart ∙ is k ∙ ap waits (sym (get-set_other stages j k stage apart)))
    (cases_eq k j)

module _ (task : CostedTask) (slots : ℕ) (jobs : List AcceptedPlan) (stages : List Stage) (links : List (Option ℕ)) (planners : List Planner) (waiting : List ℕ)
    (kept : IsKept task slots jobs stages links planners waiting) where
  -- one job's stage is written
  kept-stage : (j : ℕ) (stage : Stage) (new_waiting : List ℕ) → j < length jobs → ChangesBit waiting new_waiting j (is_waiting_stage stage)
      → ((job : AcceptedPlan) (finding : Finding) → slice_get jobs j ≡ Some job → stage ≡ Finished finding → IsAtRest task job finding)
      → IsKept task slots jobs (set stages j stage) links planners new_waiting
  kept-stage j stage new_waiting within change rest =
      record {
        few = kept.few;
        room = kept.room;
        staged = length-set stages j stage ∙ kept.staged;
        linked = kept.linked;
        numbered = kept.numbered;
        waiting_is = waits-written stages waiting new_waiting j stage kept.waiting_is (omega (arith, kept.staged, within)) change;
        at_rest = λ k job finding at resting.
            ⊎_elim
            (λ (here : k ≡ j).
            let it : Some stage ≡ Some (Finished finding) =
            sym (get-set_same stages j stage (omega (arith, kept.staged, within))) ∙ ap (slice_get (set stages j stage)) (sym here) ∙ resting in
            let stage_is : stage ≡ Finished finding = cc in
            rest job finding (ap (slice_get jobs) (sym here) ∙ at) stage_is)
            (λ (apart : k ≢ j). kept.at_rest k job finding at (sym (get-set_other stages j k stage apart) ∙ resting))
            (cases_eq k j);
        lines = kept.lines;
      }

  -- one job waits, or is given out
  pub kept-waiting : (j : ℕ) (stage : Stage) (new_waiting : List ℕ) → j < length jobs → ChangesBit waiting new_waiting j (is_waiting_stage stage)
      → ((finding : Finding) → stage ≢ Finished finding) → IsKept task slots jobs (set stages j stage) links planners new_waiting
  kept-waiting j stage new_waiting within change no_finding =
      kept-stage j stage new_waiting within change (λ job finding at is. absurd (no_finding finding is))

  -- one job that does not wait comes to another stage at which it does not
  pub kept-idle : (j : ℕ) (stage : Stage) → j < length jobs → is_waiting_stage stage ≡ false → waits_at stages j ≡ false
      → ((job : AcceptedPlan) (finding : Finding) → slice_get jobs j ≡ Some job → stage ≡ Finished finding → IsAtRest task job finding)
      → IsKept task slots jobs (set stages j stage) links planners waiting
  kept-idle j stage within after before rest =
      kept-stage j stage waiting within
      (record { at = kept.waiting_is j ∙ before ∙ sym after; others = λ k apart. refl; words = λ k apart. refl }) rest

  -- one planner's row is written
  pub kept-planner : (planner : ℕ) (row : Planner) → planner < length planners → IsLine jobs links planner row → IsKept task slots jobs stages links (set planners planner row) waiting
  kept-planner planner row within line =
      record {
        few = kept.few;
        room = kept.room;
        staged = kept.staged;
        linked = kept.linked;
        numbered = kept.numbered;
        waiting_is = kept.waiting_is;
        at_rest = kept.at_rest;
        lines = λ other found at.
            ⊎_elim
            (λ (here : other ≡ planner).
            let it : Some row ≡ Some found = sym (get-set_same planners planner row within) ∙ ap (slice_get (set planners planner row)) (sym here) ∙ at in
            let row_is : row ≡ found = cc in
            subst (λ p. IsLine jobs links p found) (sym here) (subst (IsLine jobs links planner) row_is line))
            (λ (apart : other ≢ planner). kept.lines other found (sym (get-set_other planners planner other row apart) ∙ at))
            (cases_eq other planner);
      }

  -- a job is accepted
  pub kept-accept : (job : AcceptedPlan) (row : Planner) (new_waiting : List ℕ) → ChangesBit waiting new_waiting job.number true → job.number ≡ length jobs → length jobs < slots → slice_get planners job.planner ≡ Some row
      → IsKept task slots (jobs ++ job ∷ []) (stages ++ Waiting ∷ []) (linked links row.last job.number ++ None ∷ []) (set planners job.planner (joined row job.number)) new_waiting
  kept-accept job row new_waiting change number room at =
      let mine = kept.lines job.planner row at in
      record {
        few = kept.few;
        room = omega (arith, length-push jobs job, room);
        staged = omega (arith, length-push jobs job, length-push stages Waiting, kept.staged);
        linked = omega (arith, length-push jobs job, length-push (linked links row.last job.number) None, length-linked links row.last job.number, kept.linked);
        numbered = λ j other e. numbers j other e;
        waiting_is = λ k. all k;
        at_rest = λ k other finding e resting.
            ⊎_elim
            (λ (early : k < length jobs).
            kept.at_rest k other finding (sym (get-push_before jobs job k early) ∙ e) (sym (get-push_before stages Waiting k (omega (arith, kept.staged, early))) ∙ resting))
            (λ (late : length jobs ≤ k). absurd (no_finding k finding late resting))
            (cases_lt k (length jobs));
        lines = λ planner found e.
            ⊎_elim
            (λ (here : planner ≡ job.planner).
            let it : Some (joined row job.number) ≡ Some found =
            sym (get-set_same planners job.planner (joined row job.number) (slice_get_within planners job.planner row at)) ∙ ap (slice_get (set planners job.planner (joined row job.number))) (sym here) ∙ e in
            let row_is : joined row job.number ≡ found = cc in
            subst (λ p. IsLine (jobs ++ job ∷ []) (linked links row.last job.number ++ None ∷ []) p found) (sym here)
            (subst (IsLine (jobs ++ job ∷ []) (linked links row.last job.number ++ None ∷ []) job.planner) row_is
            (line-joined jobs links row job kept.numbered kept.linked number mine)))
            (λ (apart : planner ≢ job.planner).
            line-kept jobs links found row job planner kept.numbered kept.linked (λ same. apart (sym same)) mine
            (kept.lines planner found (sym (get-set_other planners job.planner planner (joined row job.number) apart) ∙ e)))
            (cases_eq planner job.planner);
      }
    where
      numbers : (j : ℕ) (other : AcceptedPlan) → slice_get (jobs ++ job ∷ []) j ≡ Some other → other.number ≡ j
      numbers j other e =
          ⊎_elim
          (λ (early : j < length jobs). kept.numbered j other (sym (get-push_before jobs job j early) ∙ e))
          (λ (late : length jobs ≤ j).
          let last : j ≡ length jobs = omega (arith, late, slice_get_within (jobs ++ job ∷ []) j other e, length-push jobs job) in
          let it : Some job ≡ Some other = sym (get-push_at jobs job j (sym last)) ∙ e in
          let same : job ≡ other = cc in
          ap (λ x. x.number) (sym same) ∙ number ∙ sym last)
          (cases_lt j (length jobs))

      all : (k : ℕ) → row_has new_waiting k ≡ waits_at (stages ++ Waiting ∷ []) k
      all k =
          ⊎_elim
          (λ (here : k ≡ job.number).
          ap (row_has new_waiting) here ∙ change.at ∙ sym (ap waits (get-push_at stages Waiting k (omega (arith, kept.staged, number, here)))))
          (λ (apart : k ≢ job.number).
          change.others k apart ∙ kept.waiting_is k
          ∙ ap waits
          (⊎_elim
          (λ (early : k < length stages). sym (get-push_before stages Waiting k early))
          (λ (late : length stages ≤ k).
          slice_get_past stages k late ∙ sym (get-push_past stages Waiting k (omega (arith, late, apart, number, kept.staged))))
          (cases_lt k (length stages))))
          (cases_eq k job.number)

      no_finding : (k : ℕ) (finding : Finding) → length jobs ≤ k → slice_get (stages ++ Waiting ∷ []) k ≡ Some (Finished finding) → ⊥
      no_finding k finding late resting =
          let last : length stages ≡ k = omega (arith, late, kept.staged, slice_get_within (stages ++ Waiting ∷ []) k (Finished finding) resting, length-push stages Waiting) in
          let it : Some Waiting ≡ Some (Finished finding) = sym (get-push_at stages Waiting k last) ∙ resting in
          cc

pub length-jobs : (table : List Slot) → length (jobs_in table) ≡ length table
length-jobs table = length-map table (λ row. row.job)

pub length-closed : (planners : List Planner) → length (map (λ row. row.closed) planners) ≡ length planners
length-closed planners = length-map planners (λ row. row.closed)

-- a row that was read is the one at its index
pub row-at : {X : Type 0} (rows : List X) (i : ℕ) (row : X) → i < length rows → row ≡ get_or rows i row → slice_get rows i ≡ Some row
row-at rows i row within is = slice_get_read rows (length rows) i row refl within is

-- a finding that is stored is of its job, and right
pub rest-of : (task : CostedTask) (jobs : List AcceptedPlan) (j : ℕ) (stored : Finding) (job : AcceptedPlan) (finding : Finding)
    → slice_get jobs j ≡ Some stored.job → IsRight task stored → slice_get jobs j ≡ Some job → Finished stored ≡ Finished finding → IsAtRest task job finding
rest-of task jobs j stored job finding of_job right at same =
    let it : stored ≡ finding = cc in
    let jobs_are : Some stored.job ≡ Some job = sym of_job ∙ at in
    let job_is : stored.job ≡ job = cc in
    record { same = ap (λ f. f.job) (sym it) ∙ job_is; right = subst (IsRight task) it right }

-- the last of a planner's jobs has an index
pub last-within : (jobs : List AcceptedPlan) (links : List (Option ℕ)) (planner count : ℕ) (row : Planner) → Numbered jobs → count ≡ length jobs → IsLine jobs links planner row
    → IfSome row.last (λ job. job < count)
last-within jobs links planner count row numbered len line = by row.last line.last
  where
    by : (last : Option ℕ) → last ≡ last_of (line_of planner jobs) → IfSome last (λ job. job < count)
    by None e = tt
    by (Some job) e = omega (arith, len, on-line-lt jobs planner (length (line_of planner jobs) - 1) job numbered (sym e))

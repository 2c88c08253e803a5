-- What is emitted for a planner, by its row.

use Rattle.std.proofs.Common.{ltb, ◌≡◌, ℕ, ◌<◌, ◌≤◌, ⊎_elim, Bool, true, false, List, length, get_or, filter, Option, Some, None, ap, sym, ◌∙◌, subst, refl, arith, true≢false}
use Rattle.std.specs.Prelude.{slice_get, option_map, if◌then◌else◌, slice_index}
use Rattle.std.proofs.lemmas.Bool.{cases_lt}
use Rattle.std.proofs.lemmas.Bool.Decides.{nat_tests}
use Rattle.std.proofs.lemmas.List.{get_or_past, length-map, get_or-map}
use Rattle.std.proofs.lemmas.List.Sums.{length-filter, count_by-le-length}
use Rattle.std.proofs.lemmas.Option.{slice_get-get_or, slice_get_within, slice_get-map}
use Rattle.intake_rules.specs.declared.finding.Finding.{Finding}
use Rattle.intake_rules.specs.declared.refusal.Refusal.TheVariants as refusal
use Rattle.intake_rules.specs.declared.reply.Reply.TheVariants as reply
use Rattle.intake_rules.specs.declared.stage.Stage.{Stage}
use Rattle.intake_rules.specs.declared.stage.Stage.TheVariants.{Waiting, Out, Finished, Emitted}
use Rattle.intake_rules.specs.Jobs.{AcceptedPlan}
use Rattle.intake_rules.specs.Intake.{Intake, has_planner, is_closed_in, next_job, jobs_of, stage_of, is_of}
use Rattle.intake_rules.specs.Rules.{emit_reply, emit_reply_of, finding_at, nothing_left}
use Rattle.intake_core.specs.declared.slot.Slot.{Slot}
use Rattle.intake_core.specs.declared.slot.Planner.{Planner}
use Rattle.intake_core.specs.Rows.{intake_in, jobs_in, links_in, line_of, IsLine, IsReady, rests, rests_at}
use Rattle.intake_core.proofs.Keeping.{length-closed, row-at}
use Rattle.intake_core.proofs.Lines.{Numbered}
use Rattle.intake_core.proofs.Tables.{in-filter}

-- a planner that has a row is known
pub knows : (table : List Slot) (planners : List Planner) (planner : ℕ) (row : Planner) → slice_get planners planner ≡ Some row → has_planner (intake_in table planners) planner ≡ true
knows table planners planner row at =
    let within : planner < length planners = slice_get_within planners planner row at in
    grind (arith, nat_tests, within, length-closed planners)

-- how many findings were emitted for a planner stands in its row
pub emitted-of : (table : List Slot) (planners : List Planner) (planner : ℕ) (row : Planner) → slice_get planners planner ≡ Some row → slice_index (intake_in table planners).emitted planner ≡ row.emitted
emitted-of table planners planner row at =
    let within : planner < length planners = slice_get_within planners planner row at in
    let it : Some (get_or planners planner row) ≡ Some row = sym (slice_get-get_or planners planner row within) ∙ at in
    let row_is : get_or planners planner row ≡ row = cc in
    get_or-map (λ r. r.emitted) planners planner row 0 within ∙ ap (λ r. r.emitted) row_is

pub closed-of : (table : List Slot) (planners : List Planner) (planner : ℕ) (row : Planner) → slice_get planners planner ≡ Some row → is_closed_in (intake_in table planners) planner ≡ row.closed
closed-of table planners planner row at =
    let within : planner < length planners = slice_get_within planners planner row at in
    let it : Some (get_or planners planner row) ≡ Some row = sym (slice_get-get_or planners planner row within) ∙ at in
    let row_is : get_or planners planner row ≡ row = cc in
    get_or-map (λ r. r.closed) planners planner row false within ∙ ap (λ r. r.closed) row_is

-- and so does the number of its next job
pub next-is : (table : List Slot) (planners : List Planner) (planner : ℕ) (row : Planner) → slice_get planners planner ≡ Some row → IsLine (jobs_in table) (links_in table) planner row
    → option_map (λ job. job.number) (next_job (intake_in table planners) planner) ≡ row.next
next-is table planners planner row at line =
    ap (λ e. option_map (λ job. job.number) (slice_get (jobs_of planner (jobs_in table)) e)) (emitted-of table planners planner row at)
    ∙ sym (slice_get-map (λ job. job.number) (jobs_of planner (jobs_in table)) row.emitted) ∙ sym line.next

none-of : (o : Option AcceptedPlan) → option_map (λ job. job.number) o ≡ None → o ≡ None
none-of None e = refl
none-of (Some job) e = absurd (cc)

some-of : (o : Option AcceptedPlan) (j : ℕ) → option_map (λ job. job.number) o ≡ Some j → (job : AcceptedPlan) × ((o ≡ Some job) × (job.number ≡ j))
some-of (Some job) j e = (job, (refl, let same : job.number ≡ j = cc in same))
some-of None j e = absurd (cc)

asked : (intake : Intake) (planner : ℕ) → has_planner intake planner ≡ true → emit_reply intake planner ≡ emit_reply_of intake planner (next_job intake planner)
asked intake planner known = ap (λ b. if b then emit_reply_of intake planner (next_job intake planner) else reply.Refused refusal.NoPlanner) known

-- where all was emitted
pub nothing : (intake : Intake) (planner : ℕ) (closed : Bool) → has_planner intake planner ≡ true → option_map (λ job. job.number) (next_job intake planner) ≡ None
    → is_closed_in intake planner ≡ closed → emit_reply intake planner ≡ reply.Refused (nothing_left closed)
nothing intake planner closed known none is =
    asked intake planner known ∙ ap (emit_reply_of intake planner) (none-of (next_job intake planner) none) ∙ ap (λ b. reply.Refused (nothing_left b)) is

no-finding : (job : ℕ) (stage : Stage) → rests (Some stage) ≡ false → finding_at job stage ≡ reply.Refused (refusal.NotReady job)
no-finding job Waiting e = refl
no-finding job Out e = refl
no-finding job (Finished finding) e = absurd (true≢false e)
no-finding job Emitted e = refl

-- where the next job is not finished
pub not-ready : (intake : Intake) (planner number : ℕ) → has_planner intake planner ≡ true → option_map (λ job. job.number) (next_job intake planner) ≡ Some number
    → rests_at intake number ≡ false → emit_reply intake planner ≡ reply.Refused (refusal.NotReady number)
not-ready intake planner number known next not_there =
    let some = some-of (next_job intake planner) number next in
    asked intake planner known ∙ ap (emit_reply_of intake planner) some.1.0 ∙ ap (λ n. finding_at n (stage_of intake n)) some.1.1
    ∙ ⊎_elim
    (λ (within : number < length intake.stages).
    no-finding number (stage_of intake number) (ap rests (sym (slice_get-get_or intake.stages number Waiting within)) ∙ not_there))
    (λ (past : length intake.stages ≤ number). ap (finding_at number) (get_or_past intake.stages number Waiting past))
    (cases_lt number (length intake.stages))

-- where it is
pub ready : (intake : Intake) (planner number : ℕ) (finding : Finding) → IsReady intake planner number → slice_get intake.stages number ≡ Some (Finished finding)
    → emit_reply intake planner ≡ reply.Emitted finding
ready intake planner number finding is resting =
    let some = some-of (next_job intake planner) number is.next in
    let within : number < length intake.stages = slice_get_within intake.stages number (Finished finding) resting in
    let stage : Some (stage_of intake number) ≡ Some (Finished finding) = sym (slice_get-get_or intake.stages number Waiting within) ∙ resting in
    let stage_is : stage_of intake number ≡ Finished finding = cc in
    asked intake planner is.known ∙ ap (emit_reply_of intake planner) some.1.0 ∙ ap (λ n. finding_at n (stage_of intake n)) some.1.1
    ∙ ap (finding_at number) stage_is

-- the next job is the one with its number
pub next-job-at : (intake : Intake) (planner number : ℕ) (job : AcceptedPlan) → Numbered intake.jobs → option_map (λ other. other.number) (next_job intake planner) ≡ Some number
    → slice_get intake.jobs number ≡ Some job → next_job intake planner ≡ Some job
unfolding jobs_of
next-job-at intake planner number job numbered next at =
    let some = some-of (next_job intake planner) number next in
    let found = in-filter (is_of planner) intake.jobs (slice_index intake.emitted planner) some.0 some.1.0 in
    let index : found.0 ≡ number = sym (numbered found.0 some.0 found.1.0) ∙ some.1.1 in
    some.1.0 ∙ sym found.1.0 ∙ ap (slice_get intake.jobs) index ∙ at

-- the job that is next has an index
pub next-within : (intake : Intake) (planner number : ℕ) → Numbered intake.jobs → option_map (λ other. other.number) (next_job intake planner) ≡ Some number → number < length intake.jobs
unfolding jobs_of
next-within intake planner number numbered next =
    let some = some-of (next_job intake planner) number next in
    let found = in-filter (is_of planner) intake.jobs (slice_index intake.emitted planner) some.0 some.1.0 in
    let index : found.0 ≡ number = sym (numbered found.0 some.0 found.1.0) ∙ some.1.1 in
    omega (arith, index, slice_get_within intake.jobs found.0 some.0 found.1.0)

-- a planner that is known has a row
pub known-lt : (table : List Slot) (planners : List Planner) (planner : ℕ) → has_planner (intake_in table planners) planner ≡ true → planner < length planners
known-lt table planners planner known = grind (arith, nat_tests, known, length-closed planners)

-- a planner's row that was looked up
pub looked-up : (rows seen : List Planner) (planner : ℕ) (row : Planner) → seen ≡ rows → true ≡ ltb planner (length seen) → row ≡ get_or seen planner row → slice_get rows planner ≡ Some row
looked-up rows seen planner row same within is =
    let inside : planner < length seen = grind (arith, nat_tests, within) in
    subst (λ list. slice_get list planner ≡ Some row) same (row-at seen planner row inside is)

-- no more findings are emitted than there are jobs
pub emitted-lt : (jobs : List AcceptedPlan) (links : List (Option ℕ)) (planner number : ℕ) (row : Planner) → IsLine jobs links planner row → row.next ≡ Some number → row.emitted < length jobs
unfolding jobs_of
emitted-lt jobs links planner number row line next =
    let within : row.emitted < length (line_of planner jobs) = slice_get_within (line_of planner jobs) row.emitted number (sym line.next ∙ next) in
    omega (arith, within, length-map (filter (is_of planner) jobs) (λ job. job.number), length-filter (is_of planner) jobs, count_by-le-length (is_of planner) jobs)

-- the link of a row
pub link-at : (table : List Slot) (number : ℕ) (row : Slot) → number < length table → row ≡ get_or table number row → row.following ≡ get_or (links_in table) number None
link-at table number row within is = ap (λ r. r.following) is ∙ sym (get_or-map (λ r. r.following) table number row None within)

-- the job of a row
pub job-at : (table : List Slot) (number : ℕ) (row : Slot) → number < length table → row ≡ get_or table number row → slice_get (jobs_in table) number ≡ Some row.job
job-at table number row within is = slice_get-map (λ r. r.job) table number ∙ ap (option_map (λ r. r.job)) (row-at table number row within is)

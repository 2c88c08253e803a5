-- What each step says about the seat that takes it: a relation between the step, the seat before, the number that was found in the word, and the
-- seat afterwards.

use Rattle.std.specs.Prelude.{◌≡◌, ◌≢◌, ◌↔◌, ◌<◌, ◌≤◌, ℕ, ◌+◌, true, ◌∷◌, length, slice_get, Option, Some}
use Rattle.atomic_table.specs.Table.{Step, rest}
use Rattle.atomic_table.specs.declared.shared.Seat.{Seat}
use Rattle.atomic_table.specs.declared.shared.Shared.{Shared}
use Rattle.intake_rules.specs.declared.finding.Finding.{Finding}
use Rattle.intake_rules.specs.Findings.{IsRight}
use Rattle.intake_rules.specs.Jobs.{AcceptedPlan}
use Rattle.bench_rule.specs.declared.contents.Item.TheVariants.{Nothing, Waiting, Done}
use Rattle.bench_rule.specs.declared.rule.BenchRule.{BenchRule}
use Rattle.bench_rule.specs.declared.views.Setting.{Setting}
use Rattle.bench_rule.specs.declared.views.View.{View}
use Rattle.bench_rule.specs.Views.{Content, Carried, Sitting, times, times_held, without_slot, with_lifted, with_posted, with_taken, with_miss, with_finished, with_handed_back, with_emission, with_close, with_shut, with_note}

-- the seat is one of this bench, which has a word for each slot and one more
abbrev pub IsSeatOf : Shared Content View Setting BenchRule → Seat Content View → Type 0
IsSeatOf words seat = (seat.table_id ≡ words.table_id) × (words.table_id.words ≡ words.table_id.slots + 1)

-- the step changed nothing about the seat, except that it has one more miss
abbrev pub Missed : ℕ → Sitting → Sitting → Type 0
Missed slot before later = later ≡ (with_miss before.0 slot, before.1)

-- the owner has the slot in its hands
abbrev pub lift_tells : Step Content → Sitting → ℕ → Sitting → Type 0
lift_tells step before found later = (slot : ℕ) → step.word ≡ slot + 1 → (content : Content) × (later ≡ (with_lifted before.0, (slot, content) ∷ before.1))

-- the job in the slot is accepted
abbrev pub post_tells : Step Content → Sitting → ℕ → Sitting → Type 0
post_tells step before found later = (slot : ℕ) (job : AcceptedPlan) (carried : Carried) → before.1 ≡ (slot, Waiting job) ∷ carried → later ≡ (with_posted before.0 job, carried)

-- the seat holds the slot, with the job still in it, and does not hold more slots than there are
abbrev pub Took : ℕ → ℕ → Sitting → Sitting → Type 0
Took slots slot before later = (job : AcceptedPlan) × (later ≡ (with_taken before.0 slot job, (slot, Waiting job) ∷ before.1)) × (length later.0.held ≤ slots)

-- a slot that waits was taken; a slot that does not is one more miss
abbrev pub take_tells : Step Content → Sitting → ℕ → Sitting → Type 0
take_tells step before found later = (slot : ℕ) → step.word ≡ slot + 1 → (found ≡ 1 → Took step.slots slot before later) × (found ≢ 1 → Missed slot before later)

-- the job of the slot was accepted, and the view neither holds the slot nor knows it to be finished
abbrev pub SeemsWaiting : ℕ → View → Type 0
SeemsWaiting slot view = (slot < length view.jobs) × (times_held slot view.held ≡ 0) × (times slot view.finished ≡ 0)

-- a slot that waits was taken; otherwise nothing changes. While no seat is out, the owner takes exactly the slots that seem to wait
abbrev pub take_own_tells : Step Content → Sitting → ℕ → Sitting → Type 0
take_own_tells step before found later = (slot : ℕ) → step.word ≡ slot + 1 → (found ≡ 1 → Took step.slots slot before later) × (found ≢ 1 → later ≡ before)
    × (before.0.seats_out ≡ 0 → (found ≡ 1) ↔ SeemsWaiting slot before.0)

-- the seat holds the slot, with this job, and there is nothing in it any more
abbrev pub TookOut : ℕ → ℕ → AcceptedPlan → Sitting → Sitting → Type 0
TookOut slots slot job before later = (later ≡ (with_taken before.0 slot job, (slot, Nothing) ∷ before.1)) × (length later.0.held ≤ slots)

-- the slot is the first of those that the seat carries
abbrev pub bring_tells : Step Content → Sitting → ℕ → Sitting → Type 0
bring_tells step before found later = (slot : ℕ) → step.word ≡ slot + 1 → later ≡ (before.0, (slot, Nothing) ∷ without_slot slot before.1)

-- the slot is finished, and the seat does not know more finished slots than there are slots
abbrev pub finish_tells : Step Content → Sitting → ℕ → Sitting → Type 0
finish_tells step before found later = (slot : ℕ) → step.word ≡ slot + 1 → (later ≡ (with_finished before.0 slot, rest before.1)) × (length later.0.finished ≤ step.slots)

-- the slot is no longer held
abbrev pub hand_back_tells : Step Content → Sitting → ℕ → Sitting → Type 0
hand_back_tells step before found later = (slot : ℕ) → step.word ≡ slot + 1 → later ≡ (with_handed_back before.0 slot, rest before.1)

-- the finding is right for the task of this setting, if it is known
abbrev pub IsRightFor : Option Setting → Finding → Type 0
IsRightFor known finding = (setting : Setting) → known ≡ Some setting → IsRight setting.task.value finding

-- a right finding of this job is in the slot, and one more finding was emitted for its planner
abbrev pub Emitted : ℕ → AcceptedPlan → Sitting → Sitting → Type 0
Emitted slot job before later = (finding : Finding) × (finding.job ≡ job) × IsRightFor before.0.setting finding × (later ≡ (with_emission before.0 job.planner, (slot, Done finding) ∷ before.1))

-- a finished slot was emitted; a slot that is not finished is one more miss, and then the owner did not know it to be finished. While no seat is out,
-- the owner knows of a finished slot that it is finished
abbrev pub emit_tells : Step Content → Sitting → ℕ → Sitting → Type 0
emit_tells step before found later = (slot : ℕ) (job : AcceptedPlan) → step.word ≡ slot + 1 → slice_get before.0.jobs slot ≡ Some job
    → (found ≡ 3 → Emitted slot job before later) × (found ≢ 3 → Missed slot before later × (times slot before.0.finished ≡ 0))
    × (before.0.seats_out ≡ 0 → found ≡ 3 → 0 < times slot before.0.finished)

-- the planner is closed
abbrev pub close_tells : ℕ → Step Content → Sitting → ℕ → Sitting → Type 0
close_tells planner step before found later = later ≡ (with_close before.0 planner, before.1)

-- a slot that does not wait is one more miss
abbrev pub look_tells : Step Content → Sitting → ℕ → Sitting → Type 0
look_tells step before found later = (slot : ℕ) → step.word ≡ slot + 1 → (found ≡ 1 → later ≡ before) × (found ≢ 1 → Missed slot before later)

-- the bench is shut
abbrev pub shut_tells : Step Content → Sitting → ℕ → Sitting → Type 0
shut_tells step before found later = later ≡ (with_shut before.0, before.1)

-- if the bench is shut, that is noted; once it was noted, the bench is found shut
abbrev pub look_at_shut_tells : Step Content → Sitting → ℕ → Sitting → Type 0
look_at_shut_tells step before found later = (found ≡ 1 → later ≡ (with_note before.0, before.1)) × (found ≢ 1 → later ≡ before) × (before.0.noted ≡ true → found ≡ 1)

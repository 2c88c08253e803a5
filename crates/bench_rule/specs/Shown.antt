-- The intake that a bench shows: what the owner knows of jobs, closed planners and emitted counts, with the stage of each job.

use Rattle.std.specs.Prelude.{◌≡◌, ℕ, nat_eq, cond, List, [], ◌∷◌}
use mathlib.Core.Option.{some}
use mathlib.Core.Option as maybe
use Rattle.intake_rules.specs.declared.reply.Reply.{Reply}
use Rattle.intake_rules.specs.declared.stage.Stage.{Stage}
use Rattle.intake_rules.specs.declared.stage.Stage.TheVariants as stage
use Rattle.intake_rules.specs.Intake.{Intake}
use Rattle.intake_rules.specs.Jobs.{AcceptedPlan}
use Rattle.intake_rules.specs.Rules.{Event, Allows, after}
use Rattle.bench_rule.specs.declared.contents.Item.TheVariants.{Done}
use Rattle.bench_rule.specs.declared.views.Setting.{Setting}
use Rattle.bench_rule.specs.declared.views.View.{View}
use Rattle.bench_rule.specs.Sound.{Sound, shut_word}
use Rattle.bench_rule.specs.Views.{Content, Bench, spent_view}

-- the owner's view
abbrev pub owner_of : List View → View
owner_of [] = spent_view
owner_of (view ∷ views) = view

-- the words of the slots, from the second word on
abbrev pub slot_words : List ℕ → List ℕ
slot_words [] = []
slot_words (word ∷ words) = words

-- a finished slot shows the finding that is in it
abbrev pub finished_stage : maybe.Option Content → Stage
finished_stage (some (Done finding)) = stage.Finished finding
finished_stage _ = stage.Waiting

-- how far the job of a slot has come, by the word of the slot and by what is in it
abbrev pub stage_at : ℕ → maybe.Option Content → Stage
stage_at word home = cond (nat_eq word 2) stage.Out (cond (nat_eq word 3) (finished_stage home) (cond (nat_eq word 4) stage.Emitted stage.Waiting))

-- how far each accepted job has come
abbrev pub stages : List ℕ → List (maybe.Option Content) → List AcceptedPlan → List Stage
stages (word ∷ words) (home ∷ homes) (job ∷ jobs) = stage_at word home ∷ stages words homes jobs
stages _ _ _ = []

-- the intake that a bench shows: the jobs and closings of the owner, the stages of the jobs, and what was emitted
abbrev pub shown : Bench → Intake
shown bench = record {
  jobs = (owner_of bench.views).jobs;
  stages = stages (slot_words bench.words) bench.homes (owner_of bench.views).jobs;
  closed = (owner_of bench.views).closed;
  emitted = (owner_of bench.views).emitted;
}

-- a step keeps the rule, and is an event of the shown intake with a reply that the rules of an intake allow
pub record Moves (setting : Setting) (before later : Bench) (event : Event) (answer : Reply) : Type 0 where
  pub sound : Sound setting later
  pub allowed : Allows setting.slots (shown before) event answer
  pub moved : shown later ≡ after (shown before) event answer
  -- a bench that is shut stays shut
  pub stays_shut : shut_word before.words ≡ 1 → shut_word later.words ≡ 1

-- a step keeps the rule and the shown intake
pub record Stays (setting : Setting) (before later : Bench) : Type 0 where
  pub sound : Sound setting later
  pub same : shown later ≡ shown before
  pub stays_shut : shut_word before.words ≡ 1 → shut_word later.words ≡ 1

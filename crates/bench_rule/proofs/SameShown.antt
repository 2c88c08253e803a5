-- What a bench shows is told by its words and by what the owner knows: in a finished slot there can only be the right finding of its job.

use Rattle.std.proofs.Common.{◌≡◌, ◌<◌, ℕ, zero, suc, false, cond, eqb, ne_eqb, List, [], ◌∷◌, slice_get, get_or, Some, length, sym, refl, ap, ◌∙◌, arith}
use mathlib.Core.Logic.{dite}
use mathlib.Core.Option.{some, some-injective}
use mathlib.Core.Option as maybe
use native.Mathlib.Decide.{ℕ_discrete}
use lib.ListN.{get_elem?}
use Rattle.strips_task.specs.declared.costs.CostedTask.{CostedTask}
use Rattle.intake_rules.specs.declared.finding.Finding.{Finding}
use Rattle.intake_rules.specs.declared.stage.Stage.{Stage}
use Rattle.intake_rules.specs.declared.stage.Stage.TheVariants as stage
use Rattle.intake_rules.specs.Findings.{IsRight, verdict_of, counted_cost}
use Rattle.intake_rules.specs.Jobs.{AcceptedPlan}
use Rattle.bench_rule.specs.declared.contents.Item.TheVariants.{Done}
use Rattle.bench_rule.specs.declared.views.Setting.{Setting}
use Rattle.bench_rule.specs.declared.views.View.{View}
use Rattle.bench_rule.specs.Laws.{ShownByWords}
use Rattle.bench_rule.specs.Shown.{finished_stage, owner_of, slot_words, stage_at, stages}
use Rattle.bench_rule.specs.Sound.{Sound, word_of}
use Rattle.bench_rule.specs.Views.{Bench, Content}
use Rattle.bench_rule.proofs.Meanings.{accepted, jobs_are}
use Rattle.bench_rule.proofs.Stages.{Homes, showing, slot_word, staged}

-- two right findings of one job are one finding
one_right : (task : CostedTask) (one other : Finding) → one.job ≡ other.job → IsRight task one → IsRight task other → one ≡ other
one_right task one other same right too = let verdict = right.0 ∙ (ap (λ (job : AcceptedPlan). verdict_of task job.plan) same ∙ sym too.0) in
    let cost = right.1 ∙ (ap (λ (job : AcceptedPlan). counted_cost task job.plan) same ∙ sym too.1) in λ i. record { job = same i; verdict = verdict i; cost = cost i }

-- the stage of a slot that is not finished is told by its word
told_by_word : (word : ℕ) (home other : maybe.Option Content) → (word ≡ 3 → ⊥) → stage_at word home ≡ stage_at word other
told_by_word word home other apart = let no : eqb word 3 ≡ false = ne_eqb word 3 apart in
    let rest : Stage = cond (eqb word 4) stage.Emitted stage.Waiting in
    ap (λ b. cond (eqb word 2) stage.Out (cond b (finished_stage home) rest)) no ∙ sym (ap (λ b. cond (eqb word 2) stage.Out (cond b (finished_stage other) rest)) no)

-- the stages are the same where each is
stages_same : (words : List ℕ) (homes others : Homes) (jobs : List AcceptedPlan) → length homes ≡ length others
    → ((slot : ℕ) → slot < length jobs → (home other : maybe.Option Content) → get_elem? homes slot ≡ some home → get_elem? others slot ≡ some other → stage_at (get_or words slot 0) home ≡ stage_at (get_or words slot 0) other)
    → stages words homes jobs ≡ stages words others jobs
stages_same [] homes others jobs long each = refl
stages_same (word ∷ words) [] [] jobs long each = refl
stages_same (word ∷ words) [] (other ∷ others) jobs long each = absurd (omega arith)
stages_same (word ∷ words) (home ∷ homes) [] jobs long each = absurd (omega arith)
stages_same (word ∷ words) (home ∷ homes) (other ∷ others) [] long each = refl
stages_same (word ∷ words) (home ∷ homes) (other ∷ others) (job ∷ jobs) long each =
    let first = each zero (omega arith) home other refl refl in
    let rest = stages_same words homes others jobs (omega arith) (λ slot inside one two here there. each (suc slot) (omega arith) one two here there) in
    (λ i. first i ∷ rest i)

module _ (setting : Setting) (bench : Bench) (sound : Sound setting bench) (other : Bench) (too : Sound setting other) (words : other.words ≡ bench.words) (owner : owner_of other.views ≡ owner_of bench.views) where
  one_stage : (slot : ℕ) → slot < length (owner_of bench.views).jobs → (home content : maybe.Option Content) → get_elem? other.homes slot ≡ some home → get_elem? bench.homes slot ≡ some content
      → stage_at (get_or (slot_words bench.words) slot 0) home ≡ stage_at (get_or (slot_words bench.words) slot 0) content
  one_stage slot inside home content here there = let word : ℕ = word_of bench.words slot in
      let count = ap length (jobs_are setting bench sound) in let count' = ap length (jobs_are setting other too) in let known = ap (λ (v : View). length v.jobs) owner in
      let room = sound.room in let room' = too.room in
      let at : stage_at word home ≡ stage_at word content = dite (ℕ_discrete word 3)
      (λ done. let (finding, his, rests, right) = (sound.each_slot slot (omega arith)).finished done in
      let (found, hers, lies, sure) = (too.each_slot slot (omega arith)).finished (ap (λ l. word_of l slot) words ∙ done) in
      let jobs : Some found.job ≡ Some finding.job = sym (accepted setting other too slot found.job hers) ∙ (ap (λ (v : View). slice_get v.jobs slot) owner ∙ accepted setting bench sound slot finding.job his) in
      let job : found.job ≡ finding.job = cc in
      let same : found ≡ finding = one_right setting.task.value found finding job sure right in
      let one : home ≡ some (Done found) = some-injective home (some (Done found)) (sym here ∙ lies) in
      let two : content ≡ some (Done finding) = some-injective content (some (Done finding)) (sym there ∙ rests) in
      ap (stage_at word) (one ∙ (ap (λ (f : Finding). some (Done f)) same ∙ sym two)))
      (λ apart. told_by_word word home content apart) in
      ap (λ w. stage_at w home) (slot_word bench.words slot) ∙ (at ∙ sym (ap (λ w. stage_at w content) (slot_word bench.words slot)))

  pub shown_is : showing other.words other.homes (owner_of other.views) ≡ showing bench.words bench.homes (owner_of bench.views)
  shown_is = let long : length other.homes ≡ length bench.homes = too.slot_count ∙ sym sound.slot_count in
      let same = stages_same (slot_words bench.words) other.homes bench.homes (owner_of bench.views).jobs long one_stage in
      (λ i. showing (words i) other.homes (owner i)) ∙ ap (staged (owner_of bench.views)) same

pub shown_by_words : (setting : Setting) (bench : Bench) → Sound setting bench → (other : Bench) → ShownByWords setting bench other
shown_by_words setting bench sound other too words owner = shown_is setting bench sound other too words owner

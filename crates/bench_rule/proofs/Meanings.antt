-- What the rule says of slots, seats and findings.

use Rattle.std.proofs.Common.{◌≡◌, ◌<◌, ℕ, List, slice_get, Some, length, sym, ap, ◌∙◌, arith}
use mathlib.Core.Logic.{dite}
use native.Mathlib.Decide.{ℕ_discrete}
use Rattle.intake_rules.specs.Jobs.{AcceptedPlan}
use Rattle.bench_rule.specs.declared.views.Setting.{Setting}
use Rattle.bench_rule.specs.declared.views.View.{View}
use Rattle.bench_rule.specs.Laws.{HeldByOne, OutIfHeld, JobsRest, RightFindingsRest, HeldWithAccepted, OwnerKnowsAll}
use Rattle.bench_rule.specs.Shown.{owner_of}
use Rattle.bench_rule.specs.Sound.{Sound, Book, word_of}
use Rattle.bench_rule.specs.Views.{Bench, holding}
use Rattle.bench_rule.proofs.Alone.{alone}
use Rattle.bench_rule.proofs.Counts.{out_two, out_small, one_at, held_job}
use Rattle.bench_rule.proofs.Stages.{owner_is}
use Rattle.bench_rule.proofs.Sums.{term_le, two_terms_le, some_term}

module _ (setting : Setting) (bench : Bench) (sound : Sound setting bench) where
  -- the jobs of the first view are those of the rule
  pub jobs_are : (owner_of bench.views).jobs ≡ sound.book.jobs
  jobs_are = let (owner, is) = sound.owner in ap (λ (v : View). v.jobs) (owner_is bench.views owner is.first) ∙ ap (λ (b : Book). b.jobs) is.knows

  pub accepted : (slot : ℕ) (job : AcceptedPlan) → slice_get sound.book.jobs slot ≡ Some job → slice_get (owner_of bench.views).jobs slot ≡ Some job
  accepted slot job there = ap (λ (l : List AcceptedPlan). slice_get l slot) jobs_are ∙ there

  pub in_book : (slot : ℕ) (job : AcceptedPlan) → slice_get (owner_of bench.views).jobs slot ≡ Some job → slice_get sound.book.jobs slot ≡ Some job
  in_book slot job there = ap (λ (l : List AcceptedPlan). slice_get l slot) (sym jobs_are) ∙ there

  pub within_slots : (slot : ℕ) → slot < setting.slots → slot < length bench.homes
  within_slots slot h = let count = sound.slot_count in omega arith

  pub held_by_one : HeldByOne bench
  held_by_one slot id other (view, mine, one) (view', theirs, two) = dite (ℕ_discrete id other) (λ same. same)
      (λ apart. let both = two_terms_le (holding slot) bench.views id other view view' apart mine theirs in let all = sound.held_once slot in let small = out_small (word_of bench.words slot) in absurd (omega arith))

  pub out_if_held : OutIfHeld bench
  out_if_held slot = (
    (λ out. let one = one_at (word_of bench.words slot) 2 out in let all = sound.held_once slot in
        let (id, view, mine, more) = some_term (holding slot) bench.views (omega arith) in (id, (view, mine, more))),
    (λ holder. let (view, mine, more) = holder.1 in out_two (word_of bench.words slot) (let term = term_le (holding slot) bench.views holder.0 view mine in let all = sound.held_once slot in omega arith)),
  )

  pub jobs_rest : JobsRest setting bench
  jobs_rest slot inside waits = let (job, there, rests) = (sound.each_slot slot (within_slots slot inside)).waiting waits in (job, accepted slot job there, rests)

  pub right_findings_rest : RightFindingsRest setting bench
  right_findings_rest slot inside done = let (finding, there, rests, right) = (sound.each_slot slot (within_slots slot inside)).finished done in (finding, accepted slot finding.job there, rests, right)

  pub held_with_accepted : HeldWithAccepted bench
  held_with_accepted id slot view job mine held = accepted slot job (held_job sound.book.jobs slot job view.held (sound.held_jobs id view mine) held)

  pub owner_knows_all : OwnerKnowsAll bench
  owner_knows_all view mine none slot = alone setting bench sound view mine none slot

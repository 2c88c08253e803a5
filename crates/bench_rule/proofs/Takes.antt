-- A seat takes a waiting slot.

use Rattle.std.proofs.Common.{◌≡◌, ◌≢◌, ◌↔◌, ◌<◌, ◌≤◌, ℕ, ◌+◌, ◌∷◌, slice_get, Some, length, set, sym, refl, ap, ◌∙◌, subst, arith, eqb, eq-eqb, ne_eqb, length-set}
use mathlib.Core.Logic.{dite}
use native.Mathlib.Decide.{ℕ_discrete}
use prog.Atomic.{either}
use mathlib.Core.Option.{some, none}
use lib.ListN.{get_elem?}
use Rattle.atomic_table.specs.Table.{step, keeps, takes, rest, Allows}
use Rattle.atomic_table.proofs.Lists.{set_here, set_else}
use Rattle.intake_rules.specs.Jobs.{AcceptedPlan}
use Rattle.bench_rule.specs.declared.contents.Item.TheVariants.{Nothing, Waiting}
use Rattle.bench_rule.specs.declared.views.Setting.{Setting}
use Rattle.bench_rule.specs.declared.views.Role.TheVariants.{Worker, Spent}
use Rattle.bench_rule.specs.declared.views.View.{View}
use Rattle.bench_rule.specs.After.{after_take}
use Rattle.bench_rule.specs.Plays.{take_tells, take_own_tells, look_tells, Missed, Took, TookOut, SeemsWaiting}
use Rattle.bench_rule.specs.Sound.{Sound, HasView, word_of, out_in, finished_in}
use Rattle.bench_rule.specs.Views.{Carried, Content, KeepsCarried, Bench, Sitting, holding, with_miss, with_taken}
use Rattle.bench_rule.proofs.Alone.{seems_waiting}
use Rattle.bench_rule.proofs.Bounds.{few_held}
use Rattle.bench_rule.proofs.Carried.{front_content}
use Rattle.bench_rule.proofs.Counts.{job_of_held, one_here, one_else, out_small}
use Rattle.bench_rule.proofs.Frames.{slot_moves, looks, emits_nothing, owner_book, owner_lives, worker_lives}
use Rattle.bench_rule.proofs.Sums.{term_le, within}
use Rattle.std.proofs.lemmas.Option.{slice_get_within}

pub take_moves : (setting : Setting) (bench : Bench) (sound : Sound setting bench) (id slot : ℕ) (view : View) (job : AcceptedPlan) → HasView bench id view → view.role ≢ Spent → slot < length bench.homes → word_of bench.words slot ≡ 1 → slice_get sound.book.jobs slot ≡ Some job
    → Sound setting (after_take bench id slot view job)
take_moves setting bench sound id slot view job mine lives inside was there = slot_moves setting bench sound id slot 2 view (with_taken view slot job) (set bench.homes slot none) sound.book record {
  mine = mine;
  inside = inside;
  as_long = length-set bench.homes slot none;
  elsewhere = λ other apart. set_else bench.homes slot other none apart;
  book_mine = λ e. owner_book setting bench sound view (subst (λ (i : ℕ). get_elem? bench.views i ≡ some view) e mine);
  book_other = λ _. refl;
  same_shut = refl;
  same_noted = refl;
  same_closed = refl;
  same_emitted = refl;
  more = λ other x e. e;
  longer = omega arith;
  room = sound.room;
  numbered = sound.numbered;
  used_before = λ other apart h. h;
  lifted_before = λ other apart h. h;
  here = let ok = sound.each_slot slot inside in record {
    known = omega arith;
    used = λ h. ok.used (omega arith);
    unused = λ h. absurd (omega arith);
    empty = λ h. absurd (omega arith);
    waiting = λ h. absurd (omega arith);
    out = λ h. set_here bench.homes slot none inside;
    finished = λ h. absurd (omega arith);
  };
  held = omega (arith, ap out_in was, one_here slot);
  held_else = λ other apart. omega (arith, one_else slot other (λ e. apart (sym e)));
  finished = omega (arith, ap finished_in was);
  finished_else = λ other apart. refl;
  held_jobs = (there, sound.held_jobs id view mine);
  workers = omega arith;
  known = refl;
  role = refl;
  lives = lives;
  emitted_first = emits_nothing setting bench sound slot 1 2 inside was (λ e. omega arith) (λ e. omega arith);
  emitted_within = sound.emitted_within;
}

-- no view holds more slots than there are
pub held_within : (setting : Setting) (bench : Bench) (sound : Sound setting bench) (id : ℕ) (view : View) → HasView bench id view → length view.held ≤ length bench.homes
held_within setting bench sound id view mine = few_held (length bench.homes) view.held
    (λ slot. let one = out_small (word_of bench.words slot) in let all = sound.held_once slot in let mine_only = term_le (holding slot) bench.views id view mine in omega arith)
    (λ slot h. let t = job_of_held sound.book.jobs slot view.held (sound.held_jobs id view mine) h in let inside = slice_get_within sound.book.jobs slot t.0 t.1 in let room = sound.room in omega arith)

-- a slot, read back from the number of its word
pub same_slot : (slot other : ℕ) → slot + 1 ≡ other + 1 → slot ≡ other
same_slot slot other e = omega arith

-- what is told of a slot that was taken
took : (setting : Setting) (bench : Bench) (sound : Sound setting bench) (n id slot other : ℕ) (seat : Sitting) (job : AcceptedPlan) → length bench.homes ≡ n → HasView bench id seat.0 → seat.0.role ≢ Spent → slot < length bench.homes → word_of bench.words slot ≡ 1
    → slice_get sound.book.jobs slot ≡ Some job → slot ≡ other → Took n other seat (with_taken seat.0 slot job, (slot, Waiting job) ∷ seat.1)
took setting bench sound n id slot other seat job wide mine lives inside was there same =
    let later = take_moves setting bench sound id slot seat.0 job mine lives inside was there in
    let few = held_within setting (after_take bench id slot seat.0 job) later id (with_taken seat.0 slot job) (set_here bench.views id (with_taken seat.0 slot job) (within bench.views id seat.0 mine)) in
    let long = length-set bench.homes slot none in
    (job, ap (λ (r : ℕ). (with_taken seat.0 r job, (r, Waiting job) ∷ seat.1)) same, omega arith)

pub take_allowed : (setting : Setting) (n id slot : ℕ) (seat : Sitting) → seat.0.role ≡ Worker → slot < n → Allows (Sound setting) n id seat (slot + 1) (λ x. either (eqb x 1) 2 x) (take_tells (step n (slot + 1) 1 2 none) seat)
take_allowed setting n id slot seat worker lt bench sound wide mine _ = let inside : slot < length bench.homes = omega arith in let lives = worker_lives seat.0.role worker in dite (ℕ_discrete (word_of bench.words slot) 1)
    (λ hit. let (job, there, rests) = (sound.each_slot slot inside).waiting hit in (
      with_taken seat.0 slot job,
      takes slot (Waiting job),
      rests,
      subst (λ b. Sound setting record { words = set bench.words (slot + 1) (either b 2 (word_of bench.words slot)); homes = set bench.homes slot none; views = set bench.views id (with_taken seat.0 slot job) }) (sym (eq-eqb (word_of bench.words slot) 1 hit))
          (take_moves setting bench sound id slot seat.0 job mine lives inside hit there),
      λ other is. (λ _. took setting bench sound n id slot other seat job wide mine lives inside hit there (same_slot slot other is), λ miss. absurd (miss hit)),
    ))
    (λ miss. (
      with_miss seat.0 slot,
      keeps,
      tt,
      subst (λ b. Sound setting record { words = set bench.words (slot + 1) (either b 2 (word_of bench.words slot)); homes = bench.homes; views = set bench.views id (with_miss seat.0 slot) }) (sym (ne_eqb (word_of bench.words slot) 1 miss))
          (looks setting bench sound id (slot + 1) seat.0 (with_miss seat.0 slot) mine refl refl refl refl refl refl),
      λ other is. (λ hit. absurd (miss hit), λ _. ap (λ (r : ℕ). (with_miss seat.0 r, seat.1)) (same_slot slot other is)),
    ))

take_own_first : (setting : Setting) (n slot : ℕ) (seat : Sitting) → slot < n → Allows (Sound setting) n 0 seat (slot + 1) (λ x. either (eqb x 1) 2 x) (take_own_tells (step n (slot + 1) 1 2 none) seat)
take_own_first setting n slot seat lt bench sound wide mine _ = let inside : slot < length bench.homes = omega arith in let lives = owner_lives setting bench sound seat.0 mine in
    let exact : (other : ℕ) → slot + 1 ≡ other + 1 → seat.0.seats_out ≡ 0 → (word_of bench.words slot ≡ 1) ↔ SeemsWaiting other seat.0
    = λ other is idle. subst (λ (r : ℕ). (word_of bench.words slot ≡ 1) ↔ SeemsWaiting r seat.0) (same_slot slot other is) (seems_waiting setting bench sound seat.0 mine idle slot inside) in dite (ℕ_discrete (word_of bench.words slot) 1)
    (λ hit. let (job, there, rests) = (sound.each_slot slot inside).waiting hit in (
      with_taken seat.0 slot job,
      takes slot (Waiting job),
      rests,
      subst (λ b. Sound setting record { words = set bench.words (slot + 1) (either b 2 (word_of bench.words slot)); homes = set bench.homes slot none; views = set bench.views 0 (with_taken seat.0 slot job) }) (sym (eq-eqb (word_of bench.words slot) 1 hit))
          (take_moves setting bench sound 0 slot seat.0 job mine lives inside hit there),
      λ other is. (λ _. took setting bench sound n 0 slot other seat job wide mine lives inside hit there (same_slot slot other is), λ miss. absurd (miss hit), exact other is),
    ))
    (λ miss. (
      seat.0,
      keeps,
      tt,
      subst (λ b. Sound setting record { words = set bench.words (slot + 1) (either b 2 (word_of bench.words slot)); homes = bench.homes; views = set bench.views 0 seat.0 }) (sym (ne_eqb (word_of bench.words slot) 1 miss))
          (looks setting bench sound 0 (slot + 1) seat.0 seat.0 mine refl refl refl refl refl refl),
      λ other is. (λ hit. absurd (miss hit), λ _. refl, exact other is),
    ))

pub take_own_allowed : (setting : Setting) (n id slot : ℕ) (seat : Sitting) → id ≡ 0 → slot < n → Allows (Sound setting) n id seat (slot + 1) (λ x. either (eqb x 1) 2 x) (take_own_tells (step n (slot + 1) 1 2 none) seat)
take_own_allowed setting n id slot seat first lt = subst (λ (i : ℕ). Allows (Sound setting) n i seat (slot + 1) (λ x. either (eqb x 1) 2 x) (take_own_tells (step n (slot + 1) 1 2 none) seat)) (sym first) (take_own_first setting n slot seat lt)

pub look_allowed : (setting : Setting) (n id slot : ℕ) (seat : Sitting) → Allows (Sound setting) n id seat (slot + 1) (λ x. x) (look_tells (step n (slot + 1) 0 0 none) seat)
look_allowed setting n id slot seat bench sound wide mine _ = dite (ℕ_discrete (word_of bench.words slot) 1)
    (λ hit. (seat.0, keeps, tt, looks setting bench sound id (slot + 1) seat.0 seat.0 mine refl refl refl refl refl refl, λ other is. (λ _. refl, λ miss. absurd (miss hit))))
    (λ miss. (
      with_miss seat.0 slot,
      keeps,
      tt,
      looks setting bench sound id (slot + 1) seat.0 (with_miss seat.0 slot) mine refl refl refl refl refl refl,
      λ other is. (λ hit. absurd (miss hit), λ _. ap (λ (r : ℕ). (with_miss seat.0 r, seat.1)) (same_slot slot other is)),
    ))

-- the seat after the job was taken out of the slot
pub took_out : (slots slot : ℕ) (seat middle later : Sitting) (job : AcceptedPlan) (found : Content) → (t : Took slots slot seat middle) → middle.1 ≡ (slot, found) ∷ rest middle.1 → found ≡ Waiting job → later ≡ (middle.0, (slot, Nothing) ∷ rest middle.1)
    → TookOut slots slot job seat later
took_out slots slot seat middle later job found (taken, is, few) e f g =
    let content : Waiting taken ≡ Waiting job = sym (front_content middle.1 seat.1 slot (Waiting taken) found (ap (λ (z : Sitting). z.1) is) e) ∙ f in let same : taken ≡ job = cc in
    let view : later.0 ≡ middle.0 = ap (λ (z : Sitting). z.0) g in (
      g ∙ ap (λ (z : Sitting). (z.0, (slot, Nothing) ∷ rest z.1)) is ∙ ap (λ (z : AcceptedPlan). (with_taken seat.0 slot z, (slot, Nothing) ∷ seat.1)) same,
      subst (λ (v : View). length v.held ≤ slots) (sym view) few,
    )

pub missed_keeps : (slot : ℕ) (seat later : Sitting) → Missed slot seat later → KeepsCarried seat later
missed_keeps slot seat later e = subst (KeepsCarried seat) (sym e) (λ emitted is. is)

pub same_keeps : (seat later : Sitting) → later ≡ seat → KeepsCarried seat later
same_keeps seat later e = subst (KeepsCarried seat) (sym e) (λ emitted is. is)

pub took_keeps : (slots slot : ℕ) (job : AcceptedPlan) (seat later : Sitting) → TookOut slots slot job seat later → KeepsCarried seat later
took_keeps slots slot job seat later (e, few) = subst (KeepsCarried seat) (sym e) (λ emitted is. ap (λ (l : Carried). (slot, Nothing) ∷ l) is)

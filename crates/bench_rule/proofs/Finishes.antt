-- A seat brings a slot that it holds before the others, finishes its job or hands it back.

use Rattle.std.proofs.Common.{List, ◌≡◌, ◌<◌, ◌≤◌, ℕ, ◌+◌, ◌∷◌, ◌++◌, slice_get, Some, length, set, sym, refl, ap, ◌∙◌, subst, arith, length-set}
use mathlib.Core.Option.{some, none}
use lib.ListN.{get_elem?}
use Rattle.std.proofs.lemmas.Option.{slice_get_within}
use Rattle.atomic_table.specs.Table.{step, stepped, Act, gives, rest, Allows, Valid, carried_after}
use Rattle.atomic_table.proofs.Lists.{set_here, set_else}
use Rattle.intake_rules.specs.declared.finding.Finding.{Finding}
use Rattle.intake_rules.specs.Findings.{IsRight}
use Rattle.intake_rules.specs.Jobs.{AcceptedPlan}
use Rattle.bench_rule.specs.declared.contents.Item.TheVariants.{Nothing, Waiting, Done}
use Rattle.bench_rule.specs.declared.views.Held.{Held}
use Rattle.bench_rule.specs.declared.views.Setting.{Setting}
use Rattle.bench_rule.specs.declared.views.View.{View}
use Rattle.bench_rule.specs.After.{after_finish, after_hand_back}
use Rattle.bench_rule.specs.Plays.{bring_tells, finish_tells, hand_back_tells}
use Rattle.bench_rule.specs.Sound.{Sound, HasView, word_of, out_in, finished_in}
use Rattle.bench_rule.specs.Views.{Content, Carried, Bench, Sitting, HoldsJob, KeepsCarried, holding, knows_finished, slots_of, times_held, with_finished, with_handed_back, without_held, without_slot}
use Rattle.bench_rule.proofs.Bounds.{few}
use Rattle.bench_rule.proofs.Counts.{carries_without, number_there, one_here, one_else, out_two, out_small, finished_small, finished_used, job_of_held, held_often, held_job, without_here, without_else, without_known, times-push}
use Rattle.bench_rule.proofs.Frames.{slot_moves, looks, emits_nothing, owner_book, holder_lives}
use Rattle.bench_rule.proofs.Pulls.{pull, AreOut, Homes}
use Rattle.bench_rule.proofs.Sums.{term_le, within}
use Rattle.bench_rule.proofs.Takes.{same_slot}

module _ (setting : Setting) (bench : Bench) (sound : Sound setting bench) (id : ℕ) (view : View) (mine : HasView bench id view) where
  -- a slot that a view holds is out, and there
  pub is_out : (slot : ℕ) → 0 < times_held slot view.held → word_of bench.words slot ≡ 2
  is_out slot h = out_two (word_of bench.words slot) (let one = term_le (holding slot) bench.views id view mine in let all = sound.held_once slot in omega arith)

  pub is_inside : (slot : ℕ) → 0 < times_held slot view.held → slot < length bench.homes
  is_inside slot h = let t = job_of_held sound.book.jobs slot view.held (sound.held_jobs id view mine) h in let used = slice_get_within sound.book.jobs slot t.0 t.1 in let room = sound.room in omega arith

  all_out : AreOut bench.homes view.held
  all_out = record {
    once = λ slot. let one = term_le (holding slot) bench.views id view mine in let all = sound.held_once slot in let small = out_small (word_of bench.words slot) in omega arith;
    away = λ slot h. (sound.each_slot slot (is_inside slot h)).out (is_out slot h);
  }

  -- no view names more slots as finished than there are
  pub finished_within : length view.finished ≤ length bench.homes
  finished_within = few (length bench.homes) view.finished
      (λ slot. let one = term_le (knows_finished slot) bench.views id view mine in let all = sound.finished_once slot in let small = finished_small (word_of bench.words slot) in omega arith)
      (λ slot h. let one = term_le (knows_finished slot) bench.views id view mine in let all = sound.finished_once slot in let used = finished_used (word_of bench.words slot) (omega arith) in let there = number_there bench.words (slot + 1) used in let long = sound.word_count in omega arith)

pub brings : (setting : Setting) (n id slot : ℕ) (seat : Sitting) (emitted : Carried) → 0 < times_held slot seat.0.held → seat.1 ≡ slots_of seat.0.held ++ emitted
    → Allows (Sound setting) n id seat (slot + 1) (λ x. x) (bring_tells (step n (slot + 1) 0 0 none) seat)
brings setting n id slot seat emitted h is bench sound wide mine _ =
    let t = pull bench.homes slot seat.0.held emitted h (all_out setting bench sound id seat.0 mine) in
    let Goes : Carried → Type 0 = λ c. (view : View) × (act : Act Content) × Valid bench.homes c act × Sound setting (stepped bench (slot + 1) (word_of bench.words slot) id c view act) × ((other : ℕ) → slot + 1 ≡ other + 1 → ◌≡◌ {A = Sitting} (view, carried_after c act) (seat.0, (other, Nothing) ∷ without_slot other c)) in
    let c = slots_of seat.0.held ++ emitted in
    subst Goes (sym is) (
      seat.0,
      t.0,
      t.1.0,
      subst (λ (homes : Homes). Sound setting record { words = set bench.words (slot + 1) (word_of bench.words slot); homes = homes; views = set bench.views id seat.0 }) (sym t.1.1) (looks setting bench sound id (slot + 1) seat.0 seat.0 mine refl refl refl refl refl refl),
      λ other e. ap (λ (l : Carried). (seat.0, l)) t.1.2 ∙ ap (λ (r : ℕ). (seat.0, (r, Nothing) ∷ without_slot r c)) (same_slot slot other e),
    )

pub finish_moves : (setting : Setting) (bench : Bench) (sound : Sound setting bench) (id slot : ℕ) (view : View) (finding : Finding) → HasView bench id view → 0 < times_held slot view.held → slice_get sound.book.jobs slot ≡ Some finding.job → IsRight setting.task.value finding
    → Sound setting (after_finish bench id slot view finding)
finish_moves setting bench sound id slot view finding mine held there right = let inside = is_inside setting bench sound id view mine slot held in let was = is_out setting bench sound id view mine slot held in
    slot_moves setting bench sound id slot 3 view (with_finished view slot) (set bench.homes slot (some (Done finding))) sound.book record {
      mine = mine;
      inside = inside;
      as_long = length-set bench.homes slot (some (Done finding));
      elsewhere = λ other apart. set_else bench.homes slot other (some (Done finding)) apart;
      book_mine = λ e. owner_book setting bench sound view (subst (λ (i : ℕ). get_elem? bench.views i ≡ some view) e mine);
      book_other = λ _. refl;
      same_shut = refl;
      same_noted = refl;
      same_closed = refl;
      same_emitted = refl;
      more = λ other x e. e;
      longer = omega arith;
      room = sound.room;
      numbered = sound.numbered;
      used_before = λ other apart h. h;
      lifted_before = λ other apart h. h;
      here = let ok = sound.each_slot slot inside in record {
        known = omega arith;
        used = λ h. ok.used (omega arith);
        unused = λ h. absurd (omega arith);
        empty = λ h. absurd (omega arith);
        waiting = λ h. absurd (omega arith);
        out = λ h. absurd (omega arith);
        finished = λ h. (finding, there, set_here bench.homes slot (some (Done finding)) inside, right);
      };
      held = omega (arith, ap out_in was, without_here slot view.held held);
      held_else = λ other apart. without_else slot other view.held apart;
      finished = omega (arith, ap finished_in was, times-push slot slot view.finished, one_here slot);
      finished_else = λ other apart. omega (arith, times-push other slot view.finished, one_else slot other (λ e. apart (sym e)));
      held_jobs = without_known sound.book.jobs slot view.held (sound.held_jobs id view mine);
      workers = omega arith;
      known = refl;
      role = refl;
      lives = holder_lives setting bench sound id slot view mine held;
      emitted_first = emits_nothing setting bench sound slot 2 3 inside was (λ e. omega arith) (λ e. omega arith);
      emitted_within = sound.emitted_within;
    }

pub hand_back_moves : (setting : Setting) (bench : Bench) (sound : Sound setting bench) (id slot : ℕ) (view : View) (job : AcceptedPlan) → HasView bench id view → 0 < times_held slot view.held → slice_get sound.book.jobs slot ≡ Some job
    → Sound setting (after_hand_back bench id slot view job)
hand_back_moves setting bench sound id slot view job mine held there = let inside = is_inside setting bench sound id view mine slot held in let was = is_out setting bench sound id view mine slot held in
    slot_moves setting bench sound id slot 1 view (with_handed_back view slot) (set bench.homes slot (some (Waiting job))) sound.book record {
      mine = mine;
      inside = inside;
      as_long = length-set bench.homes slot (some (Waiting job));
      elsewhere = λ other apart. set_else bench.homes slot other (some (Waiting job)) apart;
      book_mine = λ e. owner_book setting bench sound view (subst (λ (i : ℕ). get_elem? bench.views i ≡ some view) e mine);
      book_other = λ _. refl;
      same_shut = refl;
      same_noted = refl;
      same_closed = refl;
      same_emitted = refl;
      more = λ other x e. e;
      longer = omega arith;
      room = sound.room;
      numbered = sound.numbered;
      used_before = λ other apart h. h;
      lifted_before = λ other apart h. h;
      here = let ok = sound.each_slot slot inside in record {
        known = omega arith;
        used = λ h. ok.used (omega arith);
        unused = λ h. absurd (omega arith);
        empty = λ h. absurd (omega arith);
        waiting = λ h. (job, there, set_here bench.homes slot (some (Waiting job)) inside);
        out = λ h. absurd (omega arith);
        finished = λ h. absurd (omega arith);
      };
      held = omega (arith, ap out_in was, without_here slot view.held held);
      held_else = λ other apart. without_else slot other view.held apart;
      finished = omega (arith, ap finished_in was);
      finished_else = λ other apart. refl;
      held_jobs = without_known sound.book.jobs slot view.held (sound.held_jobs id view mine);
      workers = omega arith;
      known = refl;
      role = refl;
      lives = holder_lives setting bench sound id slot view mine held;
      emitted_first = emits_nothing setting bench sound slot 2 1 inside was (λ e. omega arith) (λ e. omega arith);
      emitted_within = sound.emitted_within;
    }

-- the right finding of a held job is in the slot at the front
finish_front : (setting : Setting) (n id slot : ℕ) (seat : Sitting) (others : Carried) (finding : Finding) → HoldsJob slot finding.job seat.0.held → seat.1 ≡ (slot, Done finding) ∷ others → IsRight setting.task.value finding
    → Allows (Sound setting) n id seat (slot + 1) (λ _. 3) (λ _. finish_tells (step n (slot + 1) 3 0 none) seat 3)
finish_front setting n id slot seat others finding held is right bench sound wide mine _ =
    let h = held_often slot finding.job seat.0.held held in let job = held_job sound.book.jobs slot finding.job seat.0.held (sound.held_jobs id seat.0 mine) held in
    let later = finish_moves setting bench sound id slot seat.0 finding mine h job right in
    let few : length (with_finished seat.0 slot).finished ≤ n =
    let short = finished_within setting (after_finish bench id slot seat.0 finding) later id (with_finished seat.0 slot) (set_here bench.views id (with_finished seat.0 slot) (within bench.views id seat.0 mine)) in
    let long = length-set bench.homes slot (some (Done finding)) in omega arith in
    let Goes : Carried → Type 0 = λ c. (view : View) × (act : Act Content) × Valid bench.homes c act × Sound setting (stepped bench (slot + 1) 3 id c view act)
    × ((other : ℕ) → slot + 1 ≡ other + 1 → (◌≡◌ {A = Sitting} (view, carried_after c act) (with_finished seat.0 other, rest c)) × (length view.finished ≤ n)) in
    subst Goes (sym is) (
      with_finished seat.0 slot,
      gives,
      tt,
      later,
      λ other e. (ap (λ (r : ℕ). (with_finished seat.0 r, others)) (same_slot slot other e), few),
    )

hand_back_front : (setting : Setting) (n id slot : ℕ) (seat : Sitting) (others : Carried) (job : AcceptedPlan) → HoldsJob slot job seat.0.held → seat.1 ≡ (slot, Waiting job) ∷ others
    → Allows (Sound setting) n id seat (slot + 1) (λ _. 1) (λ _. hand_back_tells (step n (slot + 1) 1 0 none) seat 1)
hand_back_front setting n id slot seat others job held is bench sound wide mine _ =
    let h = held_often slot job seat.0.held held in let there = held_job sound.book.jobs slot job seat.0.held (sound.held_jobs id seat.0 mine) held in
    let Goes : Carried → Type 0 = λ c. (view : View) × (act : Act Content) × Valid bench.homes c act × Sound setting (stepped bench (slot + 1) 1 id c view act)
    × ((other : ℕ) → slot + 1 ≡ other + 1 → ◌≡◌ {A = Sitting} (view, carried_after c act) (with_handed_back seat.0 other, rest c)) in
    subst Goes (sym is) (
      with_handed_back seat.0 slot,
      gives,
      tt,
      hand_back_moves setting bench sound id slot seat.0 job mine h there,
      λ other e. ap (λ (r : ℕ). (with_handed_back seat.0 r, others)) (same_slot slot other e),
    )

-- the slot was brought before the others, and then filled
pub laid : (seat middle later : Sitting) (slot : ℕ) (content : Content) → middle ≡ (seat.0, (slot, Nothing) ∷ without_slot slot seat.1) → later ≡ (middle.0, (slot, content) ∷ rest middle.1) → later ≡ (seat.0, (slot, content) ∷ without_slot slot seat.1)
laid seat middle later slot content e f = f ∙ ap (λ (z : Sitting). (z.0, (slot, content) ∷ rest z.1)) e

pub finish_allowed : (setting : Setting) (n id slot : ℕ) (seat filled : Sitting) (finding : Finding) → HoldsJob slot finding.job seat.0.held → filled ≡ (seat.0, (slot, Done finding) ∷ without_slot slot seat.1) → IsRight setting.task.value finding
    → Allows (Sound setting) n id filled (slot + 1) (λ _. 3) (λ _. finish_tells (step n (slot + 1) 3 0 none) filled 3)
finish_allowed setting n id slot seat filled finding held is right = finish_front setting n id slot filled (without_slot slot seat.1) finding (subst (λ (z : Sitting). HoldsJob slot finding.job z.0.held) (sym is) held) (ap (λ (z : Sitting). z.1) is) right

pub hand_back_allowed : (setting : Setting) (n id slot : ℕ) (seat filled : Sitting) (job : AcceptedPlan) → HoldsJob slot job seat.0.held → filled ≡ (seat.0, (slot, Waiting job) ∷ without_slot slot seat.1)
    → Allows (Sound setting) n id filled (slot + 1) (λ _. 1) (λ _. hand_back_tells (step n (slot + 1) 1 0 none) filled 1)
hand_back_allowed setting n id slot seat filled job held is = hand_back_front setting n id slot filled (without_slot slot seat.1) job (subst (λ (z : Sitting). HoldsJob slot job z.0.held) (sym is) held) (ap (λ (z : Sitting). z.1) is)

-- the seat after the filled slot was given back
pub given : (seat filled later : Sitting) (slot : ℕ) (content : Content) (change : View → ℕ → View) → filled ≡ (seat.0, (slot, content) ∷ without_slot slot seat.1) → later ≡ (change filled.0 slot, rest filled.1) → later ≡ (change seat.0 slot, without_slot slot seat.1)
given seat filled later slot content change e f = f ∙ ap (λ (z : Sitting). (change z.0 slot, rest z.1)) e

pub given_keeps : (slot : ℕ) (job : AcceptedPlan) (seat later : Sitting) (view : View) → view.held ≡ without_held slot seat.0.held → HoldsJob slot job seat.0.held → later ≡ (view, without_slot slot seat.1) → KeepsCarried seat later
given_keeps slot job seat later view held holds e = subst (KeepsCarried seat) (sym e)
    (λ emitted is. ap (without_slot slot) is ∙ (carries_without slot seat.0.held emitted (held_often slot job seat.0.held holds) ∙ ap (λ (all : List Held). slots_of all ++ emitted) (sym held)))

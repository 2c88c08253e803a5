-- The owner accepts a job.

use Rattle.std.proofs.Common.{◌≡◌, ◌≢◌, ◌<◌, ℕ, ◌+◌, true, false, List, [], ◌∷◌, ◌++◌, slice_get, Some, length, set, sym, refl, ap, ◌∙◌, subst, ⊎_elim, arith, length-set, length-append}
use mathlib.Core.Bool.{false≢true}
use mathlib.Core.Logic.{dite}
use native.Mathlib.Decide.{ℕ_discrete}
use mathlib.Core.Option.{some, none}
use lib.ListN.{get_elem?}
use Rattle.std.proofs.lemmas.Option.{slice_get_within}
use Rattle.atomic_table.specs.Table.{step, stepped, Act, takes, gives, rest, Allows, Valid, carried_after}
use Rattle.atomic_table.proofs.Lists.{set_here, set_else}
use Rattle.intake_rules.specs.Jobs.{AcceptedPlan}
use Rattle.intake_rules.proofs.Pushes.{slice_get_cases, slice_get_kept, slice_get_last}
use Rattle.bench_rule.specs.declared.contents.Item.TheVariants.{Waiting}
use Rattle.bench_rule.specs.declared.views.Setting.{Setting}
use Rattle.bench_rule.specs.declared.views.View.{View}
use Rattle.bench_rule.specs.After.{after_lift, after_post}
use Rattle.bench_rule.specs.Plays.{lift_tells, post_tells}
use Rattle.bench_rule.specs.Sound.{Sound, HasView, Book, book_of, word_of, out_in, finished_in}
use Rattle.bench_rule.specs.Views.{Content, Carried, Bench, Sitting, rank, with_lifted, with_posted}
use Rattle.bench_rule.proofs.Carried.{content_or}
use Rattle.bench_rule.proofs.Frames.{slot_moves, emits_nothing, held_stays, owner_book, owner_lives, word_here, word_else}
use Rattle.bench_rule.proofs.Ranks.{rank_push, rank_grows}
use Rattle.bench_rule.proofs.Takes.{same_slot}

module _ (setting : Setting) (bench : Bench) (sound : Sound setting bench) (view : View) (mine : HasView bench 0 view) where
  book_is : book_of view ≡ sound.book
  book_is = owner_book setting bench sound view mine

  as_many : length view.jobs ≡ length sound.book.jobs
  as_many = ap (λ (b : Book). length b.jobs) book_is

  -- the first unused slot has the word 0
  pub is_unused : (slot : ℕ) → slot ≡ length view.jobs → slot < length bench.homes → word_of bench.words slot ≡ 0
  is_unused slot e inside = let ok = sound.each_slot slot inside in let long = as_many in dite (ℕ_discrete (word_of bench.words slot) 0) (λ same. same) (λ apart. let used = ok.used (omega arith) in absurd (omega arith))

  pub lift_moves : (slot : ℕ) → slot ≡ length view.jobs → slot < length bench.homes → view.lifted ≡ false → (content : Content) × (get_elem? bench.homes slot ≡ some (some content)) × Sound setting (after_lift bench slot view)
  lift_moves slot e inside down = let was = is_unused slot e inside in let ok = sound.each_slot slot inside in let long = as_many in
      let low : sound.book.lifted ≡ false = sym (ap (λ (b : Book). b.lifted) book_is) ∙ down in
      let (content, rests) = ok.empty was (λ up. absurd (false≢true (sym low ∙ up))) in (
        content,
        rests,
        slot_moves setting bench sound 0 slot 0 view (with_lifted view) (set bench.homes slot none) (record sound.book { lifted = true }) record {
          mine = mine;
          inside = inside;
          as_long = length-set bench.homes slot none;
          elsewhere = λ other apart. set_else bench.homes slot other none apart;
          book_mine = λ _. ap (λ (b : Book). record b { lifted = true }) book_is;
          book_other = λ apart. absurd (apart refl);
          same_shut = refl;
          same_noted = refl;
          same_closed = refl;
          same_emitted = refl;
          more = λ other x h. h;
          longer = omega arith;
          room = sound.room;
          numbered = sound.numbered;
          used_before = λ other apart h. h;
          lifted_before = λ other apart h up same. apart (omega arith);
          here = record {
            known = omega arith;
            used = λ h. absurd (omega arith);
            unused = λ h. omega arith;
            empty = λ h free. absurd (free refl (omega arith));
            waiting = λ h. absurd (omega arith);
            out = λ h. absurd (omega arith);
            finished = λ h. absurd (omega arith);
          };
          held = omega (arith, ap out_in was);
          held_else = λ other apart. refl;
          finished = omega (arith, ap finished_in was);
          finished_else = λ other apart. refl;
          held_jobs = sound.held_jobs 0 view mine;
          workers = omega arith;
          known = refl;
          role = refl;
          lives = owner_lives setting bench sound view mine;
          emitted_first = emits_nothing setting bench sound slot 0 0 inside was (λ h. omega arith) (λ h. omega arith);
          emitted_within = sound.emitted_within;
        },
      )

  pub post_moves : (slot : ℕ) (job : AcceptedPlan) → slot ≡ length view.jobs → slot < length bench.homes → job.number ≡ slot → Sound setting (after_post bench slot view job)
  post_moves slot job e inside number = let was = is_unused slot e inside in let long = as_many in
      let jobs : List AcceptedPlan = sound.book.jobs ++ job ∷ [] in
      let longer : length jobs ≡ length sound.book.jobs + 1 = length-append sound.book.jobs (job ∷ []) in
      let book : Book = record sound.book { jobs = jobs; lifted = false } in
      let more : (q : ℕ) (x : AcceptedPlan) → slice_get sound.book.jobs q ≡ Some x → slice_get jobs q ≡ Some x = λ q x h. slice_get_kept sound.book.jobs job x q h in
      let at : slot ≡ length sound.book.jobs = omega arith in
      let last : slice_get jobs slot ≡ Some job = ap (slice_get jobs) at ∙ slice_get_last sound.book.jobs job in
      slot_moves setting bench sound 0 slot 1 view (with_posted view job) (set bench.homes slot (some (Waiting job))) book record {
        mine = mine;
        inside = inside;
        as_long = length-set bench.homes slot (some (Waiting job));
        elsewhere = λ other apart. set_else bench.homes slot other (some (Waiting job)) apart;
        book_mine = λ _. ap (λ (b : Book). record b { jobs = b.jobs ++ job ∷ []; lifted = false }) book_is;
        book_other = λ apart. absurd (apart refl);
        same_shut = refl;
        same_noted = refl;
        same_closed = refl;
        same_emitted = refl;
        more = more;
        longer = omega arith;
        room = omega arith;
        numbered = λ other x there. ⊎_elim
            (λ (z : (other < length sound.book.jobs) × (slice_get sound.book.jobs other ≡ Some x)). sound.numbered other x z.1)
            (λ (z : (other ≡ length sound.book.jobs) × (job ≡ x)). ap (λ (y : AcceptedPlan). y.number) (sym z.1) ∙ (number ∙ (at ∙ sym z.0)))
            (slice_get_cases sound.book.jobs job x other there);
        used_before = λ other apart h. let differs : other ≢ length sound.book.jobs = λ same. apart (omega arith) in omega arith;
        lifted_before = λ other apart h up same. apart (omega arith);
        here = record {
          known = omega arith;
          used = λ h. omega arith;
          unused = λ h. absurd (omega arith);
          empty = λ h free. absurd (omega arith);
          waiting = λ h. (job, last, set_here bench.homes slot (some (Waiting job)) inside);
          out = λ h. absurd (omega arith);
          finished = λ h. absurd (omega arith);
        };
        held = omega (arith, ap out_in was);
        held_else = λ other apart. refl;
        finished = omega (arith, ap finished_in was);
        finished_else = λ other apart. refl;
        held_jobs = held_stays sound.book.jobs jobs more view.held (sound.held_jobs 0 view mine);
        workers = omega arith;
        known = refl;
        role = refl;
        lives = owner_lives setting bench sound view mine;
        emitted_first = λ q x there. dite (ℕ_discrete q slot)
            (λ same. let here = word_here bench.words slot 1 (let a = sound.word_count in omega arith) in let now : word_of (set bench.words (slot + 1) 1) q ≡ 1 = ap (word_of (set bench.words (slot + 1) 1)) same ∙ here in
            let r = rank_push sound.book.jobs job x.planner q (omega arith) in let a = sound.emitted_within x.planner in let z : q ≡ length sound.book.jobs = omega arith in let b = ap (rank sound.book.jobs x.planner) z in
            ((λ four. absurd (omega arith)), (λ less. absurd (omega arith))))
            (λ apart. let lt : q < length sound.book.jobs = let b = slice_get_within jobs q x there in let z : q ≢ length sound.book.jobs = λ same. apart (omega arith) in omega arith in
            let old : slice_get sound.book.jobs q ≡ Some x = ⊎_elim
            (λ (z : (q < length sound.book.jobs) × (slice_get sound.book.jobs q ≡ Some x)). z.1)
            (λ (z : (q ≡ length sound.book.jobs) × (job ≡ x)). let past = z.0 in absurd (omega arith)) (slice_get_cases sound.book.jobs job x q there) in
            let f = sound.emitted_first q x old in let here = word_else bench.words slot 1 q apart in let r = rank_push sound.book.jobs job x.planner q (omega arith) in
            ((λ four. let c = f.0 (sym here ∙ four) in omega arith), (λ less. here ∙ f.1 (omega arith))));
        emitted_within = λ planner. let a = sound.emitted_within planner in let b = rank_grows sound.book.jobs job planner in omega arith;
      }

lift_first : (setting : Setting) (n slot : ℕ) (seat : Sitting) → slot ≡ length seat.0.jobs → slot < n → seat.0.lifted ≡ false → Allows (Sound setting) n 0 seat (slot + 1) (λ x. x) (lift_tells (step n (slot + 1) 0 0 none) seat)
lift_first setting n slot seat e inside down bench sound wide mine _ = let lt : slot < length bench.homes = omega arith in let (content, rests, later) = lift_moves setting bench sound seat.0 mine slot e lt down in let was = is_unused setting bench sound seat.0 mine slot e lt in (
  with_lifted seat.0,
  takes slot content,
  rests,
  subst (λ (word : ℕ). Sound setting record { words = set bench.words (slot + 1) word; homes = set bench.homes slot none; views = set bench.views 0 (with_lifted seat.0) }) (sym was) later,
  λ other is. (content, ap (λ (r : ℕ). (with_lifted seat.0, (r, content) ∷ seat.1)) (same_slot slot other is)),
)

post_first : (setting : Setting) (n slot : ℕ) (seat : Sitting) (job : AcceptedPlan) (others : Carried) → slot ≡ length seat.0.jobs → slot < n → job.number ≡ slot → seat.1 ≡ (slot, Waiting job) ∷ others
    → Allows (Sound setting) n 0 seat (slot + 1) (λ _. 1) (λ _. post_tells (step n (slot + 1) 1 0 none) seat 1)
post_first setting n slot seat job others e inside number is bench sound wide mine _ = let lt : slot < length bench.homes = omega arith in
    let Goes : Carried → Type 0 = λ c. (view : View) × (act : Act Content) × Valid bench.homes c act × Sound setting (stepped bench (slot + 1) 1 0 c view act)
    × ((other : ℕ) (x : AcceptedPlan) (d : Carried) → c ≡ (other, Waiting x) ∷ d → ◌≡◌ {A = Sitting} (view, carried_after c act) (with_posted seat.0 x, d)) in
    subst Goes (sym is) (
      with_posted seat.0 job,
      gives,
      tt,
      post_moves setting bench sound seat.0 mine slot job e lt number,
      λ other x d eq. let content : Waiting job ≡ Waiting x = ap (content_or (Waiting job)) eq in let same : job ≡ x = cc in let left : others ≡ d = ap rest eq in λ i. (with_posted seat.0 (same i), left i),
    )

pub lift_allowed : (setting : Setting) (n id slot : ℕ) (seat : Sitting) → id ≡ 0 → slot ≡ length seat.0.jobs → slot < n → seat.0.lifted ≡ false → Allows (Sound setting) n id seat (slot + 1) (λ x. x) (lift_tells (step n (slot + 1) 0 0 none) seat)
lift_allowed setting n id slot seat first e inside down = subst (λ (i : ℕ). Allows (Sound setting) n i seat (slot + 1) (λ x. x) (lift_tells (step n (slot + 1) 0 0 none) seat)) (sym first) (lift_first setting n slot seat e inside down)

-- the slot was taken from home, and then filled
pub lifted_up : (seat middle later : Sitting) (slot : ℕ) (old content : Content) → middle ≡ (with_lifted seat.0, (slot, old) ∷ seat.1) → later ≡ (middle.0, (slot, content) ∷ rest middle.1) → later ≡ (with_lifted seat.0, (slot, content) ∷ seat.1)
lifted_up seat middle later slot old content e f = f ∙ ap (λ (z : Sitting). (z.0, (slot, content) ∷ rest z.1)) e

pub post_allowed : (setting : Setting) (n id slot : ℕ) (seat filled : Sitting) (job : AcceptedPlan) → id ≡ 0 → slot ≡ length seat.0.jobs → slot < n → job.number ≡ slot → filled ≡ (with_lifted seat.0, (slot, Waiting job) ∷ seat.1)
    → Allows (Sound setting) n id filled (slot + 1) (λ _. 1) (λ _. post_tells (step n (slot + 1) 1 0 none) filled 1)
post_allowed setting n id slot seat filled job first e inside number is = let F : ℕ × Sitting → Type 0 = λ t. Allows (Sound setting) n t.0 t.1 (slot + 1) (λ _. 1) (λ _. post_tells (step n (slot + 1) 1 0 none) t.1 1) in
    subst F (λ i. (sym first i, sym is i)) (post_first setting n slot (with_lifted seat.0, (slot, Waiting job) ∷ seat.1) job seat.1 e inside number refl)

pub posted_at : (filled later seat : Sitting) (slot : ℕ) (job : AcceptedPlan) → filled ≡ (with_lifted seat.0, (slot, Waiting job) ∷ seat.1)
    → ((other : ℕ) (x : AcceptedPlan) (others : Carried) → filled.1 ≡ (other, Waiting x) ∷ others → later ≡ (with_posted filled.0 x, others)) → later ≡ (with_posted seat.0 job, seat.1)
posted_at filled later seat slot job e f = f slot job seat.1 (ap (λ (z : Sitting). z.1) e) ∙ ap (λ (z : Sitting). (with_posted z.0 job, seat.1)) e

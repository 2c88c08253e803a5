-- Seats that are split off and joined, planners that are closed, and the bench that is shut.

use Rattle.bench_rule.specs.declared.contents.Item.TheVariants.{Nothing}
use Rattle.std.proofs.Common.{◌≡◌, ◌≢◌, ◌⊎◌, ◌<◌, ℕ, zero, suc, ◌+◌, ◌-◌, Bool, true, false, List, [], ◌∷◌, ◌++◌, Some, length, map, get_or, set, replicate, sym, refl, ap, ◌∙◌, subst, inl, inr, ⊎_elim, arith, length-set, get_or-set_same, get_or-set_other}
use Rattle.std.proofs.lemmas.List.{length-replicate, set-get_or}
use mathlib.Core.Logic.{dite}
use native.Mathlib.Decide.{ℕ_discrete}
use mathlib.Core.Option.{some, none, some-injective, some-ne-none}
use lib.ListN.{get_elem?, length-map}
use Rattle.atomic_table.specs.Table.{Splits, Joins, opening, Allows, keeps, step}
use Rattle.atomic_table.proofs.Lists.{at_set, set_here, set_else, at_snoc, at_longer, some_there}
use Rattle.bench_rule.specs.declared.views.Held.{Held}
use Rattle.bench_rule.specs.declared.views.Role.{Role}
use Rattle.bench_rule.specs.declared.views.Role.TheVariants.{Owner, Worker, Spent}
use Rattle.bench_rule.specs.declared.views.Setting.{Setting}
use Rattle.bench_rule.specs.declared.views.View.{View}
use Rattle.bench_rule.specs.After.{with_view, after_split, after_join, after_shut}
use Rattle.bench_rule.specs.Plays.{close_tells, shut_tells, look_at_shut_tells}
use Rattle.bench_rule.specs.Sound.{Sound, HeldWithJobs, KnowsSetting, FitsRole, HasView, Book, word_of, shut_word, out_in, finished_in}
use Rattle.bench_rule.specs.Views.{Bench, Sitting, one_if, total, holding, knows_finished, counts_as_worker, worker_count, times_held, first_view, worker_view, spent_view, with_seat_out, with_joined, with_close, with_shut, with_note}
use Rattle.bench_rule.proofs.Counts.{times-append}
use Rattle.bench_rule.proofs.Frames.{ViewStep, view_moves, looks, owner_book, owner_role}
use Rattle.bench_rule.proofs.Sums.{total-set, total-push, term_le, within}

owner_setting : (setting : Setting) (view : View) → view.role ≡ Owner → KnowsSetting setting view.role view.setting → view.setting ≡ Some setting
owner_setting setting view owner knows = subst (λ (role : Role). KnowsSetting setting role view.setting) owner knows

at_later : (xs : List View) (last x : View) (i : ℕ) → 0 < length xs → get_elem? (xs ++ last ∷ []) i ≡ some x → (get_elem? xs i ≡ some x) ⊎ ((0 < i) × (last ≡ x))
at_later [] last x i h e = absurd (omega arith)
at_later (y ∷ ys) last x zero h e = inl e
at_later (y ∷ ys) last x (suc i) h e = ⊎_elim (λ t. inl t) (λ t. inr (omega arith, t)) (at_snoc ys last x i e)

owner_fits : (held held' : List Held) (finished finished' : List ℕ) (role : Role) → FitsRole 0 role held finished → role ≡ Owner → FitsRole 0 role held' finished'
owner_fits held held' finished finished' Owner fits e = fits
owner_fits held held' finished finished' Worker fits e = absurd (fits refl)
owner_fits held held' finished finished' Spent fits e = cc

pub split_moves : (setting : Setting) (bench : Bench) (sound : Sound setting bench) (view : View) → HasView bench 0 view → Sound setting (after_split bench view)
split_moves setting bench sound view mine =
    let owner = owner_role setting bench sound view mine in
    let new : View = worker_view view.setting in let later : View = with_seat_out view in let views : List View = set bench.views 0 later in
    let set_or_old : (F : View → Type 0) → F later → ((id : ℕ) (other : View) → get_elem? bench.views id ≡ some other → F other) → (id : ℕ) (other : View) → get_elem? views id ≡ some other → F other
    = λ F here old id other e. ⊎_elim (λ (z : (id ≡ 0) × (later ≡ other)). subst F z.1 here) (λ (z : (id ≢ 0) × (get_elem? bench.views id ≡ some other)). old id other z.1) (at_set bench.views 0 id later other e) in record {
      book = record sound.book { seats_out = sound.book.seats_out + 1 };
      owner = (
        later,
        record {
          first = at_longer views (new ∷ []) 0 later (set_here bench.views 0 later (within bench.views 0 view mine));
          role = owner;
          knows = ap (λ (b : Book). record b { seats_out = b.seats_out + 1 }) (owner_book setting bench sound view mine);
        },
      );
      slot_count = sound.slot_count;
      word_count = sound.word_count;
      shut_known = sound.shut_known;
      notes = λ id other e noted. ⊎_elim
          (λ (t : get_elem? views id ≡ some other). let F : View → Type 0 = λ v. v.noted ≡ true → sound.book.shut ≡ true in set_or_old F (sound.notes 0 view mine) sound.notes id other t noted)
          (λ (t : new ≡ other). let clash : false ≡ true = ap (λ (v : View). v.noted) t ∙ noted in cc) (at_snoc views new other id e);
      room = sound.room;
      numbered = sound.numbered;
      closed_count = sound.closed_count;
      emitted_count = sound.emitted_count;
      each_slot = sound.each_slot;
      held_once = λ q. omega (arith, total-push (holding q) views new, total-set (holding q) bench.views 0 view later mine, sound.held_once q);
      finished_once = λ q. omega (arith, total-push (knows_finished q) views new, total-set (knows_finished q) bench.views 0 view later mine, sound.finished_once q);
      held_jobs = λ id other e. let F : View → Type 0 = λ v. HeldWithJobs sound.book.jobs v.held in ⊎_elim
          (λ (t : get_elem? views id ≡ some other). set_or_old F (sound.held_jobs 0 view mine) sound.held_jobs id other t)
          (λ (t : new ≡ other). subst F t tt) (at_snoc views new other id e);
      workers = let zero_workers = ap worker_count owner in omega (arith, total-push counts_as_worker views new, total-set counts_as_worker bench.views 0 view later mine, sound.workers);
      settings = λ id other e. let F : View → Type 0 = λ v. KnowsSetting setting v.role v.setting in ⊎_elim
          (λ (t : get_elem? views id ≡ some other). set_or_old F (sound.settings 0 view mine) sound.settings id other t)
          (λ (t : new ≡ other). subst F t (owner_setting setting view owner (sound.settings 0 view mine))) (at_snoc views new other id e);
      roles = λ id other e. let F : ℕ × View → Type 0 = λ y. FitsRole y.0 y.1.role y.1.held y.1.finished in ⊎_elim
          (λ (t : get_elem? views id ≡ some other). ⊎_elim (λ (z : (id ≡ 0) × (later ≡ other)). subst F (λ k. (sym z.0 k, z.1 k)) (sound.roles 0 view mine))
          (λ (z : (id ≢ 0) × (get_elem? bench.views id ≡ some other)). sound.roles id other z.1) (at_set bench.views 0 id later other t))
          (λ (t : (0 < id) × (new ≡ other)). let P : View → Type 0 = λ v. FitsRole id v.role v.held v.finished in subst P t.1 (let a = t.0 in λ z. omega arith))
          (at_later views new other id (let a = within bench.views 0 view mine in let b = length-set bench.views 0 later in omega arith) e);
      emitted_first = sound.emitted_first;
      emitted_within = sound.emitted_within;
    }

pub split_allowed : (setting : Setting) (id : ℕ) (view : View) → id ≡ 0 → Splits (Sound setting) id view (with_seat_out view) (worker_view view.setting)
split_allowed setting id view first = subst (λ (i : ℕ). Splits (Sound setting) i view (with_seat_out view) (worker_view view.setting)) (sym first) (λ bench sound mine. split_moves setting bench sound view mine)

pub join_moves : (setting : Setting) (bench : Bench) (sound : Sound setting bench) (view : View) (other : ℕ) (joined : View) → HasView bench 0 view → (other ≡ 0 → ⊥) → get_elem? (set bench.views 0 (with_joined view joined)) other ≡ some joined → joined.role ≡ Worker → joined.held ≡ []
    → Sound setting (after_join bench view other joined)
join_moves setting bench sound view other joined mine apart there worker none_held =
    let owner = owner_role setting bench sound view mine in
    let later : View = with_joined view joined in let views : List View = set bench.views 0 later in
    let before : get_elem? bench.views other ≡ some joined = sym (set_else bench.views 0 other later apart) ∙ there in
    let out : 0 < sound.book.seats_out = let one = ap worker_count worker in let term = term_le counts_as_worker bench.views other joined before in let all = sound.workers in omega arith in
    let both : (f : View → ℕ) → total f (set views other spent_view) + f joined + f view ≡ total f bench.views + f later + f spent_view
    = λ f. omega (arith, total-set f bench.views 0 view later mine, total-set f views other joined spent_view there) in
    let walk : (F : View → Type 0) → F spent_view → F later → ((id : ℕ) (v : View) → get_elem? bench.views id ≡ some v → F v) → (id : ℕ) (v : View) → get_elem? (set views other spent_view) id ≡ some v → F v
    = λ F a b c id v e. ⊎_elim (λ (t : (id ≡ other) × (spent_view ≡ v)). subst F t.1 a)
    (λ (t : (id ≢ other) × (get_elem? views id ≡ some v)). ⊎_elim (λ (z : (id ≡ 0) × (later ≡ v)). subst F z.1 b) (λ (z : (id ≢ 0) × (get_elem? bench.views id ≡ some v)). c id v z.1) (at_set bench.views 0 id later v t.1))
    (at_set views other id spent_view v e) in record {
      book = record sound.book { seats_out = sound.book.seats_out - 1 };
      owner = (
        later,
        record {
          first = set_else views other 0 spent_view (λ e. apart (sym e)) ∙ set_here bench.views 0 later (within bench.views 0 view mine);
          role = owner;
          knows = ap (λ (b : Book). record b { seats_out = b.seats_out - 1 }) (owner_book setting bench sound view mine);
        },
      );
      slot_count = sound.slot_count;
      word_count = sound.word_count;
      shut_known = sound.shut_known;
      notes = let F : View → Type 0 = λ v. v.noted ≡ true → sound.book.shut ≡ true in walk F (λ noted. let clash : false ≡ true = noted in cc) (sound.notes 0 view mine) sound.notes;
      room = sound.room;
      numbered = sound.numbered;
      closed_count = sound.closed_count;
      emitted_count = sound.emitted_count;
      each_slot = sound.each_slot;
      held_once = λ q. omega (arith, both (holding q), sound.held_once q, ap (times_held q) none_held);
      finished_once = λ q. omega (arith, both (knows_finished q), sound.finished_once q, times-append q view.finished joined.finished);
      held_jobs = let F : View → Type 0 = λ v. HeldWithJobs sound.book.jobs v.held in walk F tt (sound.held_jobs 0 view mine) sound.held_jobs;
      workers = omega (arith, both counts_as_worker, sound.workers, ap worker_count worker);
      settings = let F : View → Type 0 = λ v. KnowsSetting setting v.role v.setting in walk F tt (sound.settings 0 view mine) sound.settings;
      roles = λ id v e. let F : ℕ × View → Type 0 = λ y. FitsRole y.0 y.1.role y.1.held y.1.finished in ⊎_elim
          (λ (t : (id ≡ other) × (spent_view ≡ v)). let P : View → Type 0 = λ y. FitsRole id y.role y.held y.finished in subst P t.1 (refl, refl))
          (λ (t : (id ≢ other) × (get_elem? views id ≡ some v)). ⊎_elim
          (λ (z : (id ≡ 0) × (later ≡ v)). subst F (λ k. (sym z.0 k, z.1 k)) (owner_fits view.held later.held view.finished later.finished view.role (sound.roles 0 view mine) owner))
          (λ (z : (id ≢ 0) × (get_elem? bench.views id ≡ some v)). sound.roles id v z.1) (at_set bench.views 0 id later v t.1)) (at_set views other id spent_view v e);
      emitted_first = sound.emitted_first;
      emitted_within = sound.emitted_within;
    }

pub join_allowed : (setting : Setting) (id : ℕ) (view : View) (other : ℕ) (joined : View) → id ≡ 0 → joined.role ≡ Worker → joined.held ≡ [] → Joins (Sound setting) id view other joined (with_joined view joined) spent_view
join_allowed setting id view other joined first worker none_held = subst (λ (i : ℕ). Joins (Sound setting) i view other joined (with_joined view joined) spent_view) (sym first)
    (λ bench sound mine apart there. join_moves setting bench sound view other joined mine apart there worker none_held)

-- the words after a load
loaded : (words : List ℕ) (word : ℕ) → set words word (get_or words word 0) ≡ words
loaded words word = set-get_or words word 0

-- a closed planner more
close_step : (setting : Setting) (bench : Bench) (sound : Sound setting bench) (view : View) (planner : ℕ) (words : List ℕ) → words ≡ bench.words → HasView bench 0 view
    → ViewStep setting bench sound 0 view (with_close view planner) words (set sound.book.closed planner true) sound.book.shut
close_step setting bench sound view planner words same mine = record {
  mine = mine;
  as_long = ap length same;
  same_words = λ slot. ap (λ (ws : List ℕ). word_of ws slot) same;
  shut_known = ap shut_word same ∙ sound.shut_known;
  stays_shut = λ e. e;
  notes = sound.notes 0 view mine;
  same_closed = length-set sound.book.closed planner true;
  book_mine = λ _. ap (λ (b : Book). record b { closed = set b.closed planner true }) (owner_book setting bench sound view mine);
  book_other = λ apart. absurd (apart refl);
  held = refl;
  finished = refl;
  known = refl;
  role = refl;
}

pub close_moves : (setting : Setting) (bench : Bench) (sound : Sound setting bench) (view : View) (planner : ℕ) → HasView bench 0 view → Sound setting (with_view bench 0 (with_close view planner))
close_moves setting bench sound view planner mine = view_moves setting bench sound 0 view (with_close view planner) bench.words (set sound.book.closed planner true) sound.book.shut (close_step setting bench sound view planner bench.words refl mine)

close_first : (setting : Setting) (n planner : ℕ) (seat : Sitting) → Allows (Sound setting) n 0 seat 0 (λ x. x) (close_tells planner (step n 0 0 0 none) seat)
close_first setting n planner seat bench sound wide mine _ = let words : List ℕ = set bench.words 0 (get_or bench.words 0 0) in (
  with_close seat.0 planner,
  keeps,
  tt,
  view_moves setting bench sound 0 seat.0 (with_close seat.0 planner) words (set sound.book.closed planner true) sound.book.shut (close_step setting bench sound seat.0 planner words (loaded bench.words 0) mine),
  refl,
)

pub close_allowed : (setting : Setting) (n id planner : ℕ) (seat : Sitting) → id ≡ 0 → Allows (Sound setting) n id seat 0 (λ x. x) (close_tells planner (step n 0 0 0 none) seat)
close_allowed setting n id planner seat first = subst (λ (i : ℕ). Allows (Sound setting) n i seat 0 (λ x. x) (close_tells planner (step n 0 0 0 none) seat)) (sym first) (close_first setting n planner seat)

-- another first word
set_first : (words : List ℕ) (word slot : ℕ) → word_of (set words 0 word) slot ≡ word_of words slot
set_first [] word slot = refl
set_first (x ∷ xs) word slot = get_or-set_other (x ∷ xs) 0 (slot + 1) word 0 (λ e. omega arith)

pub shut_moves : (setting : Setting) (bench : Bench) (sound : Sound setting bench) (view : View) → HasView bench 0 view → Sound setting (after_shut bench view)
shut_moves setting bench sound view mine = view_moves setting bench sound 0 view (with_shut view) (set bench.words 0 1) sound.book.closed true record {
  mine = mine;
  as_long = length-set bench.words 0 1;
  same_words = λ slot. set_first bench.words 1 slot;
  shut_known = get_or-set_same bench.words 0 1 0 (let a = sound.word_count in omega arith);
  stays_shut = λ e. refl;
  notes = λ e. refl;
  same_closed = refl;
  book_mine = λ _. ap (λ (b : Book). record b { shut = true }) (owner_book setting bench sound view mine);
  book_other = λ apart. absurd (apart refl);
  held = refl;
  finished = refl;
  known = refl;
  role = refl;
}

pub shut_allowed : (setting : Setting) (n id : ℕ) (seat : Sitting) → id ≡ 0 → Allows (Sound setting) n id seat 0 (λ _. 1) (λ _. shut_tells (step n 0 1 0 none) seat 1)
shut_allowed setting n id seat first = subst (λ (i : ℕ). Allows (Sound setting) n i seat 0 (λ _. 1) (λ _. shut_tells (step n 0 1 0 none) seat 1)) (sym first)
    (λ bench sound wide mine _. (with_shut seat.0, keeps, tt, shut_moves setting bench sound seat.0 mine, refl))

shut_from_word : (shut : Bool) → one_if shut ≡ 1 → shut ≡ true
shut_from_word true e = refl
shut_from_word false e = absurd (omega arith)

note_step : (setting : Setting) (bench : Bench) (sound : Sound setting bench) (id : ℕ) (view : View) (words : List ℕ) → words ≡ bench.words → HasView bench id view → shut_word bench.words ≡ 1
    → ViewStep setting bench sound id view (with_note view) words sound.book.closed sound.book.shut
note_step setting bench sound id view words same mine shut = record {
  mine = mine;
  as_long = ap length same;
  same_words = λ slot. ap (λ (ws : List ℕ). word_of ws slot) same;
  shut_known = ap shut_word same ∙ sound.shut_known;
  stays_shut = λ e. e;
  notes = λ _. shut_from_word sound.book.shut (sym sound.shut_known ∙ shut);
  same_closed = refl;
  book_mine = λ e. owner_book setting bench sound view (subst (λ (i : ℕ). get_elem? bench.views i ≡ some view) e mine);
  book_other = λ _. refl;
  held = refl;
  finished = refl;
  known = refl;
  role = refl;
}

pub note_moves : (setting : Setting) (bench : Bench) (sound : Sound setting bench) (id : ℕ) (view : View) → HasView bench id view → shut_word bench.words ≡ 1 → Sound setting (with_view bench id (with_note view))
note_moves setting bench sound id view mine shut = view_moves setting bench sound id view (with_note view) bench.words sound.book.closed sound.book.shut (note_step setting bench sound id view bench.words refl mine shut)

pub look_at_shut_allowed : (setting : Setting) (n id : ℕ) (seat : Sitting) → Allows (Sound setting) n id seat 0 (λ x. x) (look_at_shut_tells (step n 0 0 0 none) seat)
look_at_shut_allowed setting n id seat bench sound wide mine _ = let words : List ℕ = set bench.words 0 (get_or bench.words 0 0) in
    let found : seat.0.noted ≡ true → shut_word bench.words ≡ 1 = λ noted. sound.shut_known ∙ ap one_if (sound.notes id seat.0 mine noted) in dite (ℕ_discrete (shut_word bench.words) 1)
    (λ hit. (
      with_note seat.0,
      keeps,
      tt,
      view_moves setting bench sound id seat.0 (with_note seat.0) words sound.book.closed sound.book.shut (note_step setting bench sound id seat.0 words (loaded bench.words 0) mine hit),
      ((λ _. refl), (λ miss. absurd (miss hit)), found),
    ))
    (λ miss. (seat.0, keeps, tt, looks setting bench sound id 0 seat.0 seat.0 mine refl refl refl refl refl refl, ((λ hit. absurd (miss hit)), (λ _. refl), found)))

zeros : (n i : ℕ) → let nil : ℕ = 0 in get_or (replicate n nil) i nil ≡ nil
zeros zero i = refl
zeros (suc n) zero = refl
zeros (suc n) (suc i) = zeros n i

only_one : (view other : View) (id : ℕ) → get_elem? (view ∷ []) id ≡ some other → (id ≡ 0) × (view ≡ other)
only_one view other zero e = (refl, some-injective view other e)
only_one view other (suc id) e = absurd (some-ne-none other (sym e))

-- a table with every word 0 and something in every slot keeps the rule
pub starts : (setting : Setting) (words : List ℕ) → words ≡ replicate (setting.slots + 1) 0 → Sound setting (opening words (replicate setting.slots Nothing) (first_view setting))
starts setting words is = let n : ℕ = setting.slots in let view : View = first_view setting in let unused : (slot : ℕ) → word_of words slot ≡ 0 = λ slot. ap (λ (ws : List ℕ). word_of ws slot) is ∙ zeros (n + 1) (slot + 1) in
    let as_many : length (map some (replicate n Nothing)) ≡ n = length-map (replicate n Nothing) some ∙ length-replicate n Nothing in record {
      book = record { jobs = []; closed = replicate setting.planners false; emitted = replicate setting.planners 0; seats_out = 0; lifted = false; shut = false };
      owner = (view, record { first = refl; role = refl; knows = refl });
      slot_count = as_many;
      word_count = ap length is ∙ (length-replicate (n + 1) 0 ∙ ap (λ (m : ℕ). m + 1) (sym as_many));
      shut_known = ap shut_word is ∙ zeros (n + 1) 0;
      notes = λ id other e noted. let clash : false ≡ true = ap (λ (v : View). v.noted) (only_one view other id e).1 ∙ noted in cc;
      room = omega arith;
      numbered = λ slot job e. cc;
      closed_count = length-replicate setting.planners false;
      emitted_count = length-replicate setting.planners 0;
      each_slot = λ slot lt. let e = unused slot in let there = some_there (replicate n Nothing) slot (subst (λ (m : ℕ). slot < m) (length-map (replicate n Nothing) some) lt) in record {
        known = omega arith;
        used = λ h. absurd (omega arith);
        unused = λ h. omega arith;
        empty = λ h free. there;
        waiting = λ h. absurd (omega arith);
        out = λ h. absurd (omega arith);
        finished = λ h. absurd (omega arith);
      };
      held_once = λ slot. sym (ap out_in (unused slot));
      finished_once = λ slot. sym (ap finished_in (unused slot));
      held_jobs = λ id other e. let F : View → Type 0 = λ v. HeldWithJobs [] v.held in subst F (only_one view other id e).1 tt;
      workers = refl;
      settings = λ id other e. let F : View → Type 0 = λ v. KnowsSetting setting v.role v.setting in subst F (only_one view other id e).1 refl;
      roles = λ id other e. let F : ℕ × View → Type 0 = λ y. FitsRole y.0 y.1.role y.1.held y.1.finished in subst F (λ k. (sym (only_one view other id e).0 k, (only_one view other id e).1 k)) refl;
      emitted_first = λ slot job e. cc;
      emitted_within = λ planner. let z = zeros setting.planners planner in omega arith;
    }

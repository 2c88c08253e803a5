-- What stays of the rule where one view changes, and at most one slot.

use Rattle.std.proofs.Common.{◌≡◌, ◌≢◌, ◌↔◌, ◌<◌, ◌≤◌, ℕ, ◌+◌, Bool, true, List, [], ◌∷◌, slice_get, Option, Some, length, get_or, set, sym, refl, ap, ◌∙◌, subst, ⊎_elim, arith, length-set, get_or-set_other, get_or-set_same}
use Rattle.std.proofs.lemmas.List.{set-get_or}
use mathlib.Core.Logic.{dite}
use native.Mathlib.Decide.{ℕ_discrete, dec_le}
use mathlib.Core.Option.{some, some-injective}
use mathlib.Core.Option as maybe
use lib.ListN.{get_elem?}
use Rattle.atomic_table.proofs.Lists.{at_set, set_here, set_else}
use Rattle.strips_task.specs.declared.costs.CostedTask.{CostedTask}
use Rattle.intake_rules.specs.Jobs.{AcceptedPlan}
use Rattle.bench_rule.specs.declared.views.Held.{Held}
use Rattle.bench_rule.specs.declared.views.Role.{Role}
use Rattle.bench_rule.specs.declared.views.Role.TheVariants.{Owner, Worker, Spent}
use Rattle.bench_rule.specs.declared.views.Setting.{Setting}
use Rattle.bench_rule.specs.declared.views.View.{View}
use Rattle.bench_rule.specs.Views.{Content, Bench, one_if, total, holding, knows_finished, counts_as_worker, worker_count, times, times_held, rank}
use Rattle.bench_rule.specs.Sound.{Home, Sound, SlotOk, HeldWithJobs, KnowsSetting, FitsRole, Book, book_of, HasView, OwnerIs, word_of, shut_word, out_in, finished_in}
use Rattle.bench_rule.proofs.Sums.{total-set, within}

-- the jobs of the one list are in the other at the same indices
abbrev pub Longer : List AcceptedPlan → List AcceptedPlan → Type 0
Longer jobs jobs' = (slot : ℕ) (job : AcceptedPlan) → slice_get jobs slot ≡ Some job → slice_get jobs' slot ≡ Some job

pub held_stays : (jobs jobs' : List AcceptedPlan) → Longer jobs jobs' → (all : List Held) → HeldWithJobs jobs all → HeldWithJobs jobs' all
held_stays jobs jobs' more [] known = tt
held_stays jobs jobs' more (held ∷ others) known = (more held.slot held.job known.0, held_stays jobs jobs' more others known.1)

slot_stays : (task : CostedTask) (jobs jobs' : List AcceptedPlan) (lifted lifted' : Bool) (home home' : Home) (slot word word' : ℕ) → Longer jobs jobs' → length jobs ≤ length jobs' → (slot < length jobs' → slot < length jobs)
    → ((lifted' ≡ true → slot ≢ length jobs') → lifted ≡ true → slot ≢ length jobs) → home' ≡ home → word' ≡ word → SlotOk task jobs lifted home slot word → SlotOk task jobs' lifted' home' slot word'
slot_stays task jobs jobs' lifted lifted' home home' slot word word' more longer inside lifts same_home same_word ok = record {
  known = subst (λ (n : ℕ). n ≤ 4) (sym same_word) ok.known;
  used = λ h. let u = ok.used (subst (λ (n : ℕ). 0 < n) same_word h) in omega arith;
  unused = λ h. let u = ok.unused (sym same_word ∙ h) in dite (dec_le (length jobs') slot) (λ past. past) (λ before. let i = inside (omega arith) in absurd (omega arith));
  empty = λ h free. let (content, rests) = ok.empty (sym same_word ∙ h) (lifts free) in (content, same_home ∙ rests);
  waiting = λ h. let (job, there, rests) = ok.waiting (sym same_word ∙ h) in (job, more slot job there, same_home ∙ rests);
  out = λ h. same_home ∙ ok.out (sym same_word ∙ h);
  finished = λ h. let (finding, there, rests, right) = ok.finished (sym same_word ∙ h) in (finding, more slot finding.job there, same_home ∙ rests, right);
}

-- the words after a change of one slot's
pub word_here : (words : List ℕ) (slot word : ℕ) → slot + 1 < length words → word_of (set words (slot + 1) word) slot ≡ word
word_here words slot word h = get_or-set_same words (slot + 1) word 0 h

pub word_else : (words : List ℕ) (slot word other : ℕ) → other ≢ slot → word_of (set words (slot + 1) word) other ≡ word_of words other
word_else words slot word other apart = get_or-set_other words (slot + 1) (other + 1) word 0 (λ e. apart (omega arith))

pub shut_else : (words : List ℕ) (slot word : ℕ) → shut_word (set words (slot + 1) word) ≡ shut_word words
shut_else words slot word = get_or-set_other words (slot + 1) 0 word 0 (λ e. omega arith)

pub owner_book : (setting : Setting) (bench : Bench) (sound : Sound setting bench) (view : View) → HasView bench 0 view → book_of view ≡ sound.book
owner_book setting bench sound view at = let (owner, is) = sound.owner in ap book_of (some-injective view owner (sym at ∙ is.first)) ∙ is.knows

pub owner_role : (setting : Setting) (bench : Bench) (sound : Sound setting bench) (view : View) → HasView bench 0 view → view.role ≡ Owner
owner_role setting bench sound view at = let (owner, is) = sound.owner in ap (λ (v : View). v.role) (some-injective view owner (sym at ∙ is.first)) ∙ is.role

pub role_lives : (role : Role) → role ≡ Owner → role ≢ Spent
role_lives role e f = let clash : Owner ≡ Spent = sym e ∙ f in cc

pub worker_lives : (role : Role) → role ≡ Worker → role ≢ Spent
worker_lives role e f = let clash : Worker ≡ Spent = sym e ∙ f in cc

pub owner_lives : (setting : Setting) (bench : Bench) (sound : Sound setting bench) (view : View) → HasView bench 0 view → view.role ≢ Spent
owner_lives setting bench sound view at = role_lives view.role (owner_role setting bench sound view at)

-- a view that holds a slot is not spent
pub holder_lives : (setting : Setting) (bench : Bench) (sound : Sound setting bench) (id slot : ℕ) (view : View) → HasView bench id view → 0 < times_held slot view.held → view.role ≢ Spent
holder_lives setting bench sound id slot view at h e = let fits = subst (λ (role : Role). FitsRole id role view.held view.finished) e (sound.roles id view at) in let zero_times = ap (times_held slot) fits.0 in omega arith

role_moves : (id : ℕ) (role : Role) (held held' : List Held) (finished finished' : List ℕ) → role ≢ Spent → FitsRole id role held finished → FitsRole id role held' finished'
role_moves id Owner held held' finished finished' lives fits = fits
role_moves id Worker held held' finished finished' lives fits = fits
role_moves id Spent held held' finished finished' lives fits = absurd (lives refl)

same_setting : (setting : Setting) (view later : View) → later.role ≡ view.role → later.setting ≡ view.setting → KnowsSetting setting view.role view.setting → KnowsSetting setting later.role later.setting
same_setting setting view later role known knows = subst (λ (x : Role × Option Setting). KnowsSetting setting x.0 x.1) (λ i. (sym role i, sym known i)) knows

-- the owner after a change of one view: the changed one, if it is the first, else the one before
owner_stays : (setting : Setting) (bench : Bench) (sound : Sound setting bench) (id : ℕ) (view later : View) (words : List ℕ) (homes : List (maybe.Option Content)) (book : Book) → HasView bench id view → later.role ≡ view.role
    → (id ≡ 0 → book_of later ≡ book) → (id ≢ 0 → book ≡ sound.book) → (owner : View) × OwnerIs (record { words = words; homes = homes; views = set bench.views id later }) owner book
owner_stays setting bench sound id view later words homes book at role mine other = let (owner, is) = sound.owner in dite (ℕ_discrete 0 id)
    (λ e. (
      later,
      record {
        first = subst (λ (i : ℕ). get_elem? (set bench.views i later) 0 ≡ some later) e (set_here bench.views 0 later (within bench.views 0 owner is.first));
        role = role ∙ owner_role setting bench sound view (subst (λ (i : ℕ). get_elem? bench.views i ≡ some view) (sym e) at);
        knows = mine (sym e);
      },
    ))
    (λ apart. (
      owner,
      record {
        first = set_else bench.views id 0 later apart ∙ is.first;
        role = is.role;
        knows = is.knows ∙ sym (other (λ e. apart (sym e)));
      },
    ))

-- what a step owes that changes one slot and one view
pub record SlotStep (setting : Setting) (bench : Bench) (sound : Sound setting bench) (id slot word : ℕ) (view later : View) (homes : List (maybe.Option Content)) (book : Book) : Type 0 where
  pub mine : HasView bench id view
  pub inside : slot < length bench.homes
  pub as_long : length homes ≡ length bench.homes
  pub elsewhere : (other : ℕ) → other ≢ slot → get_elem? homes other ≡ get_elem? bench.homes other
  pub book_mine : id ≡ 0 → book_of later ≡ book
  pub book_other : id ≢ 0 → book ≡ sound.book
  pub same_shut : book.shut ≡ sound.book.shut
  pub same_noted : later.noted ≡ view.noted
  pub same_closed : length book.closed ≡ length sound.book.closed
  pub same_emitted : length book.emitted ≡ length sound.book.emitted
  pub more : Longer sound.book.jobs book.jobs
  pub longer : length sound.book.jobs ≤ length book.jobs
  pub room : length book.jobs ≤ length bench.homes
  pub numbered : (other : ℕ) (job : AcceptedPlan) → slice_get book.jobs other ≡ Some job → job.number ≡ other
  pub used_before : (other : ℕ) → other ≢ slot → other < length book.jobs → other < length sound.book.jobs
  pub lifted_before : (other : ℕ) → other ≢ slot → (book.lifted ≡ true → other ≢ length book.jobs) → sound.book.lifted ≡ true → other ≢ length sound.book.jobs
  pub here : SlotOk setting.task.value book.jobs book.lifted (get_elem? homes slot) slot word
  pub held : times_held slot later.held + out_in (word_of bench.words slot) ≡ times_held slot view.held + out_in word
  pub held_else : (other : ℕ) → other ≢ slot → times_held other later.held ≡ times_held other view.held
  pub finished : times slot later.finished + finished_in (word_of bench.words slot) ≡ times slot view.finished + finished_in word
  pub finished_else : (other : ℕ) → other ≢ slot → times other later.finished ≡ times other view.finished
  pub held_jobs : HeldWithJobs book.jobs later.held
  pub workers : counts_as_worker later + sound.book.seats_out ≡ counts_as_worker view + book.seats_out
  pub known : later.setting ≡ view.setting
  pub role : later.role ≡ view.role
  pub lives : later.role ≢ Spent
  pub emitted_first : (other : ℕ) (job : AcceptedPlan) → slice_get book.jobs other ≡ Some job → (word_of (set bench.words (slot + 1) word) other ≡ 4) ↔ (rank book.jobs job.planner other < get_or book.emitted job.planner 0)
  pub emitted_within : (planner : ℕ) → get_or book.emitted planner 0 ≤ rank book.jobs planner (length book.jobs)

pub slot_moves : (setting : Setting) (bench : Bench) (sound : Sound setting bench) (id slot word : ℕ) (view later : View) (homes : List (maybe.Option Content)) (book : Book) → SlotStep setting bench sound id slot word view later homes book
    → Sound setting record { words = set bench.words (slot + 1) word; homes = homes; views = set bench.views id later }
slot_moves setting bench sound id slot word view later homes book step = let here = word_here bench.words slot word (let a = step.inside in let b = sound.word_count in omega arith) in record {
  book = book;
  owner = owner_stays setting bench sound id view later (set bench.words (slot + 1) word) homes book step.mine step.role step.book_mine step.book_other;
  slot_count = step.as_long ∙ sound.slot_count;
  word_count = length-set bench.words (slot + 1) word ∙ (sound.word_count ∙ ap (λ (n : ℕ). n + 1) (sym step.as_long));
  shut_known = shut_else bench.words slot word ∙ (sound.shut_known ∙ ap one_if (sym step.same_shut));
  notes = λ i other e noted. ⊎_elim
      (λ (z : (i ≡ id) × (later ≡ other)). step.same_shut ∙ sound.notes id view step.mine (sym step.same_noted ∙ (ap (λ (v : View). v.noted) z.1 ∙ noted)))
      (λ (z : (i ≢ id) × (get_elem? bench.views i ≡ some other)). step.same_shut ∙ sound.notes i other z.1 noted) (at_set bench.views id i later other e);
  room = subst (λ (n : ℕ). length book.jobs ≤ n) (sym step.as_long) step.room;
  numbered = step.numbered;
  closed_count = step.same_closed ∙ sound.closed_count;
  emitted_count = step.same_emitted ∙ sound.emitted_count;
  each_slot = λ q lt. dite (ℕ_discrete q slot)
      (λ e. let P : ℕ → Type 0 = λ r. SlotOk setting.task.value book.jobs book.lifted (get_elem? homes r) r (word_of (set bench.words (slot + 1) word) r) in
      let Q : ℕ → Type 0 = λ n. SlotOk setting.task.value book.jobs book.lifted (get_elem? homes slot) slot n in subst P (sym e) (subst Q (sym here) step.here))
      (λ apart. slot_stays setting.task.value sound.book.jobs book.jobs sound.book.lifted book.lifted (get_elem? bench.homes q) (get_elem? homes q) q (word_of bench.words q) (word_of (set bench.words (slot + 1) word) q)
      step.more step.longer (step.used_before q apart) (step.lifted_before q apart) (step.elsewhere q apart) (word_else bench.words slot word q apart) (sound.each_slot q (subst (λ (n : ℕ). q < n) step.as_long lt)));
  held_once = λ q. let a = total-set (holding q) bench.views id view later step.mine in let b = sound.held_once q in dite (ℕ_discrete q slot)
      (λ e. let P : ℕ → Type 0 = λ r. total (holding r) (set bench.views id later) ≡ out_in (word_of (set bench.words (slot + 1) word) r) in subst P (sym e)
      (omega (arith, total-set (holding slot) bench.views id view later step.mine, sound.held_once slot, step.held, ap out_in here)))
      (λ apart. omega (arith, step.held_else q apart, ap out_in (word_else bench.words slot word q apart)));
  finished_once = λ q. let a = total-set (knows_finished q) bench.views id view later step.mine in let b = sound.finished_once q in dite (ℕ_discrete q slot)
      (λ e. let P : ℕ → Type 0 = λ r. total (knows_finished r) (set bench.views id later) ≡ finished_in (word_of (set bench.words (slot + 1) word) r) in subst P (sym e)
      (omega (arith, total-set (knows_finished slot) bench.views id view later step.mine, sound.finished_once slot, step.finished, ap finished_in here)))
      (λ apart. omega (arith, step.finished_else q apart, ap finished_in (word_else bench.words slot word q apart)));
  held_jobs = λ i other e. ⊎_elim (λ (z : (i ≡ id) × (later ≡ other)). subst (λ (v : View). HeldWithJobs book.jobs v.held) z.1 step.held_jobs)
      (λ (z : (i ≢ id) × (get_elem? bench.views i ≡ some other)). held_stays sound.book.jobs book.jobs step.more other.held (sound.held_jobs i other z.1)) (at_set bench.views id i later other e);
  workers = omega (arith, total-set counts_as_worker bench.views id view later step.mine, sound.workers, step.workers);
  settings = λ i other e. ⊎_elim (λ (z : (i ≡ id) × (later ≡ other)). subst (λ (v : View). KnowsSetting setting v.role v.setting) z.1 (same_setting setting view later step.role step.known (sound.settings id view step.mine)))
      (λ (z : (i ≢ id) × (get_elem? bench.views i ≡ some other)). sound.settings i other z.1) (at_set bench.views id i later other e);
  roles = λ i other e. ⊎_elim (λ (z : (i ≡ id) × (later ≡ other)). let F : ℕ × View → Type 0 = λ y. FitsRole y.0 y.1.role y.1.held y.1.finished in
      subst F (λ j. (sym z.0 j, z.1 j)) (role_moves id later.role view.held later.held view.finished later.finished step.lives (subst (λ (role : Role). FitsRole id role view.held view.finished) (sym step.role) (sound.roles id view step.mine))))
      (λ (z : (i ≢ id) × (get_elem? bench.views i ≡ some other)). sound.roles i other z.1) (at_set bench.views id i later other e);
  emitted_first = step.emitted_first;
  emitted_within = step.emitted_within;
}

-- what a step owes that changes no slot, but one view, and perhaps which planners are closed and whether the bench is shut
pub record ViewStep (setting : Setting) (bench : Bench) (sound : Sound setting bench) (id : ℕ) (view later : View) (words : List ℕ) (closed : List Bool) (shut : Bool) : Type 0 where
  pub mine : HasView bench id view
  pub as_long : length words ≡ length bench.words
  pub same_words : (slot : ℕ) → word_of words slot ≡ word_of bench.words slot
  pub shut_known : shut_word words ≡ one_if shut
  pub stays_shut : sound.book.shut ≡ true → shut ≡ true
  pub notes : later.noted ≡ true → shut ≡ true
  pub same_closed : length closed ≡ length sound.book.closed
  pub book_mine : id ≡ 0 → book_of later ≡ record sound.book { closed = closed; shut = shut }
  pub book_other : id ≢ 0 → record sound.book { closed = closed; shut = shut } ≡ sound.book
  pub held : later.held ≡ view.held
  pub finished : later.finished ≡ view.finished
  pub known : later.setting ≡ view.setting
  pub role : later.role ≡ view.role

pub view_moves : (setting : Setting) (bench : Bench) (sound : Sound setting bench) (id : ℕ) (view later : View) (words : List ℕ) (closed : List Bool) (shut : Bool) → ViewStep setting bench sound id view later words closed shut
    → Sound setting record { words = words; homes = bench.homes; views = set bench.views id later }
view_moves setting bench sound id view later words closed shut step = record {
  book = record sound.book { closed = closed; shut = shut };
  owner = owner_stays setting bench sound id view later words bench.homes (record sound.book { closed = closed; shut = shut }) step.mine step.role step.book_mine step.book_other;
  slot_count = sound.slot_count;
  word_count = step.as_long ∙ sound.word_count;
  shut_known = step.shut_known;
  notes = λ i other e noted. ⊎_elim
      (λ (z : (i ≡ id) × (later ≡ other)). step.notes (ap (λ (v : View). v.noted) z.1 ∙ noted))
      (λ (z : (i ≢ id) × (get_elem? bench.views i ≡ some other)). step.stays_shut (sound.notes i other z.1 noted)) (at_set bench.views id i later other e);
  room = sound.room;
  numbered = sound.numbered;
  closed_count = step.same_closed ∙ sound.closed_count;
  emitted_count = sound.emitted_count;
  each_slot = λ q lt. subst (λ (n : ℕ). SlotOk setting.task.value sound.book.jobs sound.book.lifted (get_elem? bench.homes q) q n) (sym (step.same_words q)) (sound.each_slot q lt);
  held_once = λ q. omega (arith, total-set (holding q) bench.views id view later step.mine, sound.held_once q, ap (times_held q) step.held, ap out_in (step.same_words q));
  finished_once = λ q. omega (arith, total-set (knows_finished q) bench.views id view later step.mine, sound.finished_once q, ap (times q) step.finished, ap finished_in (step.same_words q));
  held_jobs = λ i other e. ⊎_elim (λ (z : (i ≡ id) × (later ≡ other)). subst (λ (v : View). HeldWithJobs sound.book.jobs v.held) z.1 (subst (HeldWithJobs sound.book.jobs) (sym step.held) (sound.held_jobs id view step.mine)))
      (λ (z : (i ≢ id) × (get_elem? bench.views i ≡ some other)). sound.held_jobs i other z.1) (at_set bench.views id i later other e);
  workers = omega (arith, total-set counts_as_worker bench.views id view later step.mine, sound.workers, ap worker_count step.role);
  settings = λ i other e. ⊎_elim (λ (z : (i ≡ id) × (later ≡ other)). subst (λ (v : View). KnowsSetting setting v.role v.setting) z.1 (same_setting setting view later step.role step.known (sound.settings id view step.mine)))
      (λ (z : (i ≢ id) × (get_elem? bench.views i ≡ some other)). sound.settings i other z.1) (at_set bench.views id i later other e);
  roles = λ i other e. ⊎_elim (λ (z : (i ≡ id) × (later ≡ other)). let F : ℕ × View → Type 0 = λ y. FitsRole y.0 y.1.role y.1.held y.1.finished in
      let G : Role × List Held × List ℕ → Type 0 = λ y. FitsRole id y.0 y.1 y.2 in subst F (λ k. (sym z.0 k, z.1 k)) (subst G (λ k. (sym step.role k, sym step.held k, sym step.finished k)) (sound.roles id view step.mine)))
      (λ (z : (i ≢ id) × (get_elem? bench.views i ≡ some other)). sound.roles i other z.1) (at_set bench.views id i later other e);
  emitted_first = λ q job at. let first = sound.emitted_first q job at in let same = step.same_words q in ((λ four. first.0 (sym same ∙ four)), (λ less. same ∙ first.1 less));
  emitted_within = sound.emitted_within;
}

-- a load that changes nothing of the view that the rule reads
pub looks : (setting : Setting) (bench : Bench) (sound : Sound setting bench) (id word : ℕ) (view later : View) → HasView bench id view → later.held ≡ view.held → later.finished ≡ view.finished → later.setting ≡ view.setting → later.role ≡ view.role
    → later.noted ≡ view.noted → book_of later ≡ book_of view → Sound setting record { words = set bench.words word (get_or bench.words word 0); homes = bench.homes; views = set bench.views id later }
looks setting bench sound id word view later at held finished known role noted book = let same : set bench.words word (get_or bench.words word 0) ≡ bench.words = set-get_or bench.words word 0 in
    view_moves setting bench sound id view later (set bench.words word (get_or bench.words word 0)) sound.book.closed sound.book.shut record {
      mine = at;
      as_long = ap length same;
      same_words = λ slot. ap (λ (words : List ℕ). word_of words slot) same;
      shut_known = ap shut_word same ∙ sound.shut_known;
      stays_shut = λ e. e;
      notes = λ e. sound.notes id view at (sym noted ∙ e);
      same_closed = refl;
      book_mine = λ e. book ∙ owner_book setting bench sound view (subst (λ (i : ℕ). get_elem? bench.views i ≡ some view) e at);
      book_other = λ _. refl;
      held = held;
      finished = finished;
      known = known;
      role = role;
    }

-- a step that emits nothing
pub emits_nothing : (setting : Setting) (bench : Bench) (sound : Sound setting bench) (slot was word : ℕ) → slot < length bench.homes → word_of bench.words slot ≡ was → was ≢ 4 → word ≢ 4
    → (other : ℕ) (job : AcceptedPlan) → slice_get sound.book.jobs other ≡ Some job → (word_of (set bench.words (slot + 1) word) other ≡ 4) ↔ (rank sound.book.jobs job.planner other < get_or sound.book.emitted job.planner 0)
emits_nothing setting bench sound slot was word inside e before later other job at = let first = sound.emitted_first other job at in dite (ℕ_discrete other slot)
    (λ same. let here = word_here bench.words slot word (let a = sound.word_count in omega arith) in
    let now : word_of (set bench.words (slot + 1) word) other ≡ word = ap (word_of (set bench.words (slot + 1) word)) same ∙ here in let earlier : word_of bench.words other ≡ was = ap (word_of bench.words) same ∙ e in
    ((λ four. absurd (later (sym now ∙ four))), (λ less. absurd (before (sym earlier ∙ first.1 less)))))
    (λ apart. let here = word_else bench.words slot word other apart in ((λ four. first.0 (sym here ∙ four)), (λ less. here ∙ first.1 less)))

-- The owner emits the next finding of a planner.

use Rattle.std.proofs.Common.{[], ◌++◌, ◌≡◌, ◌≢◌, ◌<◌, ℕ, suc, ◌+◌, List, ◌∷◌, slice_get, Some, length, get_or, set, sym, refl, ap, ◌∙◌, subst, arith, eqb, eq-eqb, ne_eqb, length-set, get_or-set_same, get_or-set_other, append_assoc}
use mathlib.Core.Logic.{dite}
use native.Mathlib.Decide.{ℕ_discrete}
use prog.Atomic.{either}
use mathlib.Core.Option.{none}
use Rattle.std.proofs.lemmas.Option.{slice_get_within}
use Rattle.atomic_table.specs.Table.{step, keeps, takes, rest, turned, Allows}
use Rattle.atomic_table.proofs.Lists.{set_else}
use Rattle.intake_rules.specs.declared.finding.Finding.{Finding}
use Rattle.intake_rules.specs.Findings.{IsRight}
use Rattle.intake_rules.specs.Jobs.{AcceptedPlan}
use Rattle.bench_rule.specs.declared.contents.Item.TheVariants.{Nothing, Done}
use Rattle.bench_rule.specs.declared.views.Role.{Role}
use Rattle.bench_rule.specs.declared.views.Role.TheVariants.{Owner}
use Rattle.bench_rule.specs.declared.views.Setting.{Setting}
use Rattle.bench_rule.specs.declared.views.View.{View}
use Rattle.bench_rule.specs.After.{after_emit}
use Rattle.bench_rule.specs.Plays.{Missed, emit_tells, Emitted, IsRightFor}
use Rattle.bench_rule.specs.Sound.{Sound, HasView, KnowsSetting, Book, word_of, out_in, finished_in}
use Rattle.bench_rule.specs.Views.{Content, Carried, CarriesHeld, Bench, Sitting, IsNext, slots_of, knows_finished, rank, times, with_emission, with_miss}
use Rattle.bench_rule.proofs.Alone.{alone}
use Rattle.bench_rule.proofs.Carried.{front_content}
use Rattle.bench_rule.proofs.Counts.{finished_four, one_at}
use Rattle.bench_rule.proofs.Frames.{slot_moves, looks, owner_book, owner_role, owner_lives, word_here, word_else}
use Rattle.bench_rule.proofs.Ranks.{rank_below, rank_once}
use Rattle.bench_rule.proofs.Sums.{term_le}
use Rattle.bench_rule.proofs.Takes.{same_slot}

module _ (setting : Setting) (bench : Bench) (sound : Sound setting bench) (view : View) (mine : HasView bench 0 view) (slot : ℕ) (job : AcceptedPlan) where
  next_in_book : IsNext view slot job → IsNext (record view { jobs = sound.book.jobs; emitted = sound.book.emitted }) slot job
  next_in_book next = let e = owner_book setting bench sound view mine in subst (λ (b : Book). IsNext (record view { jobs = b.jobs; emitted = b.emitted }) slot job) e
      (record { job_of_slot = next.job_of_slot; next = next.next; planner_within = next.planner_within })

  pub emit_moves : IsNext view slot job → word_of bench.words slot ≡ 3 → Sound setting (after_emit bench slot view job)
  emit_moves is_next was = let next = next_in_book is_next in let planner : ℕ = job.planner in let count : ℕ = get_or sound.book.emitted planner 0 in
      let inside : slot < length bench.homes = let a = slice_get_within sound.book.jobs slot job next.job_of_slot in let b = sound.room in omega arith in
      let emitted : List ℕ = set sound.book.emitted planner (suc count) in
      let here : get_or emitted planner 0 ≡ suc count = get_or-set_same sound.book.emitted planner (suc count) 0 next.planner_within in
      let near = rank_below sound.book.jobs slot planner job next.job_of_slot refl in
      slot_moves setting bench sound 0 slot 4 view (with_emission view planner) (set bench.homes slot none) (record sound.book { emitted = emitted }) record {
        mine = mine;
        inside = inside;
        as_long = length-set bench.homes slot none;
        elsewhere = λ other apart. set_else bench.homes slot other none apart;
        book_mine = λ _. ap (λ (b : Book). record b { emitted = set b.emitted planner (suc (get_or b.emitted planner 0)) }) (owner_book setting bench sound view mine);
        book_other = λ apart. absurd (apart refl);
        same_shut = refl;
        same_noted = refl;
        same_closed = refl;
        same_emitted = length-set sound.book.emitted planner (suc count);
        more = λ other x h. h;
        longer = omega arith;
        room = sound.room;
        numbered = sound.numbered;
        used_before = λ other apart h. h;
        lifted_before = λ other apart h. h;
        here = record {
          known = omega arith;
          used = λ h. slice_get_within sound.book.jobs slot job next.job_of_slot;
          unused = λ h. absurd (omega arith);
          empty = λ h. absurd (omega arith);
          waiting = λ h. absurd (omega arith);
          out = λ h. absurd (omega arith);
          finished = λ h. absurd (omega arith);
        };
        held = omega (arith, ap out_in was);
        held_else = λ other apart. refl;
        finished = omega (arith, ap finished_in was);
        finished_else = λ other apart. refl;
        held_jobs = sound.held_jobs 0 view mine;
        workers = omega arith;
        known = refl;
        role = refl;
        lives = owner_lives setting bench sound view mine;
        emitted_first = λ q x there. dite (ℕ_discrete q slot)
            (λ same. let h = word_here bench.words slot 4 (let a = sound.word_count in omega arith) in let now : word_of (set bench.words (slot + 1) 4) q ≡ 4 = ap (word_of (set bench.words (slot + 1) 4)) same ∙ h in
            let there' : Some x ≡ Some job = sym there ∙ (ap (slice_get sound.book.jobs) same ∙ next.job_of_slot) in let alike : x ≡ job = cc in
            let F : AcceptedPlan × ℕ → Type 0 = λ z. rank sound.book.jobs z.0.planner z.1 < get_or emitted z.0.planner 0 in
            ((λ _. subst F (λ j. (sym alike j, sym same j)) (let n = next.next in omega arith)), (λ _. now)))
            (λ apart. let f = sound.emitted_first q x there in let h = word_else bench.words slot 4 q apart in dite (ℕ_discrete x.planner planner)
            (λ his. let z : get_or emitted x.planner 0 ≡ suc count = ap (λ (c : ℕ). get_or emitted c 0) his ∙ here in let w : get_or sound.book.emitted x.planner 0 ≡ count = ap (λ (c : ℕ). get_or sound.book.emitted c 0) his in
            let r : rank sound.book.jobs x.planner q ≡ rank sound.book.jobs planner q = ap (λ (c : ℕ). rank sound.book.jobs c q) his in
            let differs : rank sound.book.jobs planner q ≢ rank sound.book.jobs planner slot = λ same. apart (rank_once sound.book.jobs q slot planner x job there next.job_of_slot his refl same) in let n = next.next in
            ((λ four. let c = f.0 (sym h ∙ four) in omega arith), (λ less. h ∙ f.1 (omega arith))))
            (λ not_his. let z : get_or emitted x.planner 0 ≡ get_or sound.book.emitted x.planner 0 = get_or-set_other sound.book.emitted planner x.planner (suc count) 0 not_his in
            ((λ four. let c = f.0 (sym h ∙ four) in omega arith), (λ less. h ∙ f.1 (omega arith)))));
        emitted_within = λ c. let a = sound.emitted_within c in dite (ℕ_discrete c planner)
            (λ same. let z : get_or emitted c 0 ≡ suc count = ap (λ (d : ℕ). get_or emitted d 0) same ∙ here in
            let r : rank sound.book.jobs c (length sound.book.jobs) ≡ rank sound.book.jobs planner (length sound.book.jobs) = ap (λ (d : ℕ). rank sound.book.jobs d (length sound.book.jobs)) same in let n = next.next in omega arith)
            (λ apart. let z = get_or-set_other sound.book.emitted planner c (suc count) 0 apart in omega arith);
      }

  -- the next slot of a planner is not emitted, so if the owner knows it to be finished, it is
  pub not_known : IsNext view slot job → word_of bench.words slot ≢ 3 → times slot view.finished ≡ 0
  not_known is_next apart = dite (ℕ_discrete (times slot view.finished) 0) (λ same. same) (λ some_time. let next = next_in_book is_next in
      let four : word_of bench.words slot ≡ 4 = finished_four (word_of bench.words slot) (let one = term_le (knows_finished slot) bench.views 0 view mine in let all = sound.finished_once slot in omega arith) apart in
      let less = (sound.emitted_first slot job next.job_of_slot).0 four in let n = next.next in absurd (omega arith))

  -- with no seat out, the owner knows a finished slot to be so
  pub known_alone : view.seats_out ≡ 0 → word_of bench.words slot ≡ 3 → 0 < times slot view.finished
  known_alone idle three = let known = (alone setting bench sound view mine idle slot).1 in let one = one_at (word_of bench.words slot) 3 three in omega arith

right_for : (setting : Setting) (view : View) (finding : Finding) → view.role ≡ Owner → KnowsSetting setting view.role view.setting → IsRight setting.task.value finding → IsRightFor view.setting finding
right_for setting view finding owner knows right other e = let same : view.setting ≡ Some setting = subst (λ (role : Role). KnowsSetting setting role view.setting) owner knows in let two : Some setting ≡ Some other = sym same ∙ e in let alike : setting ≡ other = cc in
    subst (λ (s : Setting). IsRight s.task.value finding) alike right

emit_first : (setting : Setting) (n slot : ℕ) (seat : Sitting) (job : AcceptedPlan) → IsNext seat.0 slot job → slot < n → Allows (Sound setting) n 0 seat (slot + 1) (λ c. either (eqb c 3) 4 c) (emit_tells (step n (slot + 1) 3 4 none) seat)
emit_first setting n slot seat job next lt bench sound wide mine _ = let inside : slot < length bench.homes = omega arith in
    let known : (other : ℕ) → slot ≡ other → seat.0.seats_out ≡ 0 → word_of bench.words slot ≡ 3 → 0 < times other seat.0.finished
    = λ other same idle three. subst (λ (r : ℕ). 0 < times r seat.0.finished) same (known_alone setting bench sound seat.0 mine slot job idle three) in dite (ℕ_discrete (word_of bench.words slot) 3)
    (λ hit. let (finding, there, rests, right) = (sound.each_slot slot inside).finished hit in
    let right' = right_for setting seat.0 finding (owner_role setting bench sound seat.0 mine) (sound.settings 0 seat.0 mine) right in
    let jobs : seat.0.jobs ≡ sound.book.jobs = ap (λ (b : Book). b.jobs) (owner_book setting bench sound seat.0 mine) in (
      with_emission seat.0 job.planner,
      takes slot (Done finding),
      rests,
      subst (λ b. Sound setting record { words = set bench.words (slot + 1) (either b 4 (word_of bench.words slot)); homes = set bench.homes slot none; views = set bench.views 0 (with_emission seat.0 job.planner) }) (sym (eq-eqb (word_of bench.words slot) 3 hit))
          (emit_moves setting bench sound seat.0 mine slot job next hit),
      λ other x is at. let same : slot ≡ other = same_slot slot other is in
          let both : Some job ≡ Some x = sym next.job_of_slot ∙ (ap (slice_get seat.0.jobs) same ∙ at) in let alike : job ≡ x = cc in
          let of_job : Some finding.job ≡ Some job = sym there ∙ (ap (λ (l : List AcceptedPlan). slice_get l slot) (sym jobs) ∙ next.job_of_slot) in let his : finding.job ≡ job = cc in
          ((λ _. (finding, his ∙ alike, right', λ i. (with_emission seat.0 (alike i).planner, (same i, Done finding) ∷ seat.1))), (λ miss. absurd (miss hit)), known other same),
    ))
    (λ miss. (
      with_miss seat.0 slot,
      keeps,
      tt,
      subst (λ b. Sound setting record { words = set bench.words (slot + 1) (either b 4 (word_of bench.words slot)); homes = bench.homes; views = set bench.views 0 (with_miss seat.0 slot) }) (sym (ne_eqb (word_of bench.words slot) 3 miss))
          (looks setting bench sound 0 (slot + 1) seat.0 (with_miss seat.0 slot) mine refl refl refl refl refl refl),
      λ other x is at. let same : slot ≡ other = same_slot slot other is in
          ((λ hit. absurd (miss hit)), (λ _. (ap (λ (r : ℕ). (with_miss seat.0 r, seat.1)) same, ap (λ (r : ℕ). times r seat.0.finished) (sym same) ∙ not_known setting bench sound seat.0 mine slot job next miss)), known other same),
    ))

pub emit_allowed : (setting : Setting) (n id slot : ℕ) (seat : Sitting) (job : AcceptedPlan) → id ≡ 0 → IsNext seat.0 slot job → slot < n → Allows (Sound setting) n id seat (slot + 1) (λ c. either (eqb c 3) 4 c) (emit_tells (step n (slot + 1) 3 4 none) seat)
emit_allowed setting n id slot seat job first next lt = subst (λ (i : ℕ). Allows (Sound setting) n i seat (slot + 1) (λ c. either (eqb c 3) 4 c) (emit_tells (step n (slot + 1) 3 4 none) seat)) (sym first) (emit_first setting n slot seat job next lt)

-- the seat after the finding was taken out of the slot, and the slot put behind the others
pub emit_out : (seat middle later last : Sitting) (slot : ℕ) (job : AcceptedPlan) (finding : Finding) (found : Content) → (t : Emitted slot job seat middle) → middle.1 ≡ (slot, found) ∷ rest middle.1 → found ≡ Done finding → later ≡ (middle.0, (slot, Nothing) ∷ rest middle.1)
    → last ≡ (later.0, turned later.1) → (finding.job ≡ job) × IsRightFor seat.0.setting finding × (last ≡ (with_emission seat.0 job.planner, seat.1 ++ (slot, Nothing) ∷ []))
emit_out seat middle later last slot job finding found (done, his, right, is) e f g h =
    let content : Done done ≡ Done finding = sym (front_content middle.1 seat.1 slot (Done done) found (ap (λ (z : Sitting). z.1) is) e) ∙ f in let same : done ≡ finding = cc in (
      ap (λ (z : Finding). z.job) (sym same) ∙ his,
      subst (IsRightFor seat.0.setting) same right,
      h ∙ ap (λ (z : Sitting). (z.0, turned z.1)) (g ∙ ap (λ (z : Sitting). (z.0, (slot, Nothing) ∷ rest z.1)) is),
    )

-- the emitted slot is among those that come after the held ones
pub emit_keeps : (seat last : Sitting) (slot planner : ℕ) → last ≡ (with_emission seat.0 planner, seat.1 ++ (slot, Nothing) ∷ []) → CarriesHeld seat → CarriesHeld last
emit_keeps seat last slot planner e (emitted, is) = subst CarriesHeld (sym e) (
  emitted ++ (slot, Nothing) ∷ [],
  ap (λ (l : Carried). l ++ (slot, Nothing) ∷ []) is ∙ append_assoc (slots_of seat.0.held) emitted ((slot, Nothing) ∷ []),
)

pub miss_keeps : (seat last : Sitting) (slot : ℕ) → Missed slot seat last → CarriesHeld seat → CarriesHeld last
miss_keeps seat last slot e carries = subst CarriesHeld (sym e) carries

-- What each kind of step does to the shown intake.

use Rattle.std.proofs.Common.{get_or-set_same, ◌≡◌, ◌≢◌, ◌<◌, ℕ, ◌+◌, true, false, not, nat_eq, List, [], ◌∷◌, ◌++◌, Option, Some, slice_get, get_or, set, length, refl, ap, sym, ◌∙◌, subst, arith, inr, if◌then◌else◌, ne_eqb}
use Rattle.std.proofs.lemmas.Bool.{lt-ltb}
use Rattle.std.proofs.lemmas.Option.{slice_get_within, get_or_from_slice_get}
use mathlib.Core.Option.{some, none}
use Rattle.atomic_table.proofs.Lists.{set_again, set_else, set_here}
use Rattle.intake_rules.specs.declared.finding.Finding.{Finding}
use Rattle.intake_rules.specs.declared.refusal.Refusal.TheVariants as refusal
use Rattle.intake_rules.specs.declared.reply.Reply.TheVariants as reply
use Rattle.intake_rules.specs.declared.stage.Stage.{Stage}
use Rattle.intake_rules.specs.declared.stage.Stage.TheVariants as stage
use Rattle.intake_rules.specs.Intake.{Intake, has_planner, has_job, is_closed_in, is_out_stage, is_finished_stage, stage_of, jobs_of, next_job, with_job, with_closed, with_emitted}
use Rattle.intake_rules.specs.Jobs.{AcceptedPlan}
use Rattle.intake_rules.specs.Rules.{submit, close, hand_back, finish, emit, Allows, after, first_that_applies, refused_or, is_same_job, finding_at, emit_reply_of, reply_to}
use Rattle.intake_rules.proofs.Lawful.{one_more}
use Rattle.intake_rules.proofs.SameJobs.{test_itself}
use Rattle.bench_rule.specs.declared.contents.Item.TheVariants.{Waiting, Done}
use Rattle.bench_rule.specs.declared.views.Role.{Role}
use Rattle.bench_rule.specs.declared.views.Setting.{Setting}
use Rattle.bench_rule.specs.declared.views.View.{View}
use Rattle.bench_rule.specs.Laws.{LiftLaw, PostLaw, TakeLaw, FinishLaw, HandBackLaw, EmitLaw, CloseLaw, LoadLaw, MissLaw, SplitLaw, JoinLaw, ShutLaw, NoteLaw, HistoryGoesOn}
use Rattle.bench_rule.specs.Shown.{owner_of, shown, stages, Stays}
use Rattle.bench_rule.specs.Sound.{Sound, FitsRole, HasView, Home, Book}
use Rattle.bench_rule.specs.Views.{Bench, IsNext, rank, spent_view, with_close, with_emission, with_finished, with_handed_back, with_joined, with_lifted, with_miss, with_note, with_posted, with_seat_out, with_shut, with_taken, worker_view}
use Rattle.bench_rule.proofs.Counts.{held_often, held_job}
use Rattle.bench_rule.proofs.Emits.{emit_moves}
use Rattle.bench_rule.proofs.Finishes.{finish_moves, hand_back_moves, is_inside, is_out}
use Rattle.bench_rule.proofs.Frames.{owner_book, looks, shut_else}
use Rattle.bench_rule.proofs.Meanings.{accepted, in_book, within_slots}
use Rattle.bench_rule.proofs.Posts.{lift_moves, post_moves}
use Rattle.bench_rule.proofs.Ranks.{job_by_rank}
use Rattle.bench_rule.proofs.Seats.{split_moves, join_moves, close_moves, shut_moves, note_moves}
use Rattle.bench_rule.proofs.Stages.{Homes, showing, staged, owner_is, owner_set, view_shown, stage_shown, slot_shown, past_shown, stages_after, stages_more, first_word_shown, more_views, owner_else}
use Rattle.bench_rule.proofs.Sums.{within}
use Rattle.bench_rule.proofs.Takes.{take_moves}
use Rattle.std.proofs.lemmas.List.{set-get_or}

-- replies that the tables of the rules allow

accepts : (intake : Intake) (slots slot : ℕ) (job : AcceptedPlan) → slot ≡ length intake.jobs → slot < slots → job.planner < length intake.closed → is_closed_in intake job.planner ≡ false
    → reply.Accepted slot ≡ reply_to slots intake (submit job.planner job.plan)
accepts intake slots slot job at inside planner closed =
    let known : has_planner intake job.planner ≡ true = lt-ltb job.planner (length intake.closed) planner in
    let free : nat_eq (length intake.jobs) slots ≡ false = ne_eqb (length intake.jobs) slots (λ e. omega arith) in
    ap reply.Accepted at
    ∙ sym (λ i. refused_or (first_that_applies ((not (known i), refusal.NoPlanner) ∷ (closed i, refusal.Closed) ∷ (free i, refusal.Full) ∷ [])) (reply.Accepted (length intake.jobs)))

closes : (intake : Intake) (slots planner : ℕ) → planner < length intake.closed → is_closed_in intake planner ≡ false → reply.ClosedNow ≡ reply_to slots intake (close planner)
closes intake slots planner inside closed =
    let known : has_planner intake planner ≡ true = lt-ltb planner (length intake.closed) inside in
    sym (λ i. refused_or (first_that_applies ((not (known i), refusal.NoPlanner) ∷ (closed i, refusal.AlreadyClosed) ∷ [])) reply.ClosedNow)

stage_from : (intake : Intake) (slot : ℕ) (at : Stage) → slice_get intake.stages slot ≡ Some at → stage_of intake slot ≡ at
stage_from intake slot at there = get_or_from_slice_get intake.stages slot at stage.Waiting there

returns_job : (intake : Intake) (slots slot : ℕ) → slot < length intake.jobs → slice_get intake.stages slot ≡ Some stage.Out → reply.Returned ≡ reply_to slots intake (hand_back slot)
returns_job intake slots slot inside there =
    let known : has_job intake slot ≡ true = lt-ltb slot (length intake.jobs) inside in let out = stage_from intake slot stage.Out there in
    sym (λ i. refused_or (first_that_applies ((not (known i), refusal.UnknownJob) ∷ (is_finished_stage (out i), refusal.AlreadyFinished) ∷ (not (is_out_stage (out i)), refusal.NotOut) ∷ [])) reply.Returned)

finishes_job : (intake : Intake) (slots slot : ℕ) (finding : Finding) → slot < length intake.jobs → slice_get intake.stages slot ≡ Some stage.Out → slice_get intake.jobs slot ≡ Some finding.job → reply.Finished ≡ reply_to slots intake (finish slot (Some finding))
finishes_job intake slots slot finding inside there his =
    let known : has_job intake slot ≡ true = lt-ltb slot (length intake.jobs) inside in let out = stage_from intake slot stage.Out there in
    let same : is_same_job (slice_get intake.jobs slot) finding.job ≡ true = ap (λ (job : Option AcceptedPlan). is_same_job job finding.job) his ∙ test_itself finding.job in
    sym (λ i. refused_or (first_that_applies ((not (known i), refusal.UnknownJob) ∷ (is_finished_stage (out i), refusal.AlreadyFinished) ∷ (not (is_out_stage (out i)), refusal.NotOut) ∷ (not (same i), refusal.OtherPlan) ∷ [])) reply.Finished)

emits_job : (intake : Intake) (slots slot : ℕ) (job : AcceptedPlan) (finding : Finding) → job.planner < length intake.closed → slice_get intake.jobs slot ≡ Some job → rank intake.jobs job.planner slot ≡ get_or intake.emitted job.planner 0 → job.number ≡ slot
    → slice_get intake.stages slot ≡ Some (stage.Finished finding) → reply.Emitted finding ≡ reply_to slots intake (emit job.planner)
emits_job intake slots slot job finding planner there ranked number finished =
    let known : has_planner intake job.planner ≡ true = lt-ltb job.planner (length intake.closed) planner in
    let next : next_job intake job.planner ≡ Some job = ap (λ k. slice_get (jobs_of job.planner intake.jobs) k) (sym ranked) ∙ job_by_rank intake.jobs slot job.planner job there refl in
    let at : stage_of intake job.number ≡ stage.Finished finding = ap (stage_of intake) number ∙ stage_from intake slot (stage.Finished finding) finished in
    sym (ap (λ b. if b then emit_reply_of intake job.planner (next_job intake job.planner) else reply.Refused refusal.NoPlanner) known
    ∙ (ap (emit_reply_of intake job.planner) next ∙ ap (finding_at job.number) at))

abbrev resting : Finding → Home
resting finding = some (some (Done finding))

module _ (setting : Setting) (bench : Bench) (sound : Sound setting bench) where
  owner_jobs : (view : View) → HasView bench 0 view → (owner_of bench.views).jobs ≡ view.jobs
  owner_jobs view mine = ap (λ (v : View). v.jobs) (owner_is bench.views view mine)

  planner_within : (view : View) → HasView bench 0 view → (planner : ℕ) → planner < length view.emitted → planner < length (owner_of bench.views).closed
  planner_within view mine planner h = let book = owner_book setting bench sound view mine in let owner = ap (λ (v : View). length v.closed) (owner_is bench.views view mine) in
      let closed = ap (λ (b : Book). length b.closed) book in let emitted = ap (λ (b : Book). length b.emitted) book in let one = sound.closed_count in let two = sound.emitted_count in omega arith

  pub lift_law : LiftLaw setting bench
  lift_law slot view mine at inside down = let (content, rests, later) = lift_moves setting bench sound view mine slot at (within_slots setting bench sound slot inside) down in
      record { stays_shut = λ e. shut_else bench.words slot 0 ∙ e; sound = later; same = past_shown bench slot 0 none 0 view (with_lifted view) mine refl refl refl (let long = ap length (owner_jobs view mine) in omega arith) }

  pub post_law : PostLaw setting bench
  post_law slot view job mine at inside number planner closed =
      let homes : Homes = set bench.homes slot (some (Waiting job)) in let words : List ℕ = set bench.words (slot + 1) 1 in let later : View = with_posted view job in
      let owner = owner_is bench.views view mine in let in_table = within_slots setting bench sound slot inside in
      let more = stages_more bench.words bench.homes view.jobs job slot 1 (some (Waiting job)) at in_table sound.word_count in
      let counted : job.number ≡ length view.jobs = number ∙ at in
      let P : View → Type 0 = λ v. reply.Accepted slot ≡ reply_to setting.slots (showing bench.words bench.homes v) (submit job.planner job.plan) in record {
        sound = post_moves setting bench sound view mine slot job at in_table number;
        allowed = subst P (sym owner) (accepts (showing bench.words bench.homes view) setting.slots slot job at inside planner closed);
        stays_shut = λ e. shut_else bench.words slot 1 ∙ e;
        moved = ap (showing words homes) (owner_set bench.views view later mine)
            ∙ (let posted : showing words homes later ≡ with_job (showing bench.words bench.homes view) job.planner job.plan
            = λ i. record { jobs = view.jobs ++ record { number = counted i; planner = job.planner; plan = job.plan } ∷ []; stages = more i; closed = view.closed; emitted = view.emitted } in posted)
            ∙ ap (λ (v : View). with_job (showing bench.words bench.homes v) job.planner job.plan) (sym owner);
      }

  pub take_law : TakeLaw setting bench
  take_law id slot view job mine lives inside waits there =
      let in_table = within_slots setting bench sound slot inside in let known = in_book setting bench sound slot job there in
      let (found, his, rests) = (sound.each_slot slot in_table).waiting waits in record {
        sound = take_moves setting bench sound id slot view job mine lives in_table waits known;
        allowed = inr (slot, refl, stage_shown bench slot 1 (some (Waiting found)) job sound.word_count in_table there waits rests);
        stays_shut = λ e. shut_else bench.words slot 2 ∙ e;
        moved = slot_shown bench slot 2 none id view (with_taken view slot job) mine refl refl refl;
      }

  pub finish_law : FinishLaw setting bench
  finish_law id slot view finding mine held right =
      let often = held_often slot finding.job view.held held in let known = held_job sound.book.jobs slot finding.job view.held (sound.held_jobs id view mine) held in
      let in_table = is_inside setting bench sound id view mine slot often in let out = is_out setting bench sound id view mine slot often in
      let there = accepted setting bench sound slot finding.job known in record {
        sound = finish_moves setting bench sound id slot view finding mine often known right;
        allowed = finishes_job (shown bench) setting.slots slot finding (slice_get_within (owner_of bench.views).jobs slot finding.job there) (stage_shown bench slot 2 none finding.job sound.word_count in_table there out ((sound.each_slot slot in_table).out out)) there;
        stays_shut = λ e. shut_else bench.words slot 3 ∙ e;
        moved = slot_shown bench slot 3 (some (Done finding)) id view (with_finished view slot) mine refl refl refl;
      }

  pub hand_back_law : HandBackLaw setting bench
  hand_back_law id slot view job mine held =
      let often = held_often slot job view.held held in let known = held_job sound.book.jobs slot job view.held (sound.held_jobs id view mine) held in
      let in_table = is_inside setting bench sound id view mine slot often in let out = is_out setting bench sound id view mine slot often in
      let there = accepted setting bench sound slot job known in record {
        sound = hand_back_moves setting bench sound id slot view job mine often known;
        allowed = returns_job (shown bench) setting.slots slot (slice_get_within (owner_of bench.views).jobs slot job there) (stage_shown bench slot 2 none job sound.word_count in_table there out ((sound.each_slot slot in_table).out out));
        stays_shut = λ e. shut_else bench.words slot 1 ∙ e;
        moved = slot_shown bench slot 1 (some (Waiting job)) id view (with_handed_back view slot) mine refl refl refl;
      }

  pub emit_law : EmitLaw setting bench
  emit_law slot view job finding mine next done rests =
      let homes : Homes = set bench.homes slot none in let words : List ℕ = set bench.words (slot + 1) 4 in let later : View = with_emission view job.planner in
      let owner = owner_is bench.views view mine in let next' : IsNext (owner_of bench.views) slot job = subst (λ (v : View). IsNext v slot job) (sym owner) next in
      let known = in_book setting bench sound slot job next'.job_of_slot in
      let in_table : slot < length bench.homes = (let used = slice_get_within sound.book.jobs slot job known in let room = sound.room in omega arith) in
      let (found, his, rests', right) = (sound.each_slot slot in_table).finished done in
      let two : resting found ≡ resting finding = sym rests' ∙ rests in let same : found ≡ finding = cc in
      let number : finding.job.number ≡ slot = ap (λ (f : Finding). f.job.number) (sym same) ∙ sound.numbered slot found.job his in
      let stages_are = stages_after bench.words bench.homes view.jobs slot 4 none in record {
        sound = emit_moves setting bench sound view mine slot job next done;
        allowed = emits_job (shown bench) setting.slots slot job finding (planner_within view mine job.planner next.planner_within) next'.job_of_slot next'.next (sound.numbered slot job known)
            (stage_shown bench slot 3 (some (Done finding)) job sound.word_count in_table next'.job_of_slot done rests);
        stays_shut = λ e. shut_else bench.words slot 4 ∙ e;
        moved = ap (showing words homes) (owner_set bench.views view later mine)
            ∙ (let emitted : showing words homes later ≡ with_emitted (showing bench.words bench.homes view) job.planner slot
            = λ i. record { jobs = view.jobs; stages = stages_are i; closed = view.closed; emitted = later.emitted } in emitted)
            ∙ (ap (λ (v : View). with_emitted (showing bench.words bench.homes v) job.planner slot) (sym owner)
            ∙ ap (with_emitted (shown bench) job.planner) (sym number));
      }

  pub close_law : CloseLaw setting bench
  close_law view planner mine inside closed =
      let later : View = with_close view planner in let owner = owner_is bench.views view mine in
      let P : View → Type 0 = λ v. reply.ClosedNow ≡ reply_to setting.slots (showing bench.words bench.homes v) (close planner) in record {
        sound = close_moves setting bench sound view planner mine;
        allowed = subst P (sym owner) (closes (showing bench.words bench.homes view) setting.slots planner inside closed);
        stays_shut = λ e. e;
        moved = ap (showing bench.words bench.homes) (owner_set bench.views view later mine) ∙ ap (λ (v : View). with_closed (showing bench.words bench.homes v) planner) (sym owner);
      }

  pub load_law : LoadLaw setting bench
  load_law id view mine = let same : set bench.views id view ≡ bench.views = set_again bench.views id view mine in
      let P : List View → Type 0 = λ views. Stays setting bench record { words = bench.words; homes = bench.homes; views = views } in subst P (sym same) (record { sound = sound; same = refl; stays_shut = λ e. e })

  pub miss_law : MissLaw setting bench
  miss_law id slot view mine = let words = set-get_or bench.words 0 0 in let later : View = with_miss view slot in
      let P : List ℕ → Type 0 = λ ws. Sound setting record { words = ws; homes = bench.homes; views = set bench.views id later } in record {
        sound = subst P words (looks setting bench sound id 0 view later mine refl refl refl refl refl refl);
        stays_shut = λ e. e;
        same = view_shown bench.words bench.homes bench.views id view later mine refl refl refl;
      }

  pub split_law : SplitLaw setting bench
  split_law view mine = let later : View = with_seat_out view in let views : List View = set bench.views 0 later in record {
    sound = split_moves setting bench sound view mine;
    stays_shut = λ e. e;
    same = ap (showing bench.words bench.homes) (more_views views later (worker_view view.setting) (set_here bench.views 0 later (within bench.views 0 view mine))) ∙ view_shown bench.words bench.homes bench.views 0 view later mine refl refl refl;
  }

  pub join_law : JoinLaw setting bench
  join_law other view joined mine theirs worker none_held =
      let later : View = with_joined view joined in
      let apart : other ≢ 0 = subst (λ (role : Role). FitsRole other role joined.held joined.finished) worker (sound.roles other joined theirs) in record {
        sound = join_moves setting bench sound view other joined mine apart (set_else bench.views 0 other later apart ∙ theirs) worker none_held;
        stays_shut = λ e. e;
        same = ap (showing bench.words bench.homes) (owner_else (set bench.views 0 later) other spent_view apart) ∙ view_shown bench.words bench.homes bench.views 0 view later mine refl refl refl;
      }

  pub shut_law : ShutLaw setting bench
  shut_law view mine = record {
    sound = shut_moves setting bench sound view mine;
    stays_shut = λ e. get_or-set_same bench.words 0 1 0 (let long = sound.word_count in omega arith);
    same = (let owner : View = owner_of (set bench.views 0 (with_shut view)) in ap (λ (ws : List ℕ). staged owner (stages ws bench.homes owner.jobs)) (first_word_shown bench.words 1))
        ∙ view_shown bench.words bench.homes bench.views 0 view (with_shut view) mine refl refl refl;
  }

  pub note_law : NoteLaw setting bench
  note_law id view mine found = record { stays_shut = λ e. e; sound = note_moves setting bench sound id view mine found; same = view_shown bench.words bench.homes bench.views id view (with_note view) mine refl refl refl }

pub history_goes_on : (setting : Setting) (before later : Bench) → HistoryGoesOn setting before later
history_goes_on setting before later history event answer moves lawful leaves =
    let allowed = subst (λ (intake : Intake). Allows setting.slots intake event answer) (sym leaves) moves.allowed in
    let more = one_more setting.planners setting.slots history event answer lawful allowed in
    (more.0, more.1 ∙ (ap (λ (intake : Intake). after intake event answer) leaves ∙ sym moves.moved))

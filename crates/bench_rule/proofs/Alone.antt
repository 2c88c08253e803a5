-- With no seat out, the owner knows how far each job has come.

use Rattle.std.proofs.Common.{◌≡◌, ◌≢◌, ◌↔◌, ◌<◌, ◌≤◌, ℕ, List, length, sym, ap, ◌∙◌, arith}
use mathlib.Core.Option.{some}
use lib.ListN.{get_elem?}
use Rattle.bench_rule.specs.declared.views.Held.{Held}
use Rattle.bench_rule.specs.declared.views.Role.{Role}
use Rattle.bench_rule.specs.declared.views.Role.TheVariants.{Owner, Worker, Spent}
use Rattle.bench_rule.specs.declared.views.Setting.{Setting}
use Rattle.bench_rule.specs.declared.views.View.{View}
use Rattle.bench_rule.specs.Plays.{SeemsWaiting}
use Rattle.bench_rule.specs.Sound.{Sound, FitsRole, HasView, Book, word_of, out_in, finished_in}
use Rattle.bench_rule.specs.Views.{Bench, holding, knows_finished, counts_as_worker, worker_count, times, times_held}
use Rattle.bench_rule.proofs.Counts.{one_at}
use Rattle.bench_rule.proofs.Frames.{owner_book}
use Rattle.bench_rule.proofs.Sums.{term_le, first_alone}

-- a view besides the owner's that is no worker's has nothing
has_nothing : (slot id : ℕ) (role : Role) (held : List Held) (finished : List ℕ) → id ≢ 0 → worker_count role ≡ 0 → FitsRole id role held finished → (times_held slot held ≡ 0) × (times slot finished ≡ 0)
has_nothing slot id Owner held finished apart none fits = absurd (apart fits)
has_nothing slot id Worker held finished apart none fits = absurd (omega arith)
has_nothing slot id Spent held finished apart none fits = (ap (times_held slot) fits.0, ap (times slot) fits.1)

-- a slot is out exactly where the owner holds it, and finished or emitted exactly where the owner knows that
pub alone : (setting : Setting) (bench : Bench) (sound : Sound setting bench) (view : View) → HasView bench 0 view → view.seats_out ≡ 0 → (slot : ℕ)
    → (times_held slot view.held ≡ out_in (word_of bench.words slot)) × (times slot view.finished ≡ finished_in (word_of bench.words slot))
alone setting bench sound view mine none slot =
    let out : sound.book.seats_out ≡ 0 = ap (λ (b : Book). b.seats_out) (sym (owner_book setting bench sound view mine)) ∙ none in
    let others : (id : ℕ) (other : View) → id ≢ 0 → get_elem? bench.views id ≡ some other → (times_held slot other.held ≡ 0) × (times slot other.finished ≡ 0)
    = λ id other apart at. let idle : worker_count other.role ≡ 0 = let one = term_le counts_as_worker bench.views id other at in let all = sound.workers in omega arith in
    has_nothing slot id other.role other.held other.finished apart idle (sound.roles id other at) in (
      sym (first_alone (holding slot) bench.views view mine (λ id other apart at. (others id other apart at).0)) ∙ sound.held_once slot,
      sym (first_alone (knows_finished slot) bench.views view mine (λ id other apart at. (others id other apart at).1)) ∙ sound.finished_once slot,
    )

waits : (word : ℕ) → word ≤ 4 → word ≢ 0 → out_in word ≡ 0 → finished_in word ≡ 0 → word ≡ 1
waits word known used out finished =
    let not_two : word ≢ 2 = λ e. let one = one_at word 2 e in omega arith in
    let not_three : word ≢ 3 = λ e. let one = one_at word 3 e in omega arith in
    let not_four : word ≢ 4 = λ e. let one = one_at word 4 e in omega arith in omega arith

pub seems_waiting : (setting : Setting) (bench : Bench) (sound : Sound setting bench) (view : View) → HasView bench 0 view → view.seats_out ≡ 0 → (slot : ℕ) → slot < length bench.homes → (word_of bench.words slot ≡ 1) ↔ SeemsWaiting slot view
seems_waiting setting bench sound view mine none slot inside =
    let (held, finished) = alone setting bench sound view mine none slot in
    let ok = sound.each_slot slot inside in
    let jobs : length view.jobs ≡ length sound.book.jobs = ap (λ (b : Book). length b.jobs) (owner_book setting bench sound view mine) in (
      (λ one. (
        (let used = ok.used (omega arith) in omega arith),
        held ∙ ap out_in one,
        finished ∙ ap finished_in one,
      )),
      (λ seems. waits (word_of bench.words slot) ok.known
          (λ e. let past = ok.unused e in let less = seems.0 in omega arith)
          (sym held ∙ seems.1) (sym finished ∙ seems.2)),
    )

-- A desk that nothing was asked of.

use Rattle.std.proofs.Common.{◌≡◌, ℕ, zero, suc, ◌/◌, ◌<◌, ◌≤◌, ⊎_elim, false, List, [], ◌∷◌, map, replicate, Some, None, ap, sym, ◌∙◌, subst, refl, arith}
use Rattle.std.proofs.lemmas.Bool.{cases_lt}
use Rattle.std.proofs.lemmas.List.{length-replicate, get_or-replicate, get_or_past}
use Rattle.std.proofs.lemmas.Option.{slice_get-get_or, slice_get_within}
use Rattle.bit_rows.specs.Rows.{row_has}
use Rattle.bit_rows.proofs.Bits.{row_has-zero}
use Rattle.strips_task.specs.declared.costs.CostedTask.{CostedTask}
use Rattle.intake_rules.specs.Intake.{Intake, empty_intake, jobs_of}
use Rattle.intake_core.specs.declared.slot.Slot.{Slot}
use Rattle.intake_core.specs.declared.slot.Planner.{Planner}
use Rattle.intake_core.specs.State.{DeskState}
use Rattle.intake_core.specs.Rows.{intake_in, IsLine, IsKept, IsKeptIn}

-- the row of a planner that is open and of which nothing was accepted
abbrev pub open_planner : Planner
open_planner = record { closed = false; emitted = 0; next = None; last = None }

open-line : (planner : ℕ) → IsLine [] [] planner open_planner
unfolding jobs_of
open-line planner = record { next = refl; last = refl; told = omega arith; along = λ k j e. absurd (cc) }

none_waits : (words k : ℕ) → row_has (replicate words 0) k ≡ false
none_waits words k =
    row_has-zero (replicate words 0) k
    (⊎_elim
    (λ (within : k / 64 < words). get_or-replicate words (k / 64) 0 0 within)
    (λ (past : words ≤ k / 64). get_or_past (replicate words 0) (k / 64) 0 (omega (arith, past, length-replicate {A = ℕ} words 0)))
    (cases_lt (k / 64) words))

kept-empty : (task : CostedTask) (slots planners : ℕ) → slots ≤ 65536 → IsKept task slots [] [] [] (replicate planners open_planner) (replicate 1024 0)
kept-empty task slots planners few =
    record {
      few = few;
      room = omega arith;
      staged = refl;
      linked = refl;
      numbered = λ j job e. absurd (cc);
      waiting_is = none_waits 1024;
      at_rest = λ j job finding e f. absurd (cc);
      lines = λ planner row e.
          let within : planner < planners = omega (arith, slice_get_within (replicate planners open_planner) planner row e, length-replicate planners open_planner) in
          let it : Some open_planner ≡ Some row =
          ap Some (sym (get_or-replicate planners planner open_planner open_planner within))
          ∙ sym (slice_get-get_or (replicate planners open_planner) planner open_planner (slice_get_within (replicate planners open_planner) planner row e)) ∙ e in
          let row_is : open_planner ≡ row = cc in
          subst (IsLine [] [] planner) row_is (open-line planner);
    }

pub kept-made : (task : CostedTask) (slots planners : ℕ) (table : List Slot) (rows : List Planner) → slots ≤ 65536
    → table ≡ [] → rows ≡ replicate planners open_planner → IsKeptIn task slots table rows (replicate 1024 0)
kept-made task slots planners table rows few no_rows rows_are =
    subst (λ t. IsKeptIn task slots t rows (replicate 1024 0)) (sym no_rows)
    (subst (λ r. IsKeptIn task slots [] r (replicate 1024 0)) (sym rows_are) (kept-empty task slots planners few))

map-copies : {X Y : Type 0} (f : X → Y) → (n : ℕ) (x : X) → map f (replicate n x) ≡ replicate n (f x)
map-copies f zero x = refl
map-copies f (suc n) x = ap (λ xs. f x ∷ xs) (map-copies f n x)

abbrev pub state : CostedTask → ℕ → Intake → DeskState
state task slots intake = record { task = task; slots = slots; intake = intake }

pub state-made : (task given : CostedTask) (slots planners : ℕ) (table : List Slot) (rows : List Planner) → task ≡ given → table ≡ [] → rows ≡ replicate planners open_planner
    → state task slots (intake_in table rows) ≡ state given slots (empty_intake planners)
state-made task given slots planners table rows same no_rows rows_are =
    ap (λ t. state t slots (intake_in table rows)) same
    ∙ ap (λ t. state given slots (intake_in t rows)) no_rows
    ∙ ap (λ r. state given slots (intake_in [] r)) rows_are
    ∙ ap (λ c. state given slots (record { jobs = []; stages = []; closed = c; emitted = map (λ r. r.emitted) (replicate planners open_planner) })) (map-copies (λ r. r.closed) planners open_planner)
    ∙ ap (λ e. state given slots (record { jobs = []; stages = []; closed = replicate planners false; emitted = e })) (map-copies (λ r. r.emitted) planners open_planner)

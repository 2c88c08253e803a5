-- How far a replay has come, and what holds of its history.

use Rattle.std.proofs.Common.{◌≡◌, ◌++◌, ℕ, List, [], ◌∷◌, length, map, take, drop, Option, Some, None, ap, sym, ◌∙◌, subst, refl, zero, suc, append_assoc, append-nil, arith}
use Rattle.std.specs.Prelude.{slice_get, option_map, IfSome, Result, Ok, Err, OnOk, is_err, false}
use Rattle.strips_task.specs.declared.costs.CostedTask.{CostedTask}
use Rattle.intake_rules.specs.declared.reply.Reply.{Reply}
use Rattle.intake_rules.specs.Findings.{IsRight, right_finding}
use Rattle.intake_rules.specs.History.{History, IsLawful, TakesLeast, IsRightFinish, HasRightFindings}
use Rattle.intake_rules.specs.Intake.{empty_intake}
use Rattle.intake_rules.specs.Jobs.{AcceptedPlan}
use Rattle.intake_rules.specs.Rules.{Event}
use Rattle.intake_rules.proofs.Lawful.{lawful_prefix}
use Rattle.intake_rules.proofs.Refused.{refusals_change_nothing, refused_after_close, refused_doubled, refused_strange}
use Rattle.intake_rules.proofs.InOrder.{verdicts_in_order, whole_list_once_closed, complete_is_whole}
use Rattle.intake_core.specs.declared.replaying.Step.{Step}
use Rattle.intake_core.specs.Asked.{Asked, asked, to_submit, to_close, to_take, to_hand_back, to_finish, to_emit}
use Rattle.intake_core.specs.Histories.{Leaves}
use Rattle.intake_core.specs.State.{DeskState, desk_reply, desk_after}
use Rattle.intake_core.specs.Replays.{event_of, replayed, replies_of, history_of, Headline}
use Rattle.intake_core.proofs.Going.{goes-on, begins}

-- the desk that steps were asked of, the steps that are left and the replies so far
pub record RunsOn (task : CostedTask) (whole : List Reply) (desk : DeskState) (left : List Step) (replies : List Reply) : Type 0 where
  pub task_is : desk.task ≡ task
  pub whole_is : whole ≡ replies ++ replies_of (replayed desk (map asked left))

pub runs-more : (task : CostedTask) (whole : List Reply) (desk new : DeskState) (step : Step) (left : List Step) (replies more : List Reply) (answer : Reply)
    → RunsOn task whole desk (step ∷ left) replies → new ≡ desk_after desk (event_of desk (asked step)) (desk_reply desk (event_of desk (asked step))) → answer ≡ desk_reply desk (event_of desk (asked step))
    → more ≡ replies ++ answer ∷ [] → RunsOn task whole new left more
unfolding replayed
runs-more task whole desk new step left replies more answer runs state reply pushed =
    record {
      task_is = ap (λ d. d.task) state ∙ runs.task_is;
      whole_is =
          runs.whole_is
          ∙ sym (append_assoc replies (desk_reply desk (event_of desk (asked step)) ∷ []) (replies_of (replayed (desk_after desk (event_of desk (asked step)) (desk_reply desk (event_of desk (asked step)))) (map asked left))))
          ∙ ap (λ a. (replies ++ a ∷ []) ++ replies_of (replayed (desk_after desk (event_of desk (asked step)) (desk_reply desk (event_of desk (asked step)))) (map asked left))) (sym reply)
          ∙ ap (λ rs. rs ++ replies_of (replayed (desk_after desk (event_of desk (asked step)) (desk_reply desk (event_of desk (asked step)))) (map asked left))) (sym pushed)
          ∙ ap (λ d. more ++ replies_of (replayed d (map asked left))) (sym state);
    }

pub runs-end : (task : CostedTask) (whole : List Reply) (desk : DeskState) (replies : List Reply) → RunsOn task whole desk [] replies → replies ≡ whole
unfolding replayed
runs-end task whole desk replies runs = sym (runs.whole_is ∙ append-nil replies)

-- a history that leaves a desk, with what the steps then make of it, is lawful and gives out the least jobs
leaves-replayed : (planners : ℕ) (steps : List Asked) (history : History) (desk : DeskState) → Leaves planners history desk
    → IsLawful planners desk.slots (history ++ replayed desk steps) × TakesLeast planners (history ++ replayed desk steps)
unfolding replayed
leaves-replayed planners [] history desk leaves =
    let P : History → Type 0 = λ h. IsLawful planners desk.slots h × TakesLeast planners h in
    subst P (sym (append-nil history)) (leaves.lawful, leaves.least)
leaves-replayed planners (step ∷ steps) history desk leaves =
    let answer = desk_reply desk (event_of desk step) in
    let new = desk_after desk (event_of desk step) answer in
    let P : History → Type 0 = λ h. IsLawful planners desk.slots h × TakesLeast planners h in
    subst P (append_assoc history ((event_of desk step, answer) ∷ []) (replayed new steps))
    (leaves-replayed planners steps (history ++ (event_of desk step, answer) ∷ []) new (goes-on desk new (event_of desk step) answer refl refl planners history leaves))

right-found : (task : CostedTask) (job : Option AcceptedPlan) → IfSome (option_map (right_finding task) job) (IsRight task)
right-found task None = tt
right-found task (Some job) = (refl, refl)

right-event : (desk : DeskState) (step : Asked) → IsRightFinish desk.task (event_of desk step)
right-event desk (to_submit planner plan) = tt
right-event desk (to_close planner) = tt
right-event desk to_take = tt
right-event desk (to_hand_back job) = tt
right-event desk (to_finish job of) = right-found desk.task (slice_get desk.intake.jobs of)
right-event desk (to_emit planner) = tt

-- each finding that the steps hand in is right
right-replayed : (steps : List Asked) (desk : DeskState) → HasRightFindings desk.task (replayed desk steps)
unfolding replayed
right-replayed [] desk index event answer e = absurd (cc)
right-replayed (step ∷ steps) desk zero event answer e =
    let first : Event × Reply = (event_of desk step, desk_reply desk (event_of desk step)) in
    let given : Event × Reply = (event, answer) in
    let some : Some first ≡ Some given = e in
    let same : first ≡ given = cc in
    subst (IsRightFinish desk.task) (ap (λ pair. pair.0) same) (right-event desk step)
right-replayed (step ∷ steps) desk (suc index) event answer e =
    right-replayed steps (desk_after desk (event_of desk step) (desk_reply desk (event_of desk step))) index event answer e

get-take : (xs : History) (n k : ℕ) (x : Event × Reply) → slice_get (take n xs) k ≡ Some x → slice_get xs k ≡ Some x
get-take xs zero k x e = absurd (cc)
get-take [] (suc n) k x e = e
get-take (y ∷ ys) (suc n) zero x e = e
get-take (y ∷ ys) (suc n) (suc k) x e = get-take ys n k x e

-- what holds of the history of every replay
pub headline : (task : CostedTask) (planners slots : ℕ) (steps : List Asked) → Headline task planners slots (history_of task planners slots steps)
headline task planners slots steps =
    let desk : DeskState = record { task = task; slots = slots; intake = empty_intake planners } in
    let history = history_of task planners slots steps in
    let facts : IsLawful planners slots history × TakesLeast planners history = leaves-replayed planners steps [] desk (begins planners desk refl) in
    let right : HasRightFindings task history = right-replayed steps desk in
    record {
      lawful = facts.0;
      least = facts.1;
      verdicts = λ count.
          verdicts_in_order planners slots task (take count history) (lawful_prefix planners slots history count facts.0)
          (λ index event answer e. right index event answer (get-take history count index (event, answer) e));
      refusals = refusals_change_nothing history;
      after_close = refused_after_close planners slots history facts.0;
      doubled = refused_doubled planners slots history facts.0;
      strange = refused_strange planners slots history facts.0;
      whole_list = whole_list_once_closed planners slots history facts.0;
      complete = complete_is_whole planners slots history facts.0 task right;
    }

-- a push that did not fail
pub on-ok : {T E P : Type 0} (result : Result T E) → is_err result ≡ false → OnOk result P → P
on-ok (Ok x) e fact = fact
on-ok (Err x) e fact = absurd (cc)

-- nothing was left where nothing came
pub none-left : {X : Type 0} (old new : List X) → old ≡ new → new ≡ drop 1 old → old ≡ []
none-left [] new same rest = refl
none-left (x ∷ xs) new same rest = absurd (omega (arith, ap length (same ∙ rest)))

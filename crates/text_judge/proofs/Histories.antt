-- Which step of a plan changed an atom last, step by step.

use Rattle.std.proofs.Common.{◌≡◌, ◌≢◌, ℕ, ◌+◌, ◌-◌, ◌<◌, Bool, true, false, List, [], ◌∷◌, ◌++◌, Option, Some, None, length, take, refl, ap, subst, sym, ◌∙◌, arith, append_assoc}
use Rattle.std.specs.Prelude.{◌&&◌, ◌||◌, MatchOption, fold, map, not}
use Rattle.std.proofs.lemmas.List.{take_all}
use Rattle.std.proofs.Math.Seq.{take-append_seam}
use Rattle.std.proofs.lemmas.List.Sums.{fold_more}
use Rattle.std.proofs.lemmas.Option.{get_or_from_slice_get}
use Rattle.strips_task.specs.declared.actions.Action.{Action}
use Rattle.formulas.specs.declared.atoms.Atom.{Atom}
use Rattle.strips_task.specs.declared.steps.StepText.{StepText}
use Rattle.strips_task.specs.declared.tasks.TaskParts.{TaskParts}
use Rattle.formulas.specs.Tree.{Tree}
use Rattle.strips_task.specs.declared.plans.Plan.{Plan}
use Rattle.strips_task.specs.declared.plans.Plan.TheVariants.{Steps, Unreadable}
use Rattle.strips_judge.specs.declared.verdict.Why.{Why}
use Rattle.strips_judge.specs.NumberedState.{state_of}
use Rattle.strips_judge.specs.State.{State, is_in}
use Rattle.strips_judge.specs.Step.{action_named, adds_by, after, after_by, deletes_by, missing, objects_named}
use Rattle.strips_judge.specs.Verdict.{goal_verdict, verdict}
use Rattle.strips_judge.specs.Validity.{LeadTo}
use Rattle.strips_judge.proofs.Runs.{lead_none_same, lead_first}
use Rattle.plan_cost.specs.declared.assessments.Assessment.{Assessment}
use Rattle.strips_task.specs.declared.costs.CostedTask.{CostedTask}
use Rattle.plan_text.specs.PlanReading.{plan_of}
use Rattle.plan_text.specs.Walks.{Walk}
use Rattle.text_judge.specs.Judging.{Judging, HasTaken, cost_by}
use Rattle.text_judge.proofs.TakenLaws.{found_at_end}
use Rattle.text_judge.specs.declared.history.Watch.{Watch}
use Rattle.text_judge.specs.declared.place.StepPlace.{StepPlace}
use Rattle.text_judge.specs.declared.pass.Passed.{Passed}
use Rattle.text_judge.specs.declared.pass.Passed.TheVariants.{All, Fails, Unreadable as Faulty}
use Rattle.text_judge.specs.History.{state_after, steps_taken, AreLastChanges, LastChangesAreEffects}
use Rattle.text_judge.specs.Passes.{EndsPass, FailsAt, GoOnOrEnd}
use Rattle.text_judge.specs.Watches.{AreWatched, EndsWatch, IsWatched}

module _ (parts : TaskParts) where
  -- a run ends in the state after all its steps
  run_ends : (start end : State) (steps : List StepText) → LeadTo parts start steps end → end ≡ fold (after parts) start steps
  run_ends start end [] run = sym (lead_none_same parts start end run)
  run_ends start end (step ∷ steps) run = run_ends (after parts start step) end steps (lead_first parts start end step steps run).1

  pub ends_after : (end : State) (steps : List StepText) → LeadTo parts (is_in parts.init) steps end → end ≡ state_after parts steps (length steps)
  ends_after end steps run =
      run_ends (is_in parts.init) end steps run
      ∙ ap (fold (after parts) (is_in parts.init)) (let all : steps ≡ take (length steps) steps = sym (take_all (length steps) steps (omega arith)) in all)

-- what the three say of one atom: whether it was true, whether the step deletes it, and whether it adds it
by_tests : (was deleted added : Bool) → was ≢ (was && not deleted || added)
    → ((was && not deleted || added) ≡ true → added ≡ true) × ((was && not deleted || added) ≡ false → (deleted ≡ true) × (added ≡ false))
by_tests true true true differs = absurd (differs refl)
by_tests true true false differs = (λ e. cc, λ e. (refl, refl))
by_tests true false true differs = absurd (differs refl)
by_tests true false false differs = absurd (differs refl)
by_tests false deleted true differs = (λ e. refl, λ e. cc)
by_tests false true false differs = absurd (differs refl)
by_tests false false false differs = absurd (differs refl)

by_action : (parts : TaskParts) (objects : List ℕ) (before : State) (atom : Atom) (action : Option Action) → before atom ≢ after_by parts objects before action atom
    → (after_by parts objects before action atom ≡ true → is_in (adds_by parts objects before action) atom ≡ true)
    × (after_by parts objects before action atom ≡ false → (is_in (deletes_by parts objects before action) atom ≡ true) × (is_in (adds_by parts objects before action) atom ≡ false))
by_action parts objects before atom None differs = absurd (differs refl)
by_action parts objects before atom (Some action) differs =
    by_tests (before atom) (is_in (deletes_by parts objects before (Some action)) atom) (is_in (adds_by parts objects before (Some action)) atom) differs

-- the last step that changes an atom adds it, or deletes it and does not add it
pub are_effects : (parts : TaskParts) → LastChangesAreEffects parts
are_effects parts steps atom number step (changes, stays) at =
    let number_is : number ≡ number - 1 + 1 = omega (arith, changes.counted) in
    let within : number - 1 < length steps = omega (arith, changes.counted, changes.within) in
    let before = state_after parts steps (number - 1) in
    let leads : state_after parts steps number ≡ after parts before step =
    ap (state_after parts steps) number_is
    ∙ fold_more (after parts) (is_in parts.init) steps (number - 1) step within
    ∙ ap (after parts before) (get_or_from_slice_get steps (number - 1) step step at) in
    let here : state_after parts steps number atom ≡ after parts before step atom = ap (λ (s : State). s atom) leads in
    let end : state_after parts steps (length steps) atom ≡ after parts before step atom = stays (length steps) changes.within (omega arith) ∙ here in
    let effects = by_action parts (objects_named parts step.args) before atom (action_named parts step.action) (λ e. changes.differs (e ∙ sym here)) in
    (λ is. effects.0 (sym end ∙ is), λ is. effects.1 (sym end ∙ is))

-- before the first step
pub watched_first : (parts : TaskParts) (atom : Atom) (holds : Bool) → holds ≡ state_after parts [] (length {A = StepText} []) atom
    → IsWatched parts [] atom (record { is_true = holds; last = None })
watched_first parts atom holds now =
    record { now = now; last = λ k low high. ap (λ n. state_after parts [] n atom) (let none : k ≡ 0 = omega arith in none) }

-- the last changes of what is watched
pub last_of_each : (parts : TaskParts) (steps : List StepText) (atoms : List Atom) (watches : List Watch) → AreWatched parts steps atoms watches
    → AreLastChanges parts steps atoms (map (λ (watch : Watch). watch.last) watches)
last_of_each parts steps [] [] all = all
last_of_each parts steps [] (w ∷ watches) all = absurd all
last_of_each parts steps (a ∷ atoms) [] all = absurd all
last_of_each parts steps (a ∷ atoms) (w ∷ watches) all = (all.0.last, last_of_each parts steps atoms watches all.1)

-- all steps of a plan that does not fail are taken
all_of_goal : (n : ℕ) (conds : List Tree) (steps : List StepText) → steps_taken (goal_verdict n conds) steps ≡ steps
all_of_goal n [] steps = refl
all_of_goal n (cond ∷ conds) steps = refl

pub all_taken : (judging : Judging) (steps all : List StepText) → HasTaken judging steps → ◌≡◌ {A = Plan} (Steps steps) (Steps all)
    → steps_taken (verdict judging.task.task (Steps all)) all ≡ steps
all_taken judging steps all taken same =
    let is : steps ≡ all = cc in
    let found = found_at_end judging.task judging.state judging.cost judging.count (goal_verdict judging.count (missing judging.task.task (state_of judging.state) judging.task.task.goal))
    (cost_by judging.task.costs (goal_verdict judging.count (missing judging.task.task (state_of judging.state) judging.task.task.goal)) judging.cost) refl refl steps taken in
    ap (λ l. steps_taken (verdict judging.task.task (Steps l)) l) (sym is)
    ∙ ap (λ (a : Assessment). steps_taken a.verdict steps) (sym found)
    ∙ all_of_goal judging.count (missing judging.task.task (state_of judging.state) judging.task.task.goal) steps

-- of a plan that fails those before the step at which it does
pub some_taken : (walk : Walk) (task : CostedTask) (number : ℕ) (why : Why) (place : Option StepPlace) (at : FailsAt walk task number why place) (more all : List StepText)
    → ◌≡◌ {A = Plan} (Steps ((at.before ++ at.step ∷ []) ++ more)) (Steps all) → steps_taken (verdict task.task (Steps all)) all ≡ at.before
some_taken walk task number why place at more all same =
    let joined : (at.before ++ at.step ∷ []) ++ more ≡ at.before ++ at.step ∷ more = append_assoc at.before (at.step ∷ []) more in
    let is : at.before ++ at.step ∷ more ≡ all = sym joined ∙ (let inner : (at.before ++ at.step ∷ []) ++ more ≡ all = cc in inner) in
    let one_less : length at.before + 1 - 1 ≡ length at.before = omega arith in
    ap (λ l. steps_taken (verdict task.task (Steps l)) l) (sym is)
    ∙ ap (λ (a : Assessment). steps_taken a.verdict (at.before ++ at.step ∷ more)) (at.fails more)
    ∙ ap (λ n. take n (at.before ++ at.step ∷ more)) one_less
    ∙ take-append_seam at.before (at.step ∷ more)

-- how a pass ends, and how it ends for what is watched
pub ends_pass : (passed : Passed) (walk : Walk) (judging : Judging) (steps : List StepText) → GoOnOrEnd (Some passed) walk judging steps → EndsPass passed walk judging
ends_pass All walk judging steps end = (steps, end.0, end.1)
ends_pass (Fails number why place) walk judging steps (step, passed, is, fails, written) =
    record { before = steps; step = step; passed = passed; is = is; fails = fails; written = written }
ends_pass (Faulty line) walk judging steps end = end

pub ends_watch : (passed : Passed) (walk : Walk) (judging : Judging) (steps : List StepText) (atoms : List Atom) (watches : List Watch)
    → GoOnOrEnd (Some passed) walk judging steps → AreWatched judging.task.task steps atoms watches → EndsWatch passed walk judging atoms watches
ends_watch All walk judging steps atoms watches end watched = (steps, end.0, end.1, watched)
ends_watch (Fails number why place) walk judging steps atoms watches (step, passed, is, fails, written) watched =
    (record { before = steps; step = step; passed = passed; is = is; fails = fails; written = written }, watched)
ends_watch (Faulty line) walk judging steps atoms watches end watched = end

-- what is watched behind the steps that a plan takes before its verdict is clear
pub follows_all : (old : CostedTask) (judging : Judging) (steps all : List StepText) (atoms : List Atom) (watches : List Watch) (walked text : List ℕ)
    → judging.task ≡ old → HasTaken judging steps → plan_of walked ≡ Steps steps → walked ≡ text → plan_of text ≡ Steps all
    → AreWatched judging.task.task steps atoms watches → AreWatched old.task (steps_taken (verdict old.task (Steps all)) all) atoms watches
follows_all old judging steps all atoms watches walked text task taken is same_text given watched =
    let same : ◌≡◌ {A = Plan} (Steps steps) (Steps all) = sym is ∙ ap plan_of same_text ∙ given in
    subst (λ (t : CostedTask). AreWatched t.task (steps_taken (verdict t.task (Steps all)) all) atoms watches) task
    (subst (λ (l : List StepText). AreWatched judging.task.task l atoms watches) (sym (all_taken judging steps all taken same)) watched)

pub follows_some : (old : CostedTask) (walk : Walk) (judging : Judging) (number : ℕ) (why : Why) (place : Option StepPlace) (at : FailsAt walk judging.task number why place) (all : List StepText)
    (atoms : List Atom) (watches : List Watch) (text : List ℕ) (fault : Option ℕ) → judging.task ≡ old
    → MatchOption fault ((more : List StepText) × (plan_of walk.text ≡ Steps ((at.before ++ at.step ∷ []) ++ more))) (λ line. plan_of walk.text ≡ Unreadable line)
    → walk.text ≡ text → plan_of text ≡ Steps all → AreWatched judging.task.task at.before atoms watches
    → AreWatched old.task (steps_taken (verdict old.task (Steps all)) all) atoms watches
follows_some old walk judging number why place at all atoms watches text None task (more, is) same_text given watched =
    let same : ◌≡◌ {A = Plan} (Steps ((at.before ++ at.step ∷ []) ++ more)) (Steps all) = sym is ∙ ap plan_of same_text ∙ given in
    subst (λ (t : CostedTask). AreWatched t.task (steps_taken (verdict t.task (Steps all)) all) atoms watches) task
    (subst (λ (l : List StepText). AreWatched judging.task.task l atoms watches) (sym (some_taken walk judging.task number why place at more all same)) watched)
follows_some old walk judging number why place at all atoms watches text (Some line) task is same_text given watched =
    let clash : ◌≡◌ {A = Plan} (Unreadable line) (Steps all) = sym is ∙ ap plan_of same_text ∙ given in cc

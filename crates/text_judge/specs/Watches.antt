-- Atoms that are watched while the steps of a plan are taken.

use Rattle.std.specs.Prelude.{◌≡◌, List, length}
use Rattle.std.specs.List.{AllZip}
use Rattle.formulas.specs.declared.atoms.Atom.{Atom}
use Rattle.strips_task.specs.declared.steps.StepText.{StepText}
use Rattle.strips_task.specs.declared.tasks.TaskParts.{TaskParts}
use Rattle.strips_task.specs.declared.plans.Plan.TheVariants.{Steps, Unreadable}
use Rattle.plan_text.specs.PlanReading.{plan_of}
use Rattle.plan_text.specs.Walks.{Walk, HasPassed}
use Rattle.text_judge.specs.Judging.{Judging, HasTaken}
use Rattle.text_judge.specs.declared.history.Watch.{Watch}
use Rattle.text_judge.specs.declared.pass.Passed.{Passed}
use Rattle.text_judge.specs.declared.pass.Passed.TheVariants.{All, Fails, Unreadable as Faulty}
use Rattle.text_judge.specs.History.{IsLastChange, state_after}
use Rattle.text_judge.specs.Passes.{FailsAt}

-- what is kept of an atom after these steps: whether it is true, and the last of them that changed it
pub record IsWatched (parts : TaskParts) (steps : List StepText) (atom : Atom) (watch : Watch) : Type 0 where
  pub now : watch.is_true ≡ state_after parts steps (length steps) atom
  pub last : IsLastChange parts steps atom watch.last

-- what is kept of each atom after these steps, in order
abbrev pub AreWatched : TaskParts → List StepText → List Atom → List Watch → Type 0
AreWatched parts steps atoms watches = AllZip (IsWatched parts steps) atoms watches

-- a walk and a judge are after the same steps, and this is kept of the atoms
pub record WatchTogether (walk : Walk) (judging : Judging) (atoms : List Atom) (watches : List Watch) : Type 0 where
  pub steps : List StepText
  pub passed : HasPassed walk steps
  pub taken : HasTaken judging steps
  pub watched : AreWatched judging.task.task steps atoms watches

-- what is known of the watched atoms when taking the steps of a text ends
abbrev pub EndsWatch : Passed → Walk → Judging → List Atom → List Watch → Type 0
EndsWatch All walk judging atoms watches =
    (steps : List StepText) × HasTaken judging steps × (plan_of walk.text ≡ Steps steps) × AreWatched judging.task.task steps atoms watches
EndsWatch (Fails number why place) walk judging atoms watches =
    (at : FailsAt walk judging.task number why place) × AreWatched judging.task.task at.before atoms watches
EndsWatch (Faulty line) walk judging atoms watches = plan_of walk.text ≡ Unreadable line

-- The answer to the bytes of a replay: what its lines have to be.

use Rattle.std.specs.Prelude.{◌≡◌, ℕ, List, Option, Some, None, Result, Ok, Err, is_none, if◌then◌else◌}
use Rattle.std.specs.Option.{option_and_then}
use Rattle.strips_task.specs.declared.costs.CostedTask.{CostedTask}
use Rattle.pddl_syntax.specs.declared.dialect.Dialect.{Dialect}
use Rattle.pddl_syntax.specs.declared.dialect.Dialect.TheVariants.{Strips}
use Rattle.intake_rules.specs.declared.reply.Reply.{Reply}
use Rattle.intake_core.specs.Replays.{Headline, history_of, replies_of}
use Rattle.steps_text.specs.declared.fault.StepsFault.{StepsFault}
use Rattle.steps_text.specs.StepsTexts.{StepsValue, steps_text}
use Rattle.judge_engine.specs.declared.fault.Input.{Input}
use Rattle.judge_engine.specs.declared.fault.Input.TheVariants as input
use Rattle.judge_engine.specs.declared.fault.JudgeFault.{JudgeFault}
use Rattle.judge_engine.specs.declared.fault.JudgeFault.TheVariants.{TooLarge, TooManyPlanners, Domain, Problem, TooManyPlans, Steps, OutOfMemory, NoThread, Held}
use Rattle.task_reader.specs.Texts.{task_in}
use Rattle.judge_engine.specs.Answer.{is_over_limit}
use Rattle.judge_engine.specs.Refusal.{ReadingCallsFor}
use Rattle.judge_engine.specs.ReplayText.{reply_lines}

-- what a new desk answers to the steps of a steps file
abbrev pub replies_to : CostedTask → StepsValue → List Reply
replies_to task value = replies_of (history_of task value.planners value.slots value.steps)

-- the lines of a replay, if the steps file has a value
abbrev pub replay_of : CostedTask → Result StepsValue StepsFault → Option (List ℕ)
replay_of task (Ok value) = Some (reply_lines task.task (replies_to task value))
replay_of task (Err fault) = None

-- the first input that is over the limit of a file: the domain, the problem, then the steps
unfoldable pub too_large_for_replay : List ℕ → List ℕ → List ℕ → Option Input
too_large_for_replay domain problem steps =
    (if is_over_limit domain then Some input.Domain
    else if is_over_limit problem then Some input.Problem
    else if is_over_limit steps then Some input.Steps
    else None)

-- the lines of a replay, if no text is too large, the domain and the problem stand for a task in the dialect, and the steps file has no fault
unfoldable pub replay_answer_in : Dialect → List ℕ → List ℕ → List ℕ → Option (List ℕ)
replay_answer_in dialect domain problem steps =
    (if is_none (too_large_for_replay domain problem steps)
    then option_and_then (λ task. replay_of task (steps_text steps)) (task_in dialect domain problem)
    else None)

-- the lines are those of a replay whose history keeps the rules of an intake, and for which all laws of these rules hold
pub record IsLawfulReplay (dialect : Dialect) (domain problem steps : List ℕ) (lines : List ℕ) : Type 0 where
  pub task : CostedTask
  pub value : StepsValue
  pub of_texts : task_in dialect domain problem ≡ Some task
  pub of_steps : steps_text steps ≡ Ok value
  pub replies : lines ≡ reply_lines task.task (replies_of (history_of task value.planners value.slots value.steps))
  pub headline : Headline task value.planners value.slots (history_of task value.planners value.slots value.steps)

-- the lines of a replay in the default dialect
abbrev pub replay_answer : List ℕ → List ℕ → List ℕ → Option (List ℕ)
replay_answer domain problem steps = replay_answer_in Strips domain problem steps

-- the refusal that the texts of a replay call for in a dialect, the first of: a text that is too large, what is wrong in the domain or the
-- problem, the first fault of the steps
abbrev pub ReplayCallsForIn : Dialect → List ℕ → List ℕ → List ℕ → JudgeFault → Type 0
ReplayCallsForIn dialect domain problem steps (TooLarge large) = too_large_for_replay domain problem steps ≡ Some large
ReplayCallsForIn dialect domain problem steps (Domain fault) =
    (too_large_for_replay domain problem steps ≡ None) × ReadingCallsFor dialect domain problem (Domain fault)
ReplayCallsForIn dialect domain problem steps (Problem fault) =
    (too_large_for_replay domain problem steps ≡ None) × ReadingCallsFor dialect domain problem (Problem fault)
ReplayCallsForIn dialect domain problem steps (Steps fault) =
    (too_large_for_replay domain problem steps ≡ None) × ((task : CostedTask) × (task_in dialect domain problem ≡ Some task)) × (steps_text steps ≡ Err fault)
ReplayCallsForIn dialect domain problem steps TooManyPlanners = ⊥
ReplayCallsForIn dialect domain problem steps TooManyPlans = ⊥
ReplayCallsForIn dialect domain problem steps OutOfMemory = ⊥
ReplayCallsForIn dialect domain problem steps NoThread = ⊥
ReplayCallsForIn dialect domain problem steps (Held job) = ⊥

-- whether a fault is the right one for these texts, in the default dialect
abbrev pub ReplayCallsFor : List ℕ → List ℕ → List ℕ → JudgeFault → Type 0
ReplayCallsFor domain problem steps fault = ReplayCallsForIn Strips domain problem steps fault

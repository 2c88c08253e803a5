-- The answer of a replay, by what its texts are.

use Rattle.std.proofs.Common.{◌≡◌, Bool, true, false, List, ℕ, Option, Some, None, Result, Ok, Err, inl, inr, ap, refl, ◌∙◌}
use Rattle.std.specs.Prelude.{◌≢◌, ◌⊎◌, is_none, if◌then◌else◌}
use Rattle.std.specs.Option.{option_and_then}
use Rattle.strips_task.specs.declared.costs.CostedTask.{CostedTask}
use Rattle.pddl_syntax.specs.declared.dialect.Dialect.{Dialect}
use Rattle.steps_text.specs.declared.fault.StepsFault.{StepsFault}
use Rattle.steps_text.specs.StepsTexts.{StepsValue, steps_text}
use Rattle.intake_core.proofs.Runs.{headline}
use Rattle.judge_engine.specs.declared.fault.Input.{Input}
use Rattle.judge_engine.specs.declared.fault.JudgeFault.{JudgeFault}
use Rattle.judge_engine.specs.declared.fault.JudgeFault.TheVariants.{OutOfMemory, Steps}
use Rattle.task_reader.specs.Texts.{task_in}
use Rattle.judge_engine.specs.ReplayAnswer.{IsLawfulReplay, replay_answer_in, replay_of, too_large_for_replay}

abbrev read_on : List ℕ → Option CostedTask → Option (List ℕ)
read_on steps task = option_and_then (λ parts. replay_of parts (steps_text steps)) task

-- where no text is too large, the answer is by the task
within_limits : (dialect : Dialect) (domain problem steps : List ℕ) → too_large_for_replay domain problem steps ≡ None → replay_answer_in dialect domain problem steps ≡ read_on steps (task_in dialect domain problem)
unfolding replay_answer_in
within_limits dialect domain problem steps none = ap (λ (large : Option Input). if is_none large then read_on steps (task_in dialect domain problem) else None) none

-- a text that is too large leaves no answer
pub too_large_text : (dialect : Dialect) (domain problem steps : List ℕ) (large : Input) → too_large_for_replay domain problem steps ≡ Some large → replay_answer_in dialect domain problem steps ≡ None
unfolding replay_answer_in
too_large_text dialect domain problem steps which large = ap (λ (found : Option Input). if is_none found then read_on steps (task_in dialect domain problem) else None) large

-- texts that stand for no task leave none
pub no_task : (dialect : Dialect) (domain problem steps : List ℕ) → too_large_for_replay domain problem steps ≡ None → task_in dialect domain problem ≡ None → replay_answer_in dialect domain problem steps ≡ None
no_task dialect domain problem steps none task = within_limits dialect domain problem steps none ∙ ap (read_on steps) task

-- beside a task the answer is by the steps
pub of_task : (dialect : Dialect) (domain problem steps : List ℕ) (parts : CostedTask) → too_large_for_replay domain problem steps ≡ None → task_in dialect domain problem ≡ Some parts
    → replay_answer_in dialect domain problem steps ≡ replay_of parts (steps_text steps)
of_task dialect domain problem steps parts none task = within_limits dialect domain problem steps none ∙ ap (read_on steps) task

-- the refusal of a replay beside a task: want of memory, or the steps have this fault
abbrev pub RefusesSteps : List ℕ → JudgeFault → Type 0
RefusesSteps steps fault = (fault ≡ OutOfMemory) ⊎ ((e : StepsFault) × (fault ≡ Steps e) × (steps_text steps ≡ Err e))

-- steps with a fault leave no answer
pub faulty_steps : (dialect : Dialect) (domain problem steps : List ℕ) (parts : CostedTask) (fault : JudgeFault) → too_large_for_replay domain problem steps ≡ None → task_in dialect domain problem ≡ Some parts
    → RefusesSteps steps fault → fault ≢ OutOfMemory → replay_answer_in dialect domain problem steps ≡ None
faulty_steps dialect domain problem steps parts fault none task (inl memory) other = absurd (other memory)
faulty_steps dialect domain problem steps parts fault none task (inr (e, is, found)) other = of_task dialect domain problem steps parts none task ∙ ap (replay_of parts) found

-- the lines that a replay's texts call for are those of a history of which all laws of an intake hold
pub lawful_replay : (dialect : Dialect) (domain problem steps lines : List ℕ) → replay_answer_in dialect domain problem steps ≡ Some lines
    → IsLawfulReplay dialect domain problem steps lines
unfolding replay_answer_in
lawful_replay dialect domain problem steps lines e =
    by (is_none (too_large_for_replay domain problem steps)) (task_in dialect domain problem) (steps_text steps) refl refl e
  where
    by : (small : Bool) (task : Option CostedTask) (read : Result StepsValue StepsFault) → task_in dialect domain problem ≡ task → steps_text steps ≡ read
        → (if small then option_and_then (λ task. replay_of task read) task else None) ≡ Some lines → IsLawfulReplay dialect domain problem steps lines
    by false task read t s e = absurd (cc)
    by true None read t s e = absurd (cc)
    by true (Some task) (Err fault) t s e = absurd (cc)
    by true (Some task) (Ok value) t s e = record {
      task = task;
      value = value;
      of_texts = t;
      of_steps = s;
      replies = cc;
      headline = headline task value.planners value.slots value.steps;
    }

-- What a caller in C is answered.

use Rattle.std.specs.Prelude.{◌≡◌, ℕ, Bool, List, [], ◌++◌, All, codes, map, slice_get, Option, None, Some, ◌⊎◌}
use Rattle.std.specs.Option.{option_and_then}
use Rattle.std.specs.Str.{IsUtf8}
use Rattle.pddl_syntax.specs.declared.dialect.Dialect.{Dialect}
use Rattle.task_reader.specs.Texts.{task_in}
use Rattle.explanations.specs.AllValid.{all_valid_for}
use Rattle.judge_engine.specs.Answer.{answer_as, too_large}
use Rattle.judge_engine.specs.FaultText.{fault_line, fault_text}
use Rattle.judge_engine.specs.Refusal.{IsOfTexts, TextsCallForIn}
use Rattle.judge_engine.specs.declared.fault.Input.{Input}
use Rattle.judge_engine.specs.declared.fault.Input.TheVariants as input
use Rattle.judge_engine.specs.declared.fault.JudgeFault.{JudgeFault}
use Rattle.judge_engine.specs.declared.fault.JudgeFault.TheVariants.{TooLarge, TooManyPlanners, Domain, Problem, TooManyPlans, Steps, OutOfMemory, NoThread, Held}
use Rattle.plan_judge_c.specs.Inputs.{bundles_of, format_numbered, source_of}
use Rattle.c_values.specs.Dialects.{dialect_numbered}
use Rattle.plan_judge_c.specs.declared.inputs.NamedText.{NamedText}
use Rattle.plan_judge_c.specs.declared.inputs.Texts.{Texts}

-- the report on texts in the format with a number, if they have one: that of the engine
unfoldable pub report_for : Texts → ℕ → Option (List ℕ)
report_for texts number =
    option_and_then (λ dialect.
    option_and_then (λ format. answer_as dialect format texts.domain.bytes.now texts.problem.bytes.now (bundles_of texts.plans.now)) (format_numbered number))
    (dialect_numbered texts.dialect)

-- a text is over the limit of a file
abbrev pub IsTooLarge : Texts → Type 0
IsTooLarge texts = (large : Input) × (too_large texts.domain.bytes.now texts.problem.bytes.now (bundles_of texts.plans.now) ≡ Some large)

-- the fault is the one that the texts call for
abbrev pub IsCalledFor : Texts → JudgeFault → Type 0
IsCalledFor texts fault =
    (dialect : Dialect) × (dialect_numbered texts.dialect ≡ Some dialect)
    × IsOfTexts fault × TextsCallForIn dialect texts.domain.bytes.now texts.problem.bytes.now (bundles_of texts.plans.now) fault

-- the name of a file, and none if there is no file
abbrev pub name_or_none : Option NamedText → List ℕ
name_or_none None = []
name_or_none (Some file) = file.name.now

-- the name of an input
abbrev pub input_name : Texts → Input → List ℕ
input_name texts input.Domain = texts.domain.name.now
input_name texts input.Problem = texts.problem.name.now
input_name texts (input.Plans index) = name_or_none (slice_get texts.plans.now index)
input_name texts input.Steps = []

-- the name of the input that is too large, if that is the fault
abbrev pub name_in_fault : Texts → JudgeFault → List ℕ
name_in_fault texts (TooLarge large) = input_name texts large
name_in_fault texts TooManyPlanners = []
name_in_fault texts (Domain fault) = []
name_in_fault texts (Problem fault) = []
name_in_fault texts TooManyPlans = []
name_in_fault texts (Steps fault) = []
name_in_fault texts OutOfMemory = []
name_in_fault texts NoThread = []
name_in_fault texts (Held job) = []

-- the line that says why texts are refused
abbrev pub refusal_line : Texts → JudgeFault → List ℕ
refusal_line texts fault =
    fault_text (name_in_fault texts fault) (fault_line texts.domain.bytes.now texts.problem.bytes.now fault) fault ++ codes "\n"

-- all names of planners' files are UTF-8
abbrev pub AreNamesText : Texts → Type 0
AreNamesText texts = All (λ (file : NamedText). IsUtf8 file.name.now) texts.plans.now

-- whether the texts stand for a task, and all plans are valid
unfoldable pub are_valid : Texts → Bool
are_valid texts =
    all_valid_for (option_and_then (λ dialect. task_in dialect texts.domain.bytes.now texts.problem.bytes.now) (dialect_numbered texts.dialect))
    (map source_of texts.plans.now)

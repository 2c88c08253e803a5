-- A run over files.

use Rattle.std.specs.Io.KnownBytes.{Appends}
use Rattle.std.specs.Prelude.{◌≡◌, ◌⊎◌, ℕ, true, List, [], ◌∷◌, map, Option, Some}
use Rattle.std.specs.List.{AllZip}
use Rattle.pddl_syntax.specs.declared.dialect.Dialect.{Dialect}
use Rattle.report_text.specs.declared.format.Format.{Format}
use Rattle.explanations.specs.declared.source.SourceText.{SourceText}
use Rattle.explanations.specs.AllValid.{all_valid_for}
use Rattle.task_reader.specs.Texts.{task_in}
use Rattle.judge_engine.specs.Answer.{answer_as}
use Rattle.judge_engine.specs.Bundle.{BundleValue}
use Rattle.commands.specs.Command.{AsksToJudge, AsksToReplay, AsksToExplain, AsksToValidate}
use Rattle.judge_engine.specs.Inlet.{file_named}
use Rattle.judge_engine.specs.Outlet.{AppendsFront}
use Rattle.judge_engine.specs.ReplayAnswer.{replay_answer_in}

-- the file of a planner, which has the file's name
abbrev pub IsFile : (List ℕ → List ℕ → Type 0) → List ℕ → BundleValue → Type 0
IsFile MayHold name bundle = (bundle.name ≡ name) × MayHold (file_named name) bundle.bytes

-- the files of planners, in the order of their names
abbrev pub AreFiles : (List ℕ → List ℕ → Type 0) → List (List ℕ) → List BundleValue → Type 0
AreFiles MayHold [] [] = Unit {0}
AreFiles MayHold [] (bundle ∷ bundles) = ⊥
AreFiles MayHold (name ∷ names) [] = ⊥
AreFiles MayHold (name ∷ names) (bundle ∷ bundles) = IsFile MayHold name bundle × AreFiles MayHold names bundles

-- the report is the answer, in a dialect and a format, to what the files with these names may hold
pub record IsReportOver (dialect : Dialect) (format : Format) (MayHold : List ℕ → List ℕ → Type 0) (domain problem : List ℕ) (plans : List (List ℕ)) (report : List ℕ) : Type 0 where
  pub domain_text : List ℕ
  pub problem_text : List ℕ
  pub bundles : List BundleValue
  pub of_domain : MayHold (file_named domain) domain_text
  pub of_problem : MayHold (file_named problem) problem_text
  pub of_plans : AreFiles MayHold plans bundles
  pub is_answer : answer_as dialect format domain_text problem_text bundles ≡ Some report

-- a report of the run went out, and nothing else
pub record WritesReport (dialect : Dialect) (format : Format) (MayHold : List ℕ → List ℕ → Type 0) (domain problem : List ℕ) (plans : List (List ℕ)) (old new : Option (List ℕ)) : Type 0 where
  pub report : List ℕ
  pub is_report : IsReportOver dialect format MayHold domain problem plans report
  pub went_out : Appends old new report

-- the beginning of a report of the run went out, and nothing else
pub record CutsReport (dialect : Dialect) (format : Format) (MayHold : List ℕ → List ℕ → Type 0) (domain problem : List ℕ) (plans : List (List ℕ)) (old new : Option (List ℕ)) : Type 0 where
  pub report : List ℕ
  pub is_report : IsReportOver dialect format MayHold domain problem plans report
  pub went_out : AppendsFront old new report

-- the lines are the answer, in a dialect, to what the files with these names may hold
pub record IsReplayOver (dialect : Dialect) (MayHold : List ℕ → List ℕ → Type 0) (domain problem steps : List ℕ) (report : List ℕ) : Type 0 where
  pub domain_text : List ℕ
  pub problem_text : List ℕ
  pub steps_text : List ℕ
  pub of_domain : MayHold (file_named domain) domain_text
  pub of_problem : MayHold (file_named problem) problem_text
  pub of_steps : MayHold (file_named steps) steps_text
  pub is_answer : replay_answer_in dialect domain_text problem_text steps_text ≡ Some report

-- the lines of the replay went out, and nothing else
pub record WritesReplay (dialect : Dialect) (MayHold : List ℕ → List ℕ → Type 0) (domain problem steps : List ℕ) (old new : Option (List ℕ)) : Type 0 where
  pub report : List ℕ
  pub is_report : IsReplayOver dialect MayHold domain problem steps report
  pub went_out : Appends old new report

-- the beginning of the lines of the replay went out, and nothing else
pub record CutsReplay (dialect : Dialect) (MayHold : List ℕ → List ℕ → Type 0) (domain problem steps : List ℕ) (old new : Option (List ℕ)) : Type 0 where
  pub report : List ℕ
  pub is_report : IsReplayOver dialect MayHold domain problem steps report
  pub went_out : AppendsFront old new report

-- the texts that the files of plans with these names may hold, in their order
abbrev pub AreTexts : (List ℕ → List ℕ → Type 0) → List (List ℕ) → List (List ℕ) → Type 0
AreTexts MayHold names texts = AllZip (λ name text. MayHold (file_named name) text) names texts

-- all plans of what the files with these names may hold are valid for the domain and the problem that the others may hold
pub record AreAllValidOver (dialect : Dialect) (MayHold : List ℕ → List ℕ → Type 0) (domain problem : List ℕ) (plans : List (List ℕ)) : Type 0 where
  pub domain_text : List ℕ
  pub problem_text : List ℕ
  pub files : List SourceText
  pub of_domain : MayHold (file_named domain) domain_text
  pub of_problem : MayHold (file_named problem) problem_text
  pub of_plans : AreTexts MayHold plans (map (λ file. file.bytes.now) files)
  pub are_valid : all_valid_for (task_in dialect domain_text problem_text) files ≡ true

-- the report that a command line asks for went out, and nothing else
pub record WritesJudged (MayHold : List ℕ → List ℕ → Type 0) (words : List (List ℕ)) (old new : Option (List ℕ)) : Type 0 where
  pub dialect : Dialect
  pub format : Format
  pub domain : List ℕ
  pub problem : List ℕ
  pub plans : List (List ℕ)
  pub asked : AsksToJudge words dialect format domain problem plans
  pub written : WritesReport dialect format MayHold domain problem plans old new

-- the replay that a command line asks for went out, and nothing else
pub record WritesReplayed (MayHold : List ℕ → List ℕ → Type 0) (words : List (List ℕ)) (old new : Option (List ℕ)) : Type 0 where
  pub dialect : Dialect
  pub domain : List ℕ
  pub problem : List ℕ
  pub steps : List ℕ
  pub asked : AsksToReplay words dialect domain problem steps
  pub written : WritesReplay dialect MayHold domain problem steps old new

-- all plans that a command line asks to explain are valid
pub record AreExplainedValid (MayHold : List ℕ → List ℕ → Type 0) (words : List (List ℕ)) : Type 0 where
  pub dialect : Dialect
  pub domain : List ℕ
  pub problem : List ℕ
  pub plans : List (List ℕ)
  pub asked : AsksToExplain words dialect domain problem plans
  pub valid : AreAllValidOver dialect MayHold domain problem plans

-- all plans that a command line asks to validate are valid
pub record AreValidated (MayHold : List ℕ → List ℕ → Type 0) (words : List (List ℕ)) : Type 0 where
  pub dialect : Dialect
  pub domain : List ℕ
  pub problem : List ℕ
  pub plans : List (List ℕ)
  pub asked : AsksToValidate words dialect domain problem plans
  pub valid : AreAllValidOver dialect MayHold domain problem plans

-- what a command line asks for went out; if it is an explanation or to validate, all plans are valid
abbrev pub Answers : (List ℕ → List ℕ → Type 0) → List (List ℕ) → Option (List ℕ) → Option (List ℕ) → Type 0
Answers MayHold words old new = WritesJudged MayHold words old new ⊎ WritesReplayed MayHold words old new ⊎ AreExplainedValid MayHold words ⊎ AreValidated MayHold words

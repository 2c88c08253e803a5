-- What is answered once the numbers are known.

use Rattle.std.proofs.Common.{◌≡◌, ℕ, ◌+◌, ◌<◌, ◌≤◌, zero, suc, List, [], ◌∷◌, length, map, get_or, Some, ap, arith}
use Rattle.std.proofs.lemmas.List.{get_or_default, length-map}
use Rattle.std.specs.Option.{option_and_then}
use Rattle.pddl_syntax.specs.declared.dialect.Dialect.{Dialect}
use Rattle.report_text.specs.declared.format.Format.{Format}
use Rattle.task_reader.specs.Texts.{task_in}
use Rattle.explanations.specs.AllValid.{all_valid_for}
use Rattle.judge_engine.specs.Answer.{answer_as}
use Rattle.judge_engine.specs.declared.fault.Input.TheVariants as input
use Rattle.judge_engine.specs.declared.inlet.TheConstants.{FILE_LIMIT}
use Rattle.judge_engine.proofs.TooLarge.{large_from, large_here, large_later}
use Rattle.plan_judge_c.specs.Answers.{are_valid, report_for}
use Rattle.plan_judge_c.specs.Inputs.{bundle_of, bundles_of, format_numbered, source_of}
use Rattle.c_values.specs.Dialects.{dialect_numbered}
use Rattle.plan_judge_c.specs.declared.inputs.NamedText.{NamedText}
use Rattle.plan_judge_c.specs.declared.inputs.Texts.{Texts}

-- the report is the engine's
pub report_is : (texts : Texts) (number : ℕ) (dialect : Dialect) (format : Format) → dialect_numbered texts.dialect ≡ Some dialect → format_numbered number ≡ Some format
    → report_for texts number ≡ answer_as dialect format texts.domain.bytes.now texts.problem.bytes.now (bundles_of texts.plans.now)
unfolding report_for
report_is texts number dialect format d f =
    (λ j. option_and_then (λ x. option_and_then (λ y. answer_as x y texts.domain.bytes.now texts.problem.bytes.now (bundles_of texts.plans.now)) (f j)) (d j))

-- whether all plans are valid is what an explanation says
pub valid_is : (texts : Texts) (dialect : Dialect) → dialect_numbered texts.dialect ≡ Some dialect
    → are_valid texts ≡ all_valid_for (task_in dialect texts.domain.bytes.now texts.problem.bytes.now) (map source_of texts.plans.now)
unfolding are_valid
valid_is texts dialect d =
    ap (λ numbered. all_valid_for (option_and_then (λ x. task_in x texts.domain.bytes.now texts.problem.bytes.now) numbered) (map source_of texts.plans.now)) d

-- a file of a list is a planner's file of the list of these
pub bundle_at : (files : List NamedText) (i : ℕ) (file : NamedText) → i < length files → file ≡ get_or files i file → bundle_of file ≡ get_or (bundles_of files) i (bundle_of file)
bundle_at [] i file lt is = absurd (omega arith)
bundle_at (f ∷ files) zero file lt is = ap bundle_of is
bundle_at (f ∷ files) (suc i) file lt is = bundle_at files i file (omega (arith, lt)) is

-- and there are as many
pub bundle_within : (files : List NamedText) (i : ℕ) → i < length files → i < length (bundles_of files)
bundle_within files i lt = omega (arith, length-map files bundle_of, lt)

-- a file that is too large is told, and any other is passed over
module _ (files : List NamedText) (i : ℕ) (empty : NamedText) (lt : i < length files) where
  abbrev file : NamedText
  file = get_or files i empty

  is : bundle_of file ≡ get_or (bundles_of files) i (bundle_of file)
  is = bundle_at files i file lt (get_or_default files i empty file lt)

  pub large_file : FILE_LIMIT < length file.bytes.now → large_from i (bundles_of files) ≡ Some (input.Plans i)
  large_file h = large_here (bundles_of files) i (bundle_of file) (bundle_within files i lt) is h

  pub small_file : length file.bytes.now ≤ FILE_LIMIT → large_from i (bundles_of files) ≡ large_from (i + 1) (bundles_of files)
  small_file h = large_later (bundles_of files) i (bundle_of file) (bundle_within files i lt) is h

-- What a caller in C hands in.

use Rattle.std.specs.Prelude.{ℕ, nat_lt, Bool, ◌&&◌, ◌||◌, List, map, Option, Some, None, ◌==◌, if◌then◌else◌}
use Rattle.report_text.specs.declared.format.Format.{Format}
use Rattle.report_text.specs.declared.format.Format.TheVariants.{Lines, Table, Json}
use Rattle.explanations.specs.declared.source.SourceText.{SourceText}
use Rattle.judge_engine.specs.Bundle.{BundleValue}
use Rattle.plan_judge_c.specs.declared.inputs.NamedText.{NamedText}

-- the format with a number
abbrev pub format_numbered : ℕ → Option Format
format_numbered number = if number == 0 then Some Lines else if number == 1 then Some Table else if number == 2 then Some Json else None

-- explanations can be asked for by these numbers: as a text for people or as JSON, with what each step changes, with warnings, with both or with neither
abbrev pub is_asked : ℕ → ℕ → Bool
is_asked format extras = ((format == 0) || (format == 2)) && nat_lt extras 4

-- a file as a planner's file
abbrev pub bundle_of : NamedText → BundleValue
bundle_of file = record { name = file.name.now; bytes = file.bytes.now }

-- files as planners' files
abbrev pub bundles_of : List NamedText → List BundleValue
bundles_of files = map bundle_of files

-- a file as an explanation takes it
abbrev pub source_of : NamedText → SourceText
source_of file = record { name = file.name; bytes = file.bytes }

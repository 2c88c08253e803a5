-- The dialect and the format that the words of a command line name.

use Rattle.std.specs.Prelude.{ℕ, Bool, true, List, Option, Some, None, codes, bytes_eq, nat_eq, nat_lt, not, ◌||◌, if◌then◌else◌}
use Rattle.std.specs.List.{list_all}
use Rattle.pddl_syntax.specs.declared.dialect.Dialect.{Dialect}
use Rattle.pddl_syntax.specs.declared.dialect.Dialect.TheVariants.{Strips, Ipc, Adl}
use Rattle.report_text.specs.declared.format.Format.{Format}
use Rattle.report_text.specs.declared.format.Format.TheVariants.{Lines, Table, Json}
use Rattle.command_line.specs.Words.{value_of}

-- the dialect with a name
abbrev pub dialect_named : List ℕ → Option Dialect
dialect_named name =
    if bytes_eq name (codes "strips") then Some Strips else if bytes_eq name (codes "ipc") then Some Ipc else if bytes_eq name (codes "adl") then Some Adl else None

-- the format with a name
abbrev pub format_named : List ℕ → Option Format
format_named name =
    if bytes_eq name (codes "lines") then Some Lines else if bytes_eq name (codes "tsv") then Some Table else if bytes_eq name (codes "json") then Some Json else None

-- the dialect that is named, or STRIPS if none is
abbrev pub dialect_or_default : Option (List ℕ) → Option Dialect
dialect_or_default None = Some Strips
dialect_or_default (Some name) = dialect_named name

-- the dialect of the option `--dialect`
abbrev pub dialect_asked : List (List ℕ) → Option Dialect
dialect_asked words = dialect_or_default (value_of (codes "--dialect") words)

-- the format that is named, or lines if none is
abbrev pub format_or_default : Option (List ℕ) → Option Format
format_or_default None = Some Lines
format_or_default (Some name) = format_named name

-- the format of the option `--format`
abbrev pub format_asked : List (List ℕ) → Option Format
format_asked words = format_or_default (value_of (codes "--format") words)

-- a byte that moves the cursor of a terminal or ends a line
abbrev pub is_control : ℕ → Bool
is_control byte = nat_lt byte 32 || nat_eq byte 127

-- the name has no such byte
abbrev pub is_plain : List ℕ → Bool
is_plain name = list_all (λ byte. not (is_control byte)) name

-- a report in this format can show planners with these names: in lines, a name with a line end would look like other lines; the other formats escape it
abbrev pub can_show : Format → List (List ℕ) → Bool
can_show Lines names = list_all is_plain names
can_show Table names = true
can_show Json names = true

-- The numbers by which a caller in C names dialects.

use Rattle.std.specs.Prelude.{ℕ, Option, Some, None, ◌==◌, if◌then◌else◌}
use Rattle.pddl_syntax.specs.declared.dialect.Dialect.{Dialect}
use Rattle.pddl_syntax.specs.declared.dialect.Dialect.TheVariants.{Strips, Ipc, Adl}

-- the dialect with a number
abbrev pub dialect_numbered : ℕ → Option Dialect
dialect_numbered number = if number == 0 then Some Strips else if number == 1 then Some Ipc else if number == 2 then Some Adl else None

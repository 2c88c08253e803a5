-- What the answer of the check of bytes and parentheses says.

use Rattle.std.specs.Prelude.{◌≡◌, Option, Some, None, Result, Ok, Err}
use Rattle.pddl_syntax.specs.declared.fault.ReadFault.{ReadFault}

-- the reader finds the first fault, if there is one
abbrev pub FirstFault : Result (Unit {0}) ReadFault → Option ReadFault → Type 0
FirstFault (Ok _) found = found ≡ None
FirstFault (Err e) found = found ≡ Some e

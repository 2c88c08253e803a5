-- Inlets: which file a name stands for, and when a get has failed.

use Rattle.std.specs.Prelude.{ℕ, Bool, true, false, List, Result, Ok, Err, codes, bytes_eq, if◌then◌else◌}

-- a get fails if it is refused
abbrev pub get_fails : {E : Type 0} → Result ℕ E → Bool
get_fails (Ok count) = false
get_fails (Err _) = true

-- the file that a word of the command line names: `-` is standard input
abbrev pub file_named : List ℕ → List ℕ
file_named name = if bytes_eq name (codes "-") then codes "/dev/stdin" else name

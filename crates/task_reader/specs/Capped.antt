-- Products that are kept only up to one more than the limit.

use Rattle.std.specs.Prelude.{ℕ, zero, suc, ◌+◌, ◌*◌, min, nat_lt, List, [], ◌∷◌, if◌then◌else◌, Option, None, Some}
use Rattle.std.specs.Option.{option_map}
use Rattle.task_reader.specs.Bindings.{most_bindings}

-- a number, or one more than the limit if it is larger
unfoldable pub capped : ℕ → ℕ
capped number = min number (most_bindings + 1)

-- the same number several times
abbrev pub repeated : ℕ → ℕ → List ℕ
repeated zero number = []
repeated (suc n) number = number ∷ repeated n number

-- the index of the first of some variables of the same types with which the limit is passed, if it is
abbrev pub past_in_group : ℕ → ℕ → ℕ → ℕ → Option ℕ
past_in_group counted product count zero = None
past_in_group counted product count (suc n) =
    if nat_lt most_bindings (counted + product * count) then Some 0 else option_map (λ index. index + 1) (past_in_group counted (product * count) count n)

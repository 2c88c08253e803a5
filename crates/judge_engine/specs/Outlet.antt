-- Outlets: when a put has failed, and what went out if one has.

use Rattle.std.specs.Io.KnownBytes.{Appends}
use Rattle.std.specs.Prelude.{◌<◌, take, Option, ℕ, Bool, true, ◌&&◌, nat_eq, nat_lt, List, length, Result, Ok, Err}

-- a put fails if it is refused, or if it takes none of the bytes although there are some
abbrev pub put_fails : {E : Type 0} → Result ℕ E → List ℕ → Bool
put_fails (Ok count) bytes = nat_eq count 0 && nat_lt 0 (length bytes)
put_fails (Err _) bytes = true

-- only the first `count` of these bytes went out, which are not all
pub record AppendsFront (old new : Option (List ℕ)) (bytes : List ℕ) : Type 0 where
  pub count : ℕ
  pub short : count < length bytes
  pub front : Appends old new (take count bytes)

-- The number by which an atom is hashed.

use Rattle.std.specs.Prelude.{ℕ, ◌+◌, ◌*◌, ◌^◌, ◌%◌, List, fold}

-- a predicate and its first arguments as the digits of a number to the base 2^16: up to three arguments fit into 64 bits
abbrev pub front : ℕ → List ℕ → ℕ
front pred args = fold (λ word arg. (word * 65536 % 2 ^ 64 + arg) % 2 ^ 64) pred args

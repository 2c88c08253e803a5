-- What is said of a number that may be found.

use Rattle.std.proofs.Common.{ℕ, Option, None, Some, IfSome}

-- what follows of each number follows of the one that is found
pub follows : (found : Option ℕ) (P Q : ℕ → Type 0) → ((number : ℕ) → P number → Q number) → IfSome found P → IfSome found Q
follows None P Q then h = h
follows (Some number) P Q then h = then number h

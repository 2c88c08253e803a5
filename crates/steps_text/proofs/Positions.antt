-- Where no byte passes a test, the index of the first that does is the length.

use Rattle.std.proofs.Common.{◌≡◌, ℕ, ◌≤◌, Bool, true, false, List, length, Some, None, refl, sym, arith}
use Rattle.std.specs.Prelude.{nat_lt, cond}
use Rattle.std.specs.List.{position, position_or_len}
use Rattle.std.proofs.lemmas.Bool.{ltb-false}
use Rattle.std.proofs.lemmas.Option.{none-some}
use Rattle.std.proofs.lemmas.List.Sums.{prefix_len-le-length}

by_test : (n m : ℕ) (b : Bool) → nat_lt n m ≡ b → None ≡ cond b (Some n) None → n ≤ m → m ≡ n
by_test n m true is none within = absurd (none-some n none)
by_test n m false is none within = omega (arith, ltb-false n m is)

pub none_passes : (p : ℕ → Bool) (xs : List ℕ) → position p xs ≡ None → length xs ≡ position_or_len p xs
none_passes p xs none = by_test (position_or_len p xs) (length xs) (nat_lt (position_or_len p xs) (length xs)) refl (sym none) (prefix_len-le-length _ xs)

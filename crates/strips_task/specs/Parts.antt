-- Many lists that are kept in one piece, with the ends of the parts.

use Rattle.std.specs.Prelude.{◌≡◌, ℕ, ◌-◌, ◌≤◌, List, [], ◌∷◌, take, drop}

-- the parts of a list from an index on, each up to its end
unfoldable pub parts_from : List ℕ → ℕ → List ℕ → List (List ℕ)
parts_from xs start [] = []
parts_from xs start (end ∷ ends) = take (end - start) (drop start xs) ∷ parts_from xs end ends

-- no end is less than the one before it, and the last is the end of the list
unfoldable pub AreEnds : ℕ → List ℕ → ℕ → Type 0
AreEnds start [] total = start ≡ total
AreEnds start (end ∷ ends) total = (start ≤ end) × AreEnds end ends total

-- The parts of a bundle, the file in which one planner gives its plans (this validator's choice of what separates them).

use Rattle.std.specs.Prelude.{ℕ, Bool, List, [], ◌∷◌, ◌==◌, ◌&&◌, ◌||◌, map, drop, nat_eq, codes, Option, Some, None, if◌then◌else◌}
use Rattle.std.specs.List.{concat, list_all, onto_first, slice_split, starts_with}

-- the lines of a text, each with the LF (10) that ends it; the last may have none
unfoldable pub lines : List ℕ → List (List ℕ)
lines [] = []
lines (b ∷ text) = if b == 10 then (b ∷ []) ∷ lines text else onto_first b (lines text)

-- a byte that may follow the dashes of a separator: a space (32), a tab (9), a CR (13), or the LF of the line
abbrev pub may_follow_dashes : ℕ → Bool
may_follow_dashes b = b == 32 || b == 9 || b == 13 || b == 10

-- three dashes
abbrev pub dashes : List ℕ
dashes = codes "---"

-- a separator is a line of three dashes followed by nothing but spaces, tabs and CRs
unfoldable pub is_separator : List ℕ → Bool
is_separator line = starts_with nat_eq line dashes && list_all may_follow_dashes (drop 3 line)

-- the parts of a bundle: the runs of lines between separators, the lines of each joined again
unfoldable pub parts : List ℕ → List (List ℕ)
parts bundle = map concat (slice_split is_separator (lines bundle))

-- the parts of a bundle from an offset on
abbrev pub parts_from : List ℕ → ℕ → List (List ℕ)
parts_from bundle start = parts (drop start bundle)

-- the parts after one of them: those from an offset on, or none
abbrev pub parts_behind : List ℕ → Option ℕ → List (List ℕ)
parts_behind bundle None = []
parts_behind bundle (Some next) = parts_from bundle next

-- Where the first line of a text ends, and where its first separator is.

use Rattle.std.specs.Prelude.{◌≡◌, ℕ, ◌<◌, ◌≤◌, List, [], ◌∷◌, ◌++◌, length, take, drop, slice_range, Option, Some, None, IfSome}
use Rattle.plan_text.specs.declared.parts.Line.{Line}
use Rattle.plan_text.specs.declared.parts.PartEnd.{PartEnd}
use Rattle.plan_text.specs.Bundle.{lines, parts, parts_from, parts_behind}

-- the first line of a text, if it has one, has this many bytes
pub record CutsLine (text : List ℕ) (size : ℕ) : Type 0 where
  pub within : size ≤ length text
  pub some : 0 < length text → 0 < size
  pub first : 0 < length text → lines text ≡ take size text ∷ lines (drop size text)

-- bytes before the first of several parts
abbrev pub onto_part : List ℕ → List (List ℕ) → List (List ℕ)
onto_part front [] = front ∷ []
onto_part front (part ∷ parts) = (front ++ part) ∷ parts

-- the parts of a text are those of what begins at an offset, with the bytes before it put before the first of them: so no line that ends up to
-- there is a separator
abbrev pub IsOnePartTo : List ℕ → ℕ → Type 0
IsOnePartTo text offset = parts text ≡ onto_part (take offset text) (parts (drop offset text))

-- the first separator of a text divides it into the first part and the rest; without one the text is one part
abbrev pub IsFirstSeparator : Option Line → List ℕ → Type 0
IsFirstSeparator None text = parts text ≡ text ∷ []
IsFirstSeparator (Some line) text =
    (line.start ≤ line.end) × (line.end ≤ length text) × (parts text ≡ take line.start text ∷ parts (drop line.end text))

-- where the first part of a bundle from an offset on ends, and where the other parts begin, if there are any
pub record IsFirstPart (part : PartEnd) (bundle : List ℕ) (start : ℕ) : Type 0 where
  pub ordered : start ≤ part.end
  pub within : part.end ≤ length bundle
  pub behind : IfSome part.next (λ next. next ≤ length bundle)
  pub first : parts_from bundle start ≡ slice_range bundle start part.end ∷ parts_behind bundle part.next

-- the parts of what is left of a bundle; none if nothing is left, not even an empty part
abbrev pub parts_left : Option (List ℕ) → List (List ℕ)
parts_left None = []
parts_left (Some rest) = parts rest

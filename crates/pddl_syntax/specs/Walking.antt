-- One step of a walk over the trees of a text.

use Rattle.std.specs.Prelude.{◌≡◌, List, [], ◌∷◌}
use Rattle.pddl_syntax.specs.declared.walk.Item.{Item}
use Rattle.pddl_syntax.specs.declared.walk.Item.TheVariants.{Open, Close, Text}
use Rattle.pddl_syntax.specs.Trees.{none, word, list, Trees}
use Rattle.pddl_syntax.specs.Levels.{Levels}

-- the levels after the `)` of the innermost open list
unfoldable pub behind : List Trees → Levels
behind [] = record { top = none; below = [] }
behind (others ∷ below) = record { top = others; below = below }

-- the walk steps into a list
abbrev pub Opens : Levels → Levels → Type 0
Opens old new = (old.top ≡ list new.top (behind new.below).top) × (old.below ≡ (behind new.below).below)

-- the walk steps over a word, into a list, or out of the list that it is in
abbrev pub Steps : Item → Levels → Levels → Type 0
Steps (Text w) old new = (old.top ≡ word w.text.now new.top) × (new.below ≡ old.below)
Steps (Open span) old new = Opens old new
Steps (Close span) old new = (old.top ≡ none) × (new ≡ behind old.below)

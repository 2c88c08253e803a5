-- The trees of a text are those that its tokens spell.

use Rattle.std.specs.Prelude.{◌≡◌, ℕ, List, None}
use Rattle.pddl_tokens.specs.Tokens.{pieces}
use Rattle.pddl_syntax.specs.Trees.{Spells, text_fault}
use Rattle.pddl_syntax.specs.Levels.{trees}

-- the tokens of a text without a text fault spell its trees
abbrev pub AreTreesSpelled : Type 0
AreTreesSpelled = (text : List ℕ) → text_fault text ≡ None → Spells (pieces text) (trees text)

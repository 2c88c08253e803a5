-- How many words and lists there are in trees.

use Rattle.std.specs.Prelude.{ℕ, ◌+◌, List, [], ◌∷◌}
use Rattle.pddl_syntax.specs.Trees.{Trees, none, word, list}
use Rattle.pddl_syntax.specs.Levels.{Levels}

-- how many words and lists there are, at all depths
abbrev pub size : Trees → ℕ
size none = 0
size (word w others) = 1 + size others
size (list inside others) = 1 + size inside + size others

-- how many words and lists there are in several lists of trees
abbrev pub sizes : List Trees → ℕ
sizes [] = 0
sizes (trees ∷ more) = size trees + sizes more

-- how many words and lists are left
abbrev pub ahead : Levels → ℕ
ahead levels = size levels.top + sizes levels.below

-- The types that follow a dash, and what is left of the list after them.

use Rattle.std.specs.Prelude.{ℕ, List, [], ◌∷◌, Option, Some, None}
use Rattle.std.specs.Option.{option_map}
use Rattle.pddl_words.specs.Words.{is_name}
use Rattle.pddl_syntax.specs.Optional.{guard}
use Rattle.pddl_syntax.specs.Trees.{Trees, none, word, list}
use Rattle.pddl_syntax.specs.Syntax.{either_in}

-- the types at the front, and what follows them
pub record Typing : Type 0 where
  pub types : List (List ℕ)
  pub others : Trees

-- types and what follows them
abbrev pub typing : Trees → List (List ℕ) → Typing
typing others types = record { types = types; others = others }

-- the types at the front: a name, or `(either N+)`
unfoldable pub typing_of : Trees → Option Typing
typing_of none = None
typing_of (word w others) = guard (is_name w) (Some (typing others (w ∷ [])))
typing_of (list inside others) = option_map (typing others) (either_in inside)

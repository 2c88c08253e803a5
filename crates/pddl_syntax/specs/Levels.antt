-- What is left of each open list, from a token of a text on.

use Rattle.std.specs.Prelude.{ℕ, List, [], ◌∷◌, Option, Some, None}
use Rattle.std.specs.Option.{option_map, option_and_then}
use Rattle.pddl_tokens.specs.declared.spans.TokenKind.TheVariants.{Left, Right, Word}
use Rattle.pddl_tokens.specs.Tokens.{Piece, token, bad, pieces}
use Rattle.pddl_syntax.specs.Trees.{Trees, none, word, list}

-- what is left of the innermost open list, and of each list around it, from the inside out
pub record Levels : Type 0 where
  pub top : Trees
  pub below : List Trees

-- the levels before a word
abbrev pub before_word : List ℕ → Levels → Levels
before_word text levels = record { top = word text levels.top; below = levels.below }

-- the levels before a list, from what it holds and the levels after it
abbrev pub around : Trees → List Trees → Option Levels
around inside [] = None
around inside (others ∷ below) = Some (record { top = list inside others; below = below })

-- the levels before a `(`, from those within its list
abbrev pub before_left : Levels → Option Levels
before_left levels = around levels.top levels.below

-- the levels before a `)`, from those after its list
abbrev pub before_right : Levels → Levels
before_right levels = record { top = none; below = levels.top ∷ levels.below }

-- the levels before the tokens, read from the text's end; none if a byte is bad or a `(` has no `)`
unfoldable pub levels : List Piece → Option Levels
levels [] = Some (record { top = none; below = [] })
levels (bad at ∷ more) = None
levels (token Word span text ∷ more) = option_map (before_word text) (levels more)
levels (token Left span text ∷ more) = option_and_then before_left (levels more)
levels (token Right span text ∷ more) = option_map before_right (levels more)

-- the levels that there are, or those at the end of a text
abbrev pub or_end : Option Levels → Levels
or_end None = record { top = none; below = [] }
or_end (Some found) = found

-- the levels before the tokens
unfoldable pub here : List Piece → Levels
here tokens = or_end (levels tokens)

-- the trees that a text spells
unfoldable pub trees : List ℕ → Trees
trees text = (here (pieces text)).top

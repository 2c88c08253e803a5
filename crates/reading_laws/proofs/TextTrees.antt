-- The tokens of a text without a text fault spell its trees.

use Rattle.std.proofs.Common.{◌≡◌, ℕ, List, [], ◌∷◌, length, Option, Some, None, refl, subst, arith}
use Rattle.std.specs.Option.{option_map, option_and_then}
use Rattle.pddl_tokens.specs.declared.spans.Span.{Span}
use Rattle.pddl_tokens.specs.declared.spans.TokenKind.TheVariants.{Left, Right, Word}
use Rattle.pddl_tokens.specs.Tokens.{Piece, token, bad, pieces}
use Rattle.pddl_syntax.specs.Trees.{Trees, SpelledBefore}
use Rattle.pddl_syntax.specs.Levels.{Levels, before_word, before_left, before_right, around, levels, or_end, here, trees}
use Rattle.reading_laws.specs.TextTrees.{AreTreesSpelled}
use Rattle.pddl_syntax.proofs.Balanced.{HasDepth, closed_without_fault}

-- the tokens begin with a `)` for each of the lists that are open, and what follows it in the list around spells the trees there
abbrev pub Close : List Trees → List Piece → Type 0
Close [] tokens = tokens ≡ []
Close (others ∷ below) tokens =
    (span : Span) × (text : List ℕ) × (more : List Piece) × (rest : List Piece) ×
    (tokens ≡ token Right span text ∷ more) × SpelledBefore others more rest × Close below rest

-- the tokens spell what is left of the lists that are open
abbrev pub SpellLevels : List Piece → Levels → Type 0
SpellLevels tokens found = (rest : List Piece) × SpelledBefore found.top tokens rest × Close found.below rest

-- the same, if there are levels
abbrev pub SpellAny : List Piece → Option Levels → Type 0
SpellAny tokens None = Unit {0}
SpellAny tokens (Some found) = SpellLevels tokens found

word_spelled : (span : Span) (text : List ℕ) (more : List Piece) (after : Option Levels) → SpellAny more after →
    SpellAny (token Word span text ∷ more) (option_map (before_word text) after)
word_spelled span text more None h = tt
word_spelled span text more (Some l) (rest, top, below) = (rest, (span, more, refl, top), below)

around_spelled : (span : Span) (text : List ℕ) (more : List Piece) (inside : Trees) (below : List Trees) →
    SpellLevels more (record { top = inside; below = below }) → SpellAny (token Left span text ∷ more) (around inside below)
around_spelled span text more inside [] h = tt
around_spelled span text more inside (others ∷ below) (rest, top, (right, closing, next, after, is, behind, outside)) =
    (after, (span, right, text, closing, more, next, refl, subst (λ r. SpelledBefore inside more r) is top, behind), outside)

left_spelled : (span : Span) (text : List ℕ) (more : List Piece) (after : Option Levels) → SpellAny more after →
    SpellAny (token Left span text ∷ more) (option_and_then before_left after)
left_spelled span text more None h = tt
left_spelled span text more (Some l) h = around_spelled span text more l.top l.below h

right_spelled : (span : Span) (text : List ℕ) (more : List Piece) (after : Option Levels) → SpellAny more after →
    SpellAny (token Right span text ∷ more) (option_map before_right after)
right_spelled span text more None h = tt
right_spelled span text more (Some l) (rest, top, below) = (token Right span text ∷ more, refl, (span, text, more, rest, refl, top, below))

-- tokens spell the levels before them
levels_spelled : (tokens : List Piece) → SpellAny tokens (levels tokens)
unfolding levels
levels_spelled [] = ([], refl, refl)
levels_spelled (bad at ∷ more) = tt
levels_spelled (token Word span text ∷ more) = word_spelled span text more (levels more) (levels_spelled more)
levels_spelled (token Left span text ∷ more) = left_spelled span text more (levels more) (levels_spelled more)
levels_spelled (token Right span text ∷ more) = right_spelled span text more (levels more) (levels_spelled more)

-- where no list is open nothing follows the trees
top_spelled : (tokens : List Piece) (found : Option Levels) → HasDepth 0 found → SpellAny tokens found → SpelledBefore (or_end found).top tokens []
top_spelled tokens None closed h = absurd closed
top_spelled tokens (Some l) closed (rest, top, below) = subst (λ r. SpelledBefore l.top tokens r) (at_end l.below closed below) top
  where
    at_end : (below : List Trees) → length below ≡ 0 → Close below rest → rest ≡ []
    at_end [] few h = h
    at_end (others ∷ more) few h = absurd (omega arith)

pub trees_spelled : AreTreesSpelled
unfolding trees here
trees_spelled text h = top_spelled (pieces text) (levels (pieces text)) (closed_without_fault text h) (levels_spelled (pieces text))

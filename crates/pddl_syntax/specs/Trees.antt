-- The trees that a text spells by its parentheses, and where its bytes or parentheses go wrong.

use Rattle.std.specs.Prelude.{ℕ, zero, suc, ◌+◌, ◌^◌, nat_le, Bool, true, false, List, [], ◌∷◌, length, Option, Some, None, if◌then◌else◌, ◌≡◌}
use Rattle.pddl_tokens.specs.declared.spans.Span.{Span}
use Rattle.pddl_tokens.specs.declared.spans.TokenKind.TheVariants.{Left, Right, Word}
use Rattle.pddl_tokens.specs.Lexeme.{pieces_at}
use Rattle.pddl_tokens.specs.Tokens.{Piece, token, bad, pieces}
use Rattle.pddl_syntax.specs.declared.fault.FaultKind.TheVariants.{BadText, Unbalanced, TooDeep}
use Rattle.pddl_syntax.specs.declared.fault.ReadFault.{ReadFault}
use Rattle.pddl_syntax.specs.ReadFault.{fault}

-- a list of trees: its first is a word, or a list of trees in parentheses, and others follow
pub data Trees : Type 0 where
  none : Trees
  word : List ℕ → Trees → Trees
  list : Trees → Trees → Trees

-- whether a list is at the front
unfoldable pub begins_with_list : Trees → Bool
begins_with_list none = false
begins_with_list (word text others) = false
begins_with_list (list inside others) = true

-- the tokens begin with a spelling of the trees, and `rest` follows it
abbrev pub SpelledBefore : Trees → List Piece → List Piece → Type 0
SpelledBefore none tokens rest = tokens ≡ rest
SpelledBefore (word text others) tokens rest =
    (span : Span) × (more : List Piece) × (tokens ≡ token Word span text ∷ more) × SpelledBefore others more rest
SpelledBefore (list inside others) tokens rest =
    (left : Span) × (right : Span) × (opening : List ℕ) × (closing : List ℕ) × (more : List Piece) × (after : List Piece) ×
    (tokens ≡ token Left left opening ∷ more) × SpelledBefore inside more (token Right right closing ∷ after) × SpelledBefore others after rest

-- the tokens spell the trees
abbrev pub Spells : List Piece → Trees → Type 0
Spells tokens trees = SpelledBefore trees tokens []

-- no tokens spell two different lists of trees
abbrev pub AreTreesUnique : Type 0
AreTreesUnique = (tokens : List Piece) (one other : Trees) → Spells tokens one → Spells tokens other → one ≡ other

-- the first fault of the tokens of a text that ends at `end`, if `depth` lists are open: a bad byte, a `)` that closes no list,
-- a `(` inside 64 lists, or the end inside a list
unfoldable pub fault_from : ℕ → ℕ → List Piece → Option ReadFault
fault_from end zero [] = None
fault_from end (suc depth) [] = Some (fault Unbalanced end end)
fault_from end depth (bad at ∷ more) = Some (fault BadText at (at + 1))
fault_from end depth (token Word span text ∷ more) = fault_from end depth more
fault_from end depth (token Left span text ∷ more) =
    (if nat_le 64 depth then Some (record { kind = TooDeep; span = span }) else fault_from end (depth + 1) more)
fault_from end zero (token Right span text ∷ more) = Some (record { kind = Unbalanced; span = span })
fault_from end (suc depth) (token Right span text ∷ more) = fault_from end depth more

-- the first fault of a text from `at` on, if `depth` lists are open there
abbrev pub fault_after : List ℕ → ℕ → ℕ → Option ReadFault
fault_after text at depth = fault_from (length text) depth (pieces_at text at)

-- the fault of a text: a length of 2^31 bytes or more, or otherwise the first fault of its tokens (this validator's choice)
unfoldable pub text_fault : List ℕ → Option ReadFault
text_fault text = (if nat_le (2 ^ 31) (length text) then Some (fault BadText 0 0) else fault_from (length text) 0 (pieces text))

-- How a plan is written: the tokens of a plan text, and which steps they stand for (this validator's choice of the usual format of planners).

use Rattle.std.specs.Prelude.{◌≡◌, ℕ, ◌≤◌, List, [], ◌∷◌, ◌++◌, length, map, All, IsTrue, IfSome, Option, Some, None}
use Rattle.std.specs.Option.{option_map}
use Rattle.std.specs.List.{filter_map, flat_map}
use Rattle.std.specs.List.Sorted.{IsStrictlyIncreasing}
use Rattle.pddl_words.specs.Words.{is_name, folded}
use Rattle.pddl_tokens.specs.declared.spans.TokenKind.{TokenKind}
use Rattle.pddl_tokens.specs.declared.spans.TokenKind.TheVariants.{Left, Right, Word}
use Rattle.pddl_tokens.specs.Tokens.{Piece, token, bad}
use Rattle.pddl_words.specs.Decimals.{Decimal, IsDecimal, decimal_bytes, billionths}
use Rattle.strips_task.specs.declared.steps.StepText.{StepText}

-- how many steps a plan may have
abbrev pub most_steps : ℕ
most_steps = 1000000

-- a token without its span
pub data Symbol : Type 0 where
  left : Symbol
  right : Symbol
  word : List ℕ → Symbol

-- the symbol of a token
abbrev pub symbol_of : TokenKind → List ℕ → Symbol
symbol_of Left text = left
symbol_of Right text = right
symbol_of Word text = word text

-- the tokens of a text without their spans, up to its first bad byte
unfoldable pub symbols : List Piece → List Symbol
symbols [] = []
symbols (bad at ∷ pieces) = []
symbols (token kind span text ∷ pieces) = symbol_of kind text ∷ symbols pieces

-- the word of a stamp: a number and `:` (58)
abbrev pub stamp_word : Decimal → List ℕ
stamp_word number = decimal_bytes number ++ 58 ∷ []

-- the word of a bracketed number: `[` (91), the number, `]` (93)
abbrev pub bracket_word : Decimal → List ℕ
bracket_word number = 91 ∷ (decimal_bytes number ++ 93 ∷ [])

-- a step as it is written: perhaps a stamp, words of upper and lower case, and perhaps a bracketed number
pub record WrittenStep : Type 0 where
  pub stamp : Option Decimal
  pub action : List ℕ
  pub args : List (List ℕ)
  pub number : Option Decimal

-- one word, or none
abbrev pub perhaps : (Decimal → List ℕ) → Option Decimal → List Symbol
perhaps spelled None = []
perhaps spelled (Some number) = word (spelled number) ∷ []

-- the tokens of a step: its stamp, `(`, the action's name, the names of the objects, `)`, its bracketed number
abbrev pub step_symbols : WrittenStep → List Symbol
step_symbols step =
    perhaps stamp_word step.stamp ++ (left ∷ word step.action ∷ (map word step.args ++ right ∷ perhaps bracket_word step.number))

-- the words of a step are names, and its numbers are decimal numbers
pub record IsStep (step : WrittenStep) : Type 0 where
  pub stamp : IfSome step.stamp IsDecimal
  pub action : IsTrue (is_name step.action)
  pub args : All (λ name. IsTrue (is_name name)) step.args
  pub number : IfSome step.number IsDecimal

-- the step that is meant: case is not significant, and stamps and bracketed numbers don't matter
abbrev pub meant : WrittenStep → StepText
meant step = record { action = folded step.action; args = map folded step.args }

-- the values of the stamps that occur, in billionths
abbrev pub stamps : List WrittenStep → List ℕ
stamps written = filter_map (λ step. option_map billionths step.stamp) written

-- tokens are a plan text for these steps if they are the tokens of written steps, one after the other, that mean these steps. There are
-- not too many, and each stamp is larger than the one before it
pub record IsPlanText (tokens : List Symbol) (steps : List StepText) : Type 0 where
  pub written : List WrittenStep
  pub spelled : tokens ≡ flat_map step_symbols written
  pub are_steps : All IsStep written
  pub rising : IsStrictlyIncreasing (stamps written)
  pub read : steps ≡ map meant written
  pub few : length written ≤ most_steps

-- tokens are viable if some plan text begins with them
pub record IsViable (tokens : List Symbol) : Type 0 where
  pub more : List Symbol
  pub steps : List StepText
  pub completed : IsPlanText (tokens ++ more) steps

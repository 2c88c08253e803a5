-- Where the fault of a text that is no plan text is, and which plan a text stands for.

use Rattle.std.specs.Prelude.{◌≡◌, ℕ, ◌<◌, ◌≤◌, ◌^◌, ◌⊎◌, List, [], ◌∷◌, ◌++◌, length}
use Rattle.pddl_tokens.specs.Tokens.{Piece, token, bad, pieces}
use Rattle.pddl_tokens.specs.Lines.{line_of}
use Rattle.strips_task.specs.declared.plans.Plan.{Plan}
use Rattle.strips_task.specs.declared.plans.Plan.TheVariants.{Steps, Unreadable}
use Rattle.strips_task.specs.declared.steps.StepText.{StepText}
use Rattle.plan_text.specs.PlanGrammar.{Symbol, symbol_of, symbols, IsPlanText, IsViable}

-- there is no bad byte among the pieces
abbrev pub AreTokens : List Piece → Type 0
AreTokens [] = Unit {0}
AreTokens (bad at ∷ ps) = ⊥
AreTokens (token kind span bytes ∷ ps) = AreTokens ps

-- where a piece begins
abbrev pub offset_of : Piece → ℕ
offset_of (bad at) = at
offset_of (token kind span bytes) = span.start

-- no plan text begins with these tokens and this piece: it is a bad byte, or a token with which they are no longer viable
abbrev pub Refuses : List Symbol → Piece → Type 0
Refuses tokens (bad at) = Unit {0}
Refuses tokens (token kind span bytes) = IsViable (tokens ++ symbol_of kind bytes ∷ []) → ⊥

-- the first piece such that no plan text begins with the tokens up to and including it is at this offset
pub record IsFaultAt (text : List ℕ) (offset : ℕ) : Type 0 where
  pub before : List Piece
  pub fault : Piece
  pub behind : List Piece
  pub split : pieces text ≡ before ++ fault ∷ behind
  pub tokens : AreTokens before
  pub viable : IsViable (symbols before)
  pub refused : Refuses (symbols before) fault
  pub begins : offset ≡ offset_of fault

-- some plan text begins with the text's tokens, but they are not a plan text themselves
pub record EndsTooEarly (text : List ℕ) : Type 0 where
  pub tokens : AreTokens (pieces text)
  pub viable : IsViable (symbols (pieces text))
  pub no_plan : (steps : List StepText) → IsPlanText (symbols (pieces text)) steps → ⊥

-- the text is a plan text for these steps
pub record IsTextOf (text : List ℕ) (steps : List StepText) : Type 0 where
  pub short : length text < 2 ^ 31
  pub tokens : AreTokens (pieces text)
  pub plan : IsPlanText (symbols (pieces text)) steps

-- the text is no plan text, and its fault is in this line: that of the first fault, or of the end of a text that ends too early
pub record IsFaultLine (text : List ℕ) (line : ℕ) : Type 0 where
  pub short : length text < 2 ^ 31
  pub offset : ℕ
  pub fault : IsFaultAt text offset ⊎ (EndsTooEarly text × (offset ≡ length text))
  pub in_line : line ≡ line_of text offset

-- the text stands for this plan; one of 2^31 bytes or more is unreadable in its first line
abbrev pub IsPlanOf : List ℕ → Plan → Type 0
IsPlanOf text (Steps steps) = IsTextOf text steps
IsPlanOf text (Unreadable line) = ((2 ^ 31 ≤ length text) × (line ≡ 1)) ⊎ IsFaultLine text line

-- How a plan text is read, token by token.

use Rattle.std.specs.Prelude.{ℕ, ◌+◌, ◌^◌, ◌==◌, nat_lt, nat_le, List, [], ◌∷◌, ◌++◌, length, Option, Some, None, if◌then◌else◌}
use Rattle.pddl_words.specs.Words.{is_name, folded}
use Rattle.pddl_tokens.specs.Tokens.{Piece, token, bad, pieces}
use Rattle.pddl_tokens.specs.Lines.{line_of}
use Rattle.strips_task.specs.declared.plans.Plan.{Plan}
use Rattle.strips_task.specs.declared.plans.Plan.TheVariants.{Steps, Unreadable}
use Rattle.strips_task.specs.declared.steps.StepText.{StepText}
use Rattle.strips_task.specs.Steps.{step_of}
use Rattle.plan_text.specs.declared.want.Want.{Want}
use Rattle.plan_text.specs.declared.want.Want.TheVariants.{Step, Number, Opening, Action, Argument}
use Rattle.plan_text.specs.MarkedNumbers.{number_before}
use Rattle.plan_text.specs.PlanGrammar.{Symbol, left, right, word, symbol_of, most_steps}

-- what was read: what may come next, the least value of the next stamp in billionths, the finished steps, and the words of the open step
pub record Reading : Type 0 where
  pub want : Want
  pub least : ℕ
  pub steps : List StepText
  pub words : List (List ℕ)

-- nothing was read
abbrev pub nothing_read : Reading
nothing_read = record { want = Step; least = 0; steps = []; words = [] }

-- the same, except for what may come next
abbrev pub then_want : Want → Reading → Reading
then_want want r = record { want = want; least = r.least; steps = r.steps; words = r.words }

-- a step may begin, unless there are as many as there may be
abbrev pub begun : Reading → Option Reading → Option Reading
begun r next = if nat_lt (length r.steps) most_steps then next else None

-- after a stamp of this value: the next one must be larger
abbrev pub risen : Reading → Option ℕ → Option Reading
risen r None = None
risen r (Some value) = if nat_le r.least value then Some (record { want = Opening; least = value + 1; steps = r.steps; words = r.words }) else None

-- after a stamp before a step
abbrev pub stamped : Reading → List ℕ → Option Reading
stamped r text = begun r (risen r (number_before 58 text))

-- after a bracketed number, of which only the form counts
abbrev pub numbered : Reading → Option ℕ → Option Reading
numbered r None = None
numbered r (Some value) = Some (then_want Step r)

-- after a word that follows a step: a bracketed number if it begins with `[` (91), and otherwise the stamp of the next step
abbrev pub followed : Reading → List ℕ → Option Reading
followed r [] = None
followed r (b ∷ text) = if b == 91 then numbered r (number_before 93 text) else stamped r (b ∷ text)

-- after a word inside a step
abbrev pub named : Reading → List ℕ → Option Reading
named r text =
    if is_name text then Some (record { want = Argument; least = r.least; steps = r.steps; words = r.words ++ folded text ∷ [] }) else None

-- after a `)` that ends a step
abbrev pub closed : Reading → Reading
closed r = record { want = Number; least = r.least; steps = r.steps ++ step_of r.words ∷ []; words = [] }

-- after a token, by what may come next; `None` if the token may not come here
abbrev pub by_want : Want → Reading → Symbol → Option Reading
by_want Step r left = begun r (Some (then_want Action r))
by_want Step r right = None
by_want Step r (word text) = stamped r text
by_want Number r left = begun r (Some (then_want Action r))
by_want Number r right = None
by_want Number r (word text) = followed r text
by_want Opening r left = Some (then_want Action r)
by_want Opening r right = None
by_want Opening r (word text) = None
by_want Action r left = None
by_want Action r right = None
by_want Action r (word text) = named r text
by_want Argument r left = None
by_want Argument r right = Some (closed r)
by_want Argument r (word text) = named r text

-- after one more token
unfoldable pub read_on : Reading → Symbol → Option Reading
read_on r symbol = by_want r.want r symbol

-- the plan of a text that cannot be read on at this offset: unreadable in its line
abbrev pub unreadable : List ℕ → ℕ → Plan
unreadable text offset = Unreadable (line_of text offset)

-- the plan at the end of a text: no step may be open, and no stamp may wait for its step
abbrev pub at_end : Want → List ℕ → List StepText → Plan
at_end Step text steps = Steps steps
at_end Number text steps = Steps steps
at_end Opening text steps = unreadable text (length text)
at_end Action text steps = unreadable text (length text)
at_end Argument text steps = unreadable text (length text)

-- the plan of a text, by whether the token at this offset could be read on
abbrev pub behind : List ℕ → ℕ → (Reading → Plan) → Option Reading → Plan
behind text offset rest None = unreadable text offset
behind text offset rest (Some r) = rest r

-- the plan of the rest of a text
unfoldable pub plan_from : List ℕ → Reading → List Piece → Plan
plan_from text r [] = at_end r.want text r.steps
plan_from text r (bad at ∷ pieces) = unreadable text at
plan_from text r (token kind span bytes ∷ pieces) =
    behind text span.start (λ next. plan_from text next pieces) (read_on r (symbol_of kind bytes))

-- the plan of a text; one of 2^31 bytes or more is unreadable in its first line
unfoldable pub plan_of : List ℕ → Plan
plan_of text = if nat_lt (length text) (2 ^ 31) then plan_from text nothing_read (pieces text) else Unreadable 1

-- A walk over the steps of a plan text, and what it finds.

use Rattle.std.specs.Prelude.{◌≡◌, ℕ, ◌<◌, ◌≤◌, List, [], ◌∷◌, ◌++◌, length}
use Rattle.pddl_tokens.specs.declared.spans.TokenKind.TheVariants.{Left, Right, Word}
use Rattle.pddl_tokens.specs.Tokens.{Piece, token, bad}
use Rattle.strips_task.specs.declared.steps.StepText.{StepText}
use Rattle.plan_text.specs.declared.want.Want.{Want}
use Rattle.plan_text.specs.declared.want.Want.TheVariants.{Step, Number, Opening, Action, Argument}
use Rattle.plan_text.specs.PlanReading.{Reading, plan_from, plan_of}
use Rattle.plan_text.specs.PlanGrammar.{most_steps}

-- where a walk is: the text, its pieces that are left, what may come next, the least value of the next stamp in billionths, and how many
-- steps were passed
pub record Walk : Type 0 where
  pub text : List ℕ
  pub rest : List Piece
  pub want : Want
  pub least : ℕ
  pub count : ℕ

-- a step may begin, or the text end
abbrev pub IsBetween : Want → Type 0
IsBetween Step = Unit {0}
IsBetween Number = Unit {0}
IsBetween Opening = ⊥
IsBetween Action = ⊥
IsBetween Argument = ⊥

-- a walk may rest here, after `count` steps: a step may begin, or the text may end, or a stamp was read and its step must begin
abbrev pub RestsAt : Want → ℕ → Type 0
RestsAt Step count = Unit {0}
RestsAt Number count = Unit {0}
RestsAt Opening count = count < most_steps
RestsAt Action count = ⊥
RestsAt Argument count = ⊥

-- what was read when these steps were passed
abbrev pub reading_behind : Want → ℕ → List StepText → Reading
reading_behind want least steps = record { want = want; least = least; steps = steps; words = [] }

-- these are the steps that were passed: reading what is left after them gives the plan of the text
pub record HasPassed (walk : Walk) (steps : List StepText) : Type 0 where
  pub counted : length steps ≡ walk.count
  pub few : walk.count ≤ most_steps
  pub rests : RestsAt walk.want walk.count
  pub same : plan_from walk.text (reading_behind walk.want walk.least steps) walk.rest ≡ plan_of walk.text

-- a walk passes one more step of the same text, and less of the text is left
pub record GoesBehind (old new : Walk) (step : StepText) : Type 0 where
  pub text : new.text ≡ old.text
  pub shorter : length new.rest < length old.rest
  pub passed : (steps : List StepText) → HasPassed old steps → HasPassed new (steps ++ step ∷ [])

-- a walk goes on in the same text and passes no step
pub record GoesOn (old new : Walk) : Type 0 where
  pub text : new.text ≡ old.text
  pub passed : (steps : List StepText) → HasPassed old steps → HasPassed new steps

-- the words before the first piece that is no word
abbrev pub words_before : List Piece → List (List ℕ)
words_before [] = []
words_before (bad at ∷ pieces) = []
words_before (token Left span bytes ∷ pieces) = []
words_before (token Right span bytes ∷ pieces) = []
words_before (token Word span bytes ∷ pieces) = bytes ∷ words_before pieces

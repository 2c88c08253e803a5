-- What a walk over the steps of a plan text finds next.

use Rattle.std.specs.Prelude.{◌≡◌, ℕ, ◌<◌, ◌≤◌, Bool, true, false, List, [], ◌∷◌, ◌++◌, length, map, IfSome, Option, Some, None, Result, Ok, Err}
use Rattle.std.specs.List.{list_all}
use Rattle.std.specs.Option.{option_copied}
use Rattle.pddl_words.specs.Words.{is_name, folded}
use Rattle.pddl_tokens.specs.declared.scan.ParenRange.{ParenRange}
use Rattle.pddl_tokens.specs.declared.spans.TokenKind.{TokenKind}
use Rattle.pddl_tokens.specs.declared.spans.TokenKind.TheVariants.{Right, Word}
use Rattle.pddl_tokens.specs.Tokens.{Piece}
use Rattle.pddl_tokens.specs.ParenRanges.{IsPlain, range_pieces}
use Rattle.pddl_tokens.specs.Within.{AreWithin}
use Rattle.strips_task.specs.declared.plans.Plan.TheVariants.{Steps, Unreadable}
use Rattle.strips_task.specs.declared.steps.StepText.{StepText}
use Rattle.strips_task.specs.Steps.{step_of}
use Rattle.strips_task.specs.Spelled.{IsSpelled, step_spelled}
use Rattle.plan_text.specs.declared.want.Want.{Want}
use Rattle.plan_text.specs.declared.want.Want.TheVariants as w
use Rattle.plan_text.specs.declared.want.Expected.{Expected}
use Rattle.plan_text.specs.declared.walk.Opening.{Opening}
use Rattle.plan_text.specs.declared.walk.Opening.TheVariants as o
use Rattle.plan_text.specs.declared.walk.Between.{Between}
use Rattle.plan_text.specs.declared.walk.Between.TheVariants as b
use Rattle.plan_text.specs.declared.walk.Onward.{Onward}
use Rattle.plan_text.specs.declared.walk.Onward.TheVariants as n
use Rattle.plan_text.specs.declared.walk.Inside.{Inside}
use Rattle.plan_text.specs.declared.walk.Inside.TheVariants as i
use Rattle.plan_text.specs.declared.walk.TextStep.{TextStep}
use Rattle.plan_text.specs.declared.walk.TextStep.TheVariants as t
use Rattle.plan_text.specs.PlanGrammar.{most_steps, symbol_of}
use Rattle.plan_text.specs.PlanReading.{Reading, plan_from, plan_of, read_on, unreadable}
use Rattle.plan_text.specs.Walks.{Walk, RestsAt, HasPassed, GoesBehind, GoesOn, reading_behind, words_before}

-- a step may come next, and if its key is plain, this range comes next
pub record ComesNext (walk : Walk) (range : ParenRange) : Type 0 where
  pub room : walk.count < most_steps
  pub rests : RestsAt walk.want walk.count
  pub first : IsPlain range.key.now → walk.rest ≡ range_pieces range.start range.key.now ++ range.rest
  pub within : IsPlain range.key.now → AreWithin (length walk.text) range.rest

-- a step of these words, which are names, came next and was passed; if there is a key, it spells the step
pub record IsStepFound (old new : Walk) (words : List (List ℕ)) (key : Option (List ℕ)) : Type 0 where
  pub some : 0 < length words
  pub names : list_all is_name words ≡ true
  pub behind : GoesBehind old new (step_of (map folded words))
  pub spelled : IfSome key (λ row. IsSpelled row × (step_spelled row ≡ step_of (map folded words)))

-- what a walk finds next: a step, which it passes, or the end of the text or a fault, where it stays
abbrev pub IsFound : TextStep → Walk → Walk → Type 0
IsFound (t.Step words key) old new = IsStepFound old new words (option_copied key)
IsFound t.End old new = (new ≡ old) × ((steps : List StepText) → HasPassed old steps → plan_of old.text ≡ Steps steps)
IsFound (t.Unreadable line) old new = (new ≡ old) × ((steps : List StepText) → HasPassed old steps → plan_of old.text ≡ Unreadable line)

-- a stamp or a number was passed and no step, or what was found
abbrev pub IsOnward : Onward → Walk → Walk → Type 0
IsOnward n.Number old new = GoesOn old new × (length new.rest < length old.rest)
IsOnward (n.Found found) old new = IsFound found old new

-- a step was opened: its stamp, if it has one, and its `(` were read
pub record IsOpened (text : List ℕ) (expected : Expected) (count least : ℕ) (old new : List Piece) : Type 0 where
  pub room : count < most_steps
  pub shorter : length new < length old
  pub within : AreWithin (length text) new
  pub same :
      (steps : List StepText) → length steps ≡ count
      → plan_from text (reading_behind expected.want expected.least_stamp steps) old ≡ plan_from text (reading_behind w.Action least steps) new

-- the text can't be read on at this offset, or ends there too early
pub record IsStuck (text : List ℕ) (expected : Expected) (count offset : ℕ) (old : List Piece) : Type 0 where
  pub within : offset ≤ length text
  pub same :
      (steps : List StepText) → length steps ≡ count
      → plan_from text (reading_behind expected.want expected.least_stamp steps) old ≡ unreadable text offset

-- what follows `count` steps, where `old` and `new` are the pieces that are left before and after it
abbrev pub IsOpening : Opening → List ℕ → Expected → ℕ → List Piece → List Piece → Type 0
IsOpening o.End text expected count old new =
    (steps : List StepText) → length steps ≡ count → plan_from text (reading_behind expected.want expected.least_stamp steps) old ≡ Steps steps
IsOpening (o.Fault offset) text expected count old new = IsStuck text expected count offset old
IsOpening (o.Open least) text expected count old new = IsOpened text expected count least old new

-- a stamp or a number was read, after which `next` may come, and this is what is left
pub record IsNumberRead (text : List ℕ) (expected : Expected) (count : ℕ) (next : Expected) (old new : List Piece) : Type 0 where
  pub rests : RestsAt next.want count
  pub shorter : length new < length old
  pub within : AreWithin (length text) new
  pub same :
      (steps : List StepText) → length steps ≡ count
      → plan_from text (reading_behind expected.want expected.least_stamp steps) old ≡ plan_from text (reading_behind next.want next.least_stamp steps) new

-- what comes next after `count` steps, where `old` and `new` are the pieces that are left before and after it
abbrev pub IsBetweenSteps : Between → List ℕ → Expected → ℕ → List Piece → List Piece → Type 0
IsBetweenSteps (b.Number next) text expected count old new = IsNumberRead text expected count next old new
IsBetweenSteps (b.Over opening) text expected count old new = IsOpening opening text expected count old new

-- what the end of a text of this length means if no step is open
abbrev pub ended : Want → ℕ → Opening
ended w.Step size = o.End
ended w.Number size = o.End
ended w.Opening size = o.Fault size
ended w.Action size = o.End
ended w.Argument size = o.End

-- what may come inside a step that has some word or none
abbrev pub want_inside : Bool → Want
want_inside false = w.Action
want_inside true = w.Argument

-- what was read inside a step, with the words so far
abbrev pub reading_inside : Bool → ℕ → List StepText → List (List ℕ) → Reading
reading_inside some least steps words = record { want = want_inside some; least = least; steps = steps; words = words }

-- what a token is inside a step that has some word or none
abbrev pub IsInside : Inside → Bool → TokenKind → List ℕ → Type 0
IsInside i.Name some kind text = (kind ≡ Word) × (is_name text ≡ true)
IsInside i.Close some kind text = (kind ≡ Right) × (some ≡ true)
IsInside i.Fault some kind text =
    (least : ℕ) (steps : List StepText) (words : List (List ℕ)) → read_on (reading_inside some least steps words) (symbol_of kind text) ≡ None

-- a step was closed: the words before the `)` are those of the step, and names
pub record IsClosed (text : List ℕ) (old new : List Piece) : Type 0 where
  pub some : 0 < length (words_before old)
  pub names : list_all is_name (words_before old) ≡ true
  pub shorter : length new ≤ length old
  pub within : AreWithin (length text) new
  pub same :
      (least : ℕ) (steps : List StepText)
      → plan_from text (reading_behind w.Action least steps) old
      ≡ plan_from text (reading_behind w.Number least (steps ++ step_of (map folded (words_before old)) ∷ [])) new

-- a step can't be read on at this offset, or the text ends there too early
pub record IsBroken (text : List ℕ) (offset : ℕ) (old : List Piece) : Type 0 where
  pub within : offset ≤ length text
  pub same : (least : ℕ) (steps : List StepText) → plan_from text (reading_behind w.Action least steps) old ≡ unreadable text offset

-- how an open step goes on
abbrev pub IsEnding : Result (Unit {0}) ℕ → List ℕ → List Piece → List Piece → Type 0
IsEnding (Ok u) text old new = IsClosed text old new
IsEnding (Err offset) text old new = IsBroken text offset old

-- the first word is taken, if there is one
abbrev pub TakesWord : Option (List ℕ) → List (List ℕ) → List (List ℕ) → Type 0
TakesWord None old new = (old ≡ []) × (new ≡ old)
TakesWord (Some word) old new = old ≡ word ∷ new

-- Steps that are written as rows: the names of a step, with a space between each two.

use Rattle.std.proofs.Common.{◌≡◌, ◌≢◌, ℕ, suc, ◌+◌, ◌<◌, ◌-◌, Bool, true, false, List, [], ◌∷◌, ◌++◌, length, map, slice_get, Option, Some, refl, sym, ap, ◌∙◌, arith, append_assoc, length-append, codes}
use Rattle.std.specs.Prelude.{if◌then◌else◌, unwrap_or}
use Rattle.std.specs.Char.{to_ascii_lowercase}
use Rattle.std.specs.Cmp.{unsigned_Decides}
use Rattle.std.specs.List.{onto_first}
use Rattle.std.specs.Option.{option_map}
use Rattle.std.proofs.lemmas.List.{length-map}
use Rattle.std.proofs.lemmas.List.Splits.{length-slice_split}
use Rattle.std.proofs.lemmas.Option.{slice_get-map}
use Rattle.pddl_words.specs.SpacedWords.{is_space, words_of}
use Rattle.pddl_words.specs.Words.{folded}
use Rattle.strips_task.specs.declared.steps.StepText.{StepText}
use Rattle.strips_task.specs.declared.tasks.TaskParts.{TaskParts}
use Rattle.strips_task.specs.Spelled.{step_spelled}
use Rattle.strips_task.specs.Steps.{step_of}
use Rattle.strips_judge.specs.declared.verdict.Why.{Why}
use Rattle.report_text.specs.Pieces.{name_at, spaced}
use Rattle.report_text.specs.Report.{step_text, why_text, failure_text}

-- the names of a step, with a space between each two
abbrev pub names_text : StepText → List ℕ
names_text step = step.action ++ spaced step.args

some_words : (row : List ℕ) → words_of row ≢ []
some_words row none = let size : length (words_of row) ≡ 0 = ap length none in omega (arith, length-slice_split is_space row, size)

-- a row has a name, so one was read if none is left
pub some_read : (row : List ℕ) (words left : List (List ℕ)) → left ≡ [] → words ++ map folded left ≡ map folded (words_of row) → 0 < length words
some_read row words left none all =
    let read : length words + length (map folded left) ≡ length (map folded (words_of row)) = sym (length-append words (map folded left)) ∙ ap length all in
    let over : length (map folded left) ≡ 0 = ap (λ (l : List (List ℕ)). length (map folded l)) none in
    omega (arith, read, over, length-map (words_of row) folded, length-slice_split is_space row)

byte_more : (b : ℕ) (bytes : List ℕ) (words : List (List ℕ)) (space : Bool) → words ≢ [] → is_space b ≡ space → names_text (step_of (map folded words)) ≡ folded bytes
    → names_text (step_of (map folded (if space then [] ∷ words else onto_first b words))) ≡ folded (b ∷ bytes)
unfolding step_of
byte_more b bytes [] space some is same = absurd (some refl)
byte_more b bytes (word ∷ words) true some is same =
    let space : b ≡ 32 = (unsigned_Decides b 32).0 is in
    ap (λ (l : List ℕ). 32 ∷ l) same ∙ ap (λ (n : ℕ). to_ascii_lowercase n ∷ folded bytes) (sym space)
byte_more b bytes (word ∷ words) false some is same = ap (λ (l : List ℕ). to_ascii_lowercase b ∷ l) same

-- a row in lower case is the names of the step that it spells
row_names : (row : List ℕ) → names_text (step_spelled row) ≡ folded row
unfolding step_of
row_names [] = refl
row_names (b ∷ bytes) = byte_more b bytes (words_of bytes) (is_space b) (some_words bytes) refl (row_names bytes)

names_failure : (step : StepText) (names why : List ℕ) → names_text step ≡ names
    → ((codes " (" ++ names) ++ codes "): ") ++ why ≡ codes " " ++ step_text step ++ codes ": " ++ why
names_failure step names why is = rw (← is) (simp append_assoc)

-- a row between parentheses shows the step that it spells
pub row_failure : (task : TaskParts) (row : List ℕ) (why : Why)
    → ((codes " (" ++ folded row) ++ codes "): ") ++ why_text task (step_spelled row) why ≡ failure_text task (Some (step_spelled row)) why
row_failure task row why = names_failure (step_spelled row) (folded row) (why_text task (step_spelled row) why) (row_names row)

args_behind : (words : List (List ℕ)) (index : ℕ) → slice_get (step_of words).args index ≡ slice_get words (suc index)
unfolding step_of
args_behind [] index = refl
args_behind (word ∷ words) index = refl

-- the arguments of a step that a row spells are the words behind the first
pub row_argument : (row : List ℕ) (number index : ℕ) (found : Option (List ℕ)) → found ≡ slice_get (words_of row) index → index ≡ suc (number - 1)
    → unwrap_or (option_map folded found) [] ≡ name_at (step_spelled row).args (number - 1)
row_argument row number index found is at =
    ap (λ (name : Option (List ℕ)). unwrap_or name [])
    (ap (option_map folded) (is ∙ ap (slice_get (words_of row)) at)
    ∙ sym (slice_get-map folded (words_of row) (suc (number - 1)))
    ∙ sym (args_behind (map folded (words_of row)) (number - 1)))

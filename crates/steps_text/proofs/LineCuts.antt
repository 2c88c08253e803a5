-- A text is cut into lines at its LFs.

use Rattle.std.proofs.Common.{◌≡◌, ℕ, zero, suc, ◌+◌, ◌<◌, ◌≤◌, Bool, true, false, List, [], ◌∷◌, length, take, drop, refl, ap, ◌∙◌, arith, get_or, add-one, Option, Some, None}
use Rattle.std.specs.Prelude.{◌==◌, cond, MatchOption}
use Rattle.memchr.specs.Find.{IsFirstByte, is_byte}
use Rattle.std.specs.List.{onto_first}
use Rattle.std.proofs.lemmas.List.Splits.{length-slice_split}
use Rattle.std.proofs.lemmas.List.Sums.{count_by-le-length}
use Rattle.steps_text.specs.StepsTexts.{lines}

is_not : (t : Bool) → (t ≡ true → ⊥) → t ≡ false
is_not true other = absurd (other refl)
is_not false other = refl

abbrev pub is_lf : ℕ → Bool
is_lf b = b == 10

-- the byte at an index is an LF
abbrev pub IsLf : List ℕ → ℕ → Type 0
IsLf text k = is_lf (get_or text k 0) ≡ true

abbrev behind_first : ℕ → List ℕ → Bool → List (List ℕ)
behind_first b text ends = cond ends ([] ∷ lines text) (onto_first b (lines text))

-- the first line ends at the first LF
pub cut_at_lf : (text : List ℕ) (k : ℕ) → k < length text → ((j : ℕ) → j < k → IsLf text j → ⊥) → IsLf text k → lines text ≡ take k text ∷ lines (drop (suc k) text)
cut_at_lf [] k within before at = absurd (omega arith)
cut_at_lf (b ∷ text) zero within before at = ap (behind_first b text) at
cut_at_lf (b ∷ text) (suc k) within before at =
    ap (behind_first b text) (is_not (is_lf b) (before 0 (omega arith)))
    ∙ ap (onto_first b) (cut_at_lf text k (omega arith) (λ j lt. before (suc j) (omega arith)) at)

-- without an LF there is one line
pub one_line : (text : List ℕ) → ((j : ℕ) → j < length text → IsLf text j → ⊥) → lines text ≡ text ∷ []
one_line [] none = refl
one_line (b ∷ text) none =
    ap (behind_first b text) (is_not (is_lf b) (none 0 (omega arith)))
    ∙ ap (onto_first b) (one_line text (λ j lt. none (suc j) (omega arith)))

-- there is at most one line more than there are bytes
pub few_lines : (text : List ℕ) → length (lines text) ≤ length text + 1
few_lines text = omega (arith, length-slice_split is_lf text, count_by-le-length is_lf text)

-- there is at least one line
pub some_line : (text : List ℕ) → 0 < length (lines text)
some_line text = omega (arith, length-slice_split is_lf text)

-- the first line of a text by where its first LF was found
pub cut_by : (text : List ℕ) (found : Option ℕ) → IsFirstByte (is_byte 10) text found
    → MatchOption found (lines text ≡ text ∷ []) (λ end. lines text ≡ take end text ∷ lines (drop (end + 1) text))
cut_by text (Some end) found = rw add-one (cut_at_lf text end found.0.high (λ j lt. found.0.before j (omega arith) lt) found.1)
cut_by text None found = one_line text (λ j lt. found j (omega arith) lt)

-- The first line of a text.

use Rattle.std.proofs.Common.{◌≡◌, ℕ, zero, suc, ◌<◌, Bool, true, false, List, [], ◌∷◌, length, take, drop, refl, ap, ◌∙◌, arith, get_or}
use Rattle.std.specs.Prelude.{◌==◌, cond}
use Rattle.std.specs.List.{onto_first}
use Rattle.plan_text.specs.Bundle.{lines}

is_not : (t : Bool) → (t ≡ true → ⊥) → t ≡ false
is_not true other = absurd (other refl)
is_not false other = refl

-- the byte at an offset is an LF
abbrev pub IsLf : List ℕ → ℕ → Type 0
IsLf text k = (get_or text k 0 == 10) ≡ true

-- a line ends at the first LF
pub line_with_lf : (text : List ℕ) (k : ℕ) → k < length text → ((j : ℕ) → j < k → IsLf text j → ⊥) → IsLf text k → lines text ≡ take (suc k) text ∷ lines (drop (suc k) text)
unfolding lines
line_with_lf [] k within before at = absurd (omega arith)
line_with_lf (b ∷ text) zero within before at = ap (λ (t : Bool). cond t ((b ∷ []) ∷ lines text) (onto_first b (lines text))) at
line_with_lf (b ∷ text) (suc k) within before at =
    ap (λ (t : Bool). cond t ((b ∷ []) ∷ lines text) (onto_first b (lines text))) (is_not (b == 10) (before 0 (omega arith)))
    ∙ ap (onto_first b) (line_with_lf text k (omega arith) (λ j lt. before (suc j) (omega arith)) at)

-- without an LF there is one line
pub line_without_lf : (text : List ℕ) → 0 < length text → ((j : ℕ) → j < length text → IsLf text j → ⊥) → lines text ≡ text ∷ []
unfolding lines
line_without_lf [] some none = absurd (omega arith)
line_without_lf (b ∷ []) some none = ap (λ (t : Bool). cond t ((b ∷ []) ∷ []) ((b ∷ []) ∷ [])) (is_not (b == 10) (none 0 (omega arith)))
line_without_lf (b ∷ c ∷ text) some none =
    ap (λ (t : Bool). cond t ((b ∷ []) ∷ lines (c ∷ text)) (onto_first b (lines (c ∷ text)))) (is_not (b == 10) (none 0 (omega arith)))
    ∙ ap (onto_first b) (line_without_lf (c ∷ text) (omega arith) (λ j lt. none (suc j) (omega arith)))

pub no_lines : lines [] ≡ []
unfolding lines
no_lines = refl

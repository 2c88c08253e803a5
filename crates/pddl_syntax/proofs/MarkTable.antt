-- The table of marks is that of the definition.

use Rattle.std.proofs.Common.{◌≡◌, ℕ, zero, suc, ◌+◌, ◌<◌, List, [], ◌∷◌, get_or, refl, sym, ap, ◌∙◌, add-zero, arith}
use Rattle.pddl_tokens.specs.Bytes.{class_of}
use Rattle.pddl_syntax.specs.declared.marks.TheConstants.{MARKS}
use Rattle.pddl_syntax.specs.declared.marks.Mark.{Mark}
use Rattle.pddl_syntax.specs.Marks.{mark_of}

-- the marks of so many bytes from one on
marks_from : ℕ → ℕ → List Mark
marks_from zero b = []
marks_from (suc n) b = mark_of b ∷ marks_from n (b + 1)

marks_at : (n b i : ℕ) (d : Mark) → i < n → get_or (marks_from n b) i d ≡ mark_of (b + i)
unfolding marks_from
marks_at zero b i d lt = absurd (omega arith)
marks_at (suc n) b zero d lt = ap mark_of (sym (add-zero b))
marks_at (suc n) b (suc i) d lt =
    let same : b + 1 + i ≡ b + suc i = omega arith in
    marks_at n (b + 1) i d (omega arith) ∙ ap mark_of same

table_is : MARKS ≡ marks_from 256 0
unfolding marks_from mark_of class_of
table_is = refl

pub mark_in_table : (b : ℕ) (d : Mark) → b < 256 → get_or MARKS b d ≡ mark_of b
mark_in_table b d lt =
    let same : 0 + b ≡ b = omega arith in
    ap (λ (xs : List Mark). get_or xs b d) table_is ∙ marks_at 256 0 b d lt ∙ ap mark_of same

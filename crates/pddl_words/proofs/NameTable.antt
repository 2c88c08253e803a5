-- The table of the bytes of names is that of the definition.

use Rattle.std.proofs.Common.{◌≡◌, ℕ, zero, suc, ◌+◌, ◌<◌, Bool, List, [], ◌∷◌, get_or, refl, sym, ap, ◌∙◌, add-zero, arith}
use Rattle.pddl_words.specs.declared.TheConstants.{NAME_BYTES}
use Rattle.pddl_words.specs.Words.{is_name_byte}

-- for so many bytes from one on, whether each is a byte of names
answers_from : ℕ → ℕ → List Bool
answers_from zero b = []
answers_from (suc n) b = is_name_byte b ∷ answers_from n (b + 1)

answers_at : (n b i : ℕ) (d : Bool) → i < n → get_or (answers_from n b) i d ≡ is_name_byte (b + i)
unfolding answers_from
answers_at zero b i d lt = absurd (omega arith)
answers_at (suc n) b zero d lt = ap is_name_byte (sym (add-zero b))
answers_at (suc n) b (suc i) d lt =
    let same : b + 1 + i ≡ b + suc i = omega arith in
    answers_at n (b + 1) i d (omega arith) ∙ ap is_name_byte same

table_is : NAME_BYTES ≡ answers_from 256 0
unfolding answers_from
table_is = refl

pub name_byte_in_table : (b : ℕ) (d : Bool) → b < 256 → get_or NAME_BYTES b d ≡ is_name_byte b
name_byte_in_table b d lt =
    let same : 0 + b ≡ b = omega arith in
    ap (λ (xs : List Bool). get_or xs b d) table_is ∙ answers_at 256 0 b d lt ∙ ap is_name_byte same

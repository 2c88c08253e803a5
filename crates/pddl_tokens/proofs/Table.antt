-- The table of classes is that of the definition.

use Rattle.std.proofs.Common.{◌≡◌, ℕ, zero, suc, ◌+◌, ◌<◌, List, [], ◌∷◌, get_or, refl, sym, ap, ◌∙◌, add-zero, arith}
use Rattle.pddl_tokens.specs.declared.bytes.TheConstants.{CLASSES}
use Rattle.pddl_tokens.specs.declared.bytes.ByteClass.{ByteClass}
use Rattle.pddl_tokens.specs.Bytes.{class_of}

-- the classes of so many bytes from one on
classes_from : ℕ → ℕ → List ByteClass
classes_from zero b = []
classes_from (suc n) b = class_of b ∷ classes_from n (b + 1)

classes_at : (n b i : ℕ) (d : ByteClass) → i < n → get_or (classes_from n b) i d ≡ class_of (b + i)
unfolding classes_from
classes_at zero b i d lt = absurd (omega arith)
classes_at (suc n) b zero d lt = ap class_of (sym (add-zero b))
classes_at (suc n) b (suc i) d lt =
    let same : b + 1 + i ≡ b + suc i = omega arith in
    classes_at n (b + 1) i d (omega arith) ∙ ap class_of same

table_is : CLASSES ≡ classes_from 256 0
unfolding classes_from class_of
table_is = refl

pub class_in_table : (b : ℕ) (d : ByteClass) → b < 256 → get_or CLASSES b d ≡ class_of b
class_in_table b d lt =
    let same : 0 + b ≡ b = omega arith in
    ap (λ (xs : List ByteClass). get_or xs b d) table_is ∙ classes_at 256 0 b d lt ∙ ap class_of same

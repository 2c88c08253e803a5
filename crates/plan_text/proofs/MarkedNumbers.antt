-- Numbers before the mark that ends a word.

use Rattle.std.proofs.Common.{◌≡◌, ℕ, Bool, List, [], ◌∷◌, ◌++◌, length, None, refl, ap, ◌∙◌, sym, arith}
use Rattle.std.specs.Prelude.{◌==◌, cond, reverse}
use Rattle.std.proofs.lemmas.List.{reverse-append, reverse-reverse}
use Rattle.std.proofs.lemmas.Bool.{eq-eqb, ne_eqb}
use Rattle.pddl_words.specs.DecimalReading.{billionths_of}
use Rattle.plan_text.specs.MarkedNumbers.{number_from_end, number_before}

-- the number before the last byte
before_last : (mark : ℕ) (word number : List ℕ) (last : ℕ) → word ≡ number ++ last ∷ [] → cond (last == mark) (billionths_of number) None ≡ number_before mark word
unfolding number_before
before_last mark word number last is =
    sym (
    ap (λ (w : List ℕ). number_from_end mark (reverse w)) is ∙ ap (number_from_end mark) (reverse-append number (last ∷ []))
    ∙ ap (λ (n : List ℕ). cond (last == mark) (billionths_of n) None) (reverse-reverse number)
    )

pub no_last : (mark : ℕ) (word : List ℕ) → length word ≡ 0 → None ≡ number_before mark word
unfolding number_before
no_last mark [] none = refl
no_last mark (b ∷ word) none = absurd (omega arith)

pub ends_with_mark : (mark : ℕ) (word number : List ℕ) (last : ℕ) → word ≡ number ++ last ∷ [] → last ≡ mark → billionths_of number ≡ number_before mark word
ends_with_mark mark word number last is same =
    sym (ap (λ (t : Bool). cond t (billionths_of number) None) (eq-eqb last mark same)) ∙ before_last mark word number last is

pub ends_otherwise : (mark : ℕ) (word number : List ℕ) (last : ℕ) → word ≡ number ++ last ∷ [] → (last ≡ mark → ⊥) → None ≡ number_before mark word
ends_otherwise mark word number last is other =
    sym (ap (λ (t : Bool). cond t (billionths_of number) None) (ne_eqb last mark other)) ∙ before_last mark word number last is

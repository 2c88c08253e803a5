-- A line is cut at its last byte that is no CR.

use Rattle.std.proofs.Common.{◌≡◌, ◌<◌, ◌≤◌, ◌-◌, ℕ, Bool, false, List, length, take, get_or, sym, ap, ◌∙◌, arith}
use Rattle.std.specs.Prelude.{◌==◌}
use Rattle.std.specs.List.{suffix_len}
use Rattle.std.proofs.lemmas.List.{take_all, length-take-le}
use Rattle.std.proofs.lemmas.List.Sums.{suffix_len-take_no}
use Rattle.steps_text.specs.Words.{without_crs}

abbrev is_cr : ℕ → Bool
is_cr b = b == 13

-- what is cut off the front of a line that ends there
abbrev pub cut_at : ℕ → List ℕ → List ℕ
cut_at end line = take (end - suffix_len is_cr (take end line)) (take end line)

pub nothing_left : (line : List ℕ) (end : ℕ) → end ≡ 0 → cut_at end line ≡ without_crs line → take end line ≡ without_crs line
nothing_left line end is same = ap (λ (n : ℕ). take n line) is ∙ sym (ap (λ (n : ℕ). cut_at n line) is) ∙ same

pub no_cr_left : (line : List ℕ) (end : ℕ) → 0 < end → end ≤ length line → is_cr (get_or line (end - 1) 0) ≡ false → cut_at end line ≡ without_crs line → take end line ≡ without_crs line
no_cr_left line end some within other same =
    sym (ap (λ (n : ℕ). take n (take end line)) all ∙ whole) ∙ same
  where
    none : suffix_len is_cr (take end line) ≡ 0
    none = suffix_len-take_no is_cr line end 0 some within other

    all : end - suffix_len is_cr (take end line) ≡ end
    all = omega (arith, none)

    whole : take end (take end line) ≡ take end line
    whole = take_all end (take end line) (omega (arith, length-take-le end line within))

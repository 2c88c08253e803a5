-- The slot that a seat took last.

use Rattle.std.proofs.Common.{◌≡◌, ℕ, List, [], ◌∷◌, sym, ap, ◌∙◌}
use Rattle.atomic_table.specs.Table.{rest}

module _ {S : Type 0} where
  abbrev pub content_or : S → List (ℕ × S) → S
  content_or other [] = other
  content_or other (x ∷ xs) = x.1

  pub front : (carried others : List (ℕ × S)) (slot : ℕ) (content : S) → carried ≡ (slot, content) ∷ others → carried ≡ (slot, content) ∷ rest carried
  front carried others slot content e = e ∙ ap (λ (z : List (ℕ × S)). (slot, content) ∷ rest z) (sym e)

  pub front_content : (carried others : List (ℕ × S)) (slot : ℕ) (content found : S) → carried ≡ (slot, content) ∷ others → carried ≡ (slot, found) ∷ rest carried → found ≡ content
  front_content carried others slot content found e f = ap (content_or content) (sym f ∙ e)

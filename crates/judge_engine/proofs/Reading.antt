-- Bytes that come in piece by piece.

use Rattle.std.proofs.Common.{◌≡◌, ℕ, ◌≤◌, ◌<◌, List, [], ◌++◌, Option, None, Some, IfSome, ◌⊎◌, inl, inr, length, take, ap, sym, ◌∙◌, append-nil, subst}
use Rattle.std.proofs.KnownBytes.{Consumes-trans}
use Rattle.std.proofs.Math.Nat.{eq-or-lt_of_le}
use Rattle.std.proofs.Math.Seq.{take-append_seam}
use Rattle.std.proofs.lemmas.List.{take_all}
use Rattle.std.specs.Io.KnownBytes.{Consumes, IsAtEnd}

-- what was read up to the end or the limit is the front of what there was
pub whole_text : (old new : Option (List ℕ)) (bytes : List ℕ) (limit : ℕ) → Consumes old new bytes → length bytes ≤ limit
    → (length bytes < limit → IsAtEnd new) → IfSome old (λ all. bytes ≡ take limit all)
whole_text None new bytes limit given within ended = tt
whole_text (Some all) None bytes limit given within ended = absurd given
whole_text (Some all) (Some rest) bytes limit given within ended = by (eq-or-lt_of_le within)
  where
    by : (length bytes ≡ limit) ⊎ (length bytes < limit) → bytes ≡ take limit all
    by (inl full) = sym (take-append_seam bytes rest) ∙ ap (take (length bytes)) (sym given) ∙ ap (λ n. take n all) full
    by (inr less) =
        sym (take_all limit bytes within) ∙ ap (take limit) (sym (given ∙ ap (λ l. bytes ++ l) (ended less) ∙ append-nil bytes))

-- so it is where a get gives none more
pub ended_text : (old mid new : Option (List ℕ)) (bytes piece : List ℕ) (count limit : ℕ) → count ≡ 0 → Consumes old mid bytes
    → Consumes mid new (take count piece) → IsAtEnd new → length bytes ≤ limit → IfSome old (λ all. bytes ≡ take limit all)
ended_text old mid new bytes piece count limit none before get ended within =
    let nothing : take count piece ≡ [] = ap (λ n. take n piece) none in
    let given : Consumes old new bytes =
    subst (Consumes old new) (append-nil bytes) (Consumes-trans old mid new bytes [] before (subst (Consumes mid new) nothing get)) in
    whole_text old new bytes limit given within (λ _. ended)

-- Bytes that go out piece by piece.

use Rattle.std.proofs.Common.{◌≡◌, ℕ, ◌+◌, ◌-◌, ◌<◌, ◌≤◌, List, ◌++◌, Option, None, Some, Bool, true, false, refl, ◌||◌, ◌&&◌, length, take, drop, nat_eq, ap, sym, ◌∙◌, arith, append_assoc, length-drop, subst}
use Rattle.std.proofs.lemmas.Bool.{eqb-true}
use Rattle.std.proofs.lemmas.List.{take_all}
use Rattle.std.proofs.Math.Seq.{take-add}
use Rattle.std.specs.Io.KnownBytes.{Appends}

-- what is added after what was added
pub appends_more : (old mid new : Option (List ℕ)) (a b : List ℕ) → Appends old mid a → Appends mid new b → Appends old new (a ++ b)
appends_more None mid new a b h k = tt
appends_more (Some xs) None new a b h k = absurd h
appends_more (Some xs) (Some ys) None a b h k = absurd k
appends_more (Some xs) (Some ys) (Some zs) a b h k = k ∙ ap (λ l. l ++ b) h ∙ append_assoc xs a b

-- a piece of the rest, behind the front, makes a longer front
pub front_more : (old mid new : Option (List ℕ)) (bytes : List ℕ) (written count : ℕ)
    → Appends old mid (take written bytes) → Appends mid new (take count (take (length bytes - written) (drop written bytes)))
    → Appends old new (take (written + count) bytes)
front_more old mid new bytes written count h k =
    let rest : take (length bytes - written) (drop written bytes) ≡ drop written bytes =
    take_all (length bytes - written) (drop written bytes) (omega (arith, length-drop written bytes)) in
    let piece : Appends mid new (take count (drop written bytes)) = subst (λ (l : List ℕ). Appends mid new (take count l)) rest k in
    subst (Appends old new) (sym (take-add written count bytes)) (appends_more old mid new (take written bytes) (take count (drop written bytes)) h piece)

-- a put that took some bytes has not failed
pub no_failure : (count : ℕ) (more : Bool) → (count ≡ 0 → ⊥) → (false || (nat_eq count 0 && more)) ≡ false
no_failure count more some = by (nat_eq count 0) refl
  where
    by : (b : Bool) → nat_eq count 0 ≡ b → (false || (b && more)) ≡ false
    by true e = absurd (some (eqb-true count 0 e))
    by false e = refl

-- a piece of the rest ends within the whole
pub piece_within : (bytes : List ℕ) (written count : ℕ) → written < length bytes → count ≤ length (take (length bytes - written) (drop written bytes))
    → written + count ≤ length bytes
piece_within bytes written count lt le =
    let rest : take (length bytes - written) (drop written bytes) ≡ drop written bytes =
    take_all (length bytes - written) (drop written bytes) (omega (arith, length-drop written bytes)) in
    omega (arith, le, ap length rest, length-drop written bytes)

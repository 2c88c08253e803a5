-- Rows of names whose numbers are found one after the other.

use Rattle.std.proofs.Common.{◌≡◌, ℕ, Bool, true, false, ◌&&◌, eqb, List, [], ◌∷◌, ◌++◌, length, refl, ap, arith}
use Rattle.std.proofs.lemmas.Bool.Decides.{nat_tests}
use Rattle.std.specs.List.{list_all}
use Rattle.pddl_words.specs.Words.{is_name}
use Rattle.strips_task.proofs.AtomEquality.{both_hold}

-- whether there is no number yet
abbrev pub none_yet : List ℕ → Bool
none_yet [] = true
none_yet (number ∷ numbers) = false

-- and that is whether there are none
pub none_yet-length : (numbers : List ℕ) → eqb (length numbers) 0 ≡ none_yet numbers
none_yet-length [] = refl
none_yet-length (number ∷ numbers) = grind (arith, nat_tests)

-- one name more
pub names_more : (words : List (List ℕ)) (word : List ℕ) → list_all is_name words ≡ true → is_name word ≡ true → list_all is_name (words ++ word ∷ []) ≡ true
names_more [] word names is = ap (λ b. b && true) is
names_more (first ∷ words) word names is =
    let both = both_hold (is_name first) (list_all is_name words) names in
    (λ j. both.0 j && names_more words word both.1 is j)

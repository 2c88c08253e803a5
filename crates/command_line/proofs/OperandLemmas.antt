-- The operands among some words, word by word.

use Rattle.std.proofs.Common.{◌≡◌, ℕ, Bool, true, false, List, [], ◌∷◌, ◌++◌, codes, bytes_eq, refl, ap, sym, ◌∙◌, append_assoc}
use Rattle.command_line.specs.Words.{is_option, operands_from, takes_a_value}

-- no words have none
pub operands_in_none : (is_value : Bool) → operands_from is_value [] ≡ []
unfolding operands_from
operands_in_none is_value = refl

-- a value is passed over
pub operand_value : (word : List ℕ) (words : List (List ℕ)) → operands_from true (word ∷ words) ≡ operands_from false words
unfolding operands_from
operand_value word words = refl

-- after two dashes all words are operands
pub operands_behind : (word : List ℕ) (words : List (List ℕ)) → bytes_eq word (codes "--") ≡ true → operands_from false (word ∷ words) ≡ words
unfolding operands_from
operands_behind word words ends = rw ends refl

-- the word behind such an option is its value
pub operand_option : (word : List ℕ) (words : List (List ℕ)) → bytes_eq word (codes "--") ≡ false → takes_a_value word ≡ true
    → operands_from false (word ∷ words) ≡ operands_from true words
unfolding operands_from
operand_option word words goes takes = rw (goes, takes) refl

-- other options have none, or have it in the word
pub operand_alone : (word : List ℕ) (words : List (List ℕ)) → bytes_eq word (codes "--") ≡ false → takes_a_value word ≡ false → is_option word ≡ true
    → operands_from false (word ∷ words) ≡ operands_from false words
unfolding operands_from
operand_alone word words goes other option = rw (goes, other, option) refl

-- what is no option is an operand
pub operand_found : (word : List ℕ) (words : List (List ℕ)) → bytes_eq word (codes "--") ≡ false → takes_a_value word ≡ false → is_option word ≡ false
    → operands_from false (word ∷ words) ≡ word ∷ operands_from false words
unfolding operands_from
operand_found word words goes other operand = rw (goes, other, operand) refl

pub ruleset operand_steps = (operands_in_none, operand_value, operands_behind, operand_option, operand_alone, operand_found)

-- an operand that is pushed is the next one
pub one_more : (found more : List (List ℕ)) (word : List ℕ) (words all : List (List ℕ)) → more ≡ found ++ word ∷ [] → bytes_eq word (codes "--") ≡ false
    → takes_a_value word ≡ false → is_option word ≡ false → found ++ operands_from false (word ∷ words) ≡ all → more ++ operands_from false words ≡ all
one_more found more word words all pushed goes other operand so_far =
    ap (λ l. l ++ operands_from false words) pushed ∙ append_assoc found (word ∷ []) (operands_from false words)
    ∙ ap (λ l. found ++ l) (sym (operand_found word words goes other operand)) ∙ so_far

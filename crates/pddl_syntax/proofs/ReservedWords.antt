-- What the first letter and the length of a word tell about reserved words.

use Rattle.std.proofs.Common.{◌≡◌, ℕ, ◌<◌, Bool, true, false, not, cond, eqb, ◌||◌, List, [], ◌∷◌, length, get_or, bit_or, Some, None, refl, sym, ap, ◌∙◌}
use Rattle.std.proofs.lemmas.Bool.{agree_below_at, and_parts, eqb-true}
use Rattle.std.proofs.lemmas.List.{length-map}
use Rattle.std.proofs.lemmas.Slice.Eq.{bytes_eq-Decides}
use Rattle.std.proofs.Math.ListN.{get_or-map}
use Rattle.std.specs.Char.{is_ascii_alphabetic, to_ascii_lowercase}
use Rattle.std.specs.List.{list_all, slice_get}
use Rattle.std.specs.Prelude.{codes}
use Rattle.pddl_words.specs.Kinds.{is_same_word}
use Rattle.pddl_words.specs.Words.{is_name, is_name_byte, folded}
use Rattle.pddl_syntax.specs.declared.heads.FormulaHead.TheVariants as formula
use Rattle.pddl_syntax.specs.Heads.{formula_head}
use Rattle.pddl_syntax.specs.Keywords.{and_word, not_word, is_other_reserved, is_connective, is_quantifier, is_comparison}

-- the length of the reserved words that begin with a letter, in upper or lower case
abbrev length_by : ℕ → ℕ
length_by b =
    cond (eqb b 97 || eqb b 110) 3 (cond (eqb b 101 || eqb b 102) 6 (cond (eqb b 105) 5 (cond (eqb b 111) 2 (cond (eqb b 119) 4 0))))

abbrev pub reserved_length : ℕ → ℕ
reserved_length b = length_by (bit_or b 32)

-- whether a word of this first byte and this length may be reserved: it has the length, or begins with no letter
abbrev pub may_be_reserved : ℕ → ℕ → Bool
may_be_reserved b n = eqb n (reserved_length b) || not (is_ascii_alphabetic b)

length_folds : (b : ℕ) → b < 256 → eqb (reserved_length b) (reserved_length (to_ascii_lowercase b)) ≡ true
length_folds b lt = agree_below_at (λ k. eqb (reserved_length k) (reserved_length (to_ascii_lowercase k))) (λ _. true) 256 b refl lt

letter_folds : (b : ℕ) → b < 256 → is_ascii_alphabetic b ≡ is_ascii_alphabetic (to_ascii_lowercase b)
letter_folds b lt = agree_below_at is_ascii_alphabetic (λ k. is_ascii_alphabetic (to_ascii_lowercase k)) 256 b refl lt

-- whether a word may be reserved is the same of each spelling of it
shape_folds : (w k : List ℕ) → get_or w 0 0 < 256 → is_same_word w k ≡ true
    → may_be_reserved (get_or w 0 0) (length w) ≡ may_be_reserved (to_ascii_lowercase (get_or k 0 0)) (length k)
shape_folds w k lt same =
    let is : folded w ≡ folded k = (bytes_eq-Decides (folded w) (folded k)).0 same in
    let long : length w ≡ length k = sym (length-map w to_ascii_lowercase) ∙ ap length is ∙ length-map k to_ascii_lowercase in
    let first : to_ascii_lowercase (get_or w 0 0) ≡ to_ascii_lowercase (get_or k 0 0) =
    sym (get_or-map to_ascii_lowercase w 0 0) ∙ ap (λ (bytes : List ℕ). get_or bytes 0 0) is ∙ get_or-map to_ascii_lowercase k 0 0 in
    let due : reserved_length (get_or w 0 0) ≡ reserved_length (to_ascii_lowercase (get_or k 0 0)) =
    eqb-true _ _ (length_folds (get_or w 0 0) lt) ∙ ap reserved_length first in
    let letter : is_ascii_alphabetic (get_or w 0 0) ≡ is_ascii_alphabetic (to_ascii_lowercase (get_or k 0 0)) =
    letter_folds (get_or w 0 0) lt ∙ ap is_ascii_alphabetic first in
    λ i. eqb (long i) (due i) || not (letter i)

not_true : (answer : Bool) → (answer ≡ true → false ≡ true) → answer ≡ false
not_true true h = sym (h refl)
not_true false h = refl

-- a word that may not be reserved is none that may
differs : (w k : List ℕ) → get_or w 0 0 < 256 → may_be_reserved (get_or w 0 0) (length w) ≡ false → may_be_reserved (to_ascii_lowercase (get_or k 0 0)) (length k) ≡ true → is_same_word w k ≡ false
differs w k lt unlike like = not_true (is_same_word w k) (λ same. sym unlike ∙ shape_folds w k lt same ∙ like)

no_other : (w : List ℕ) → get_or w 0 0 < 256 → may_be_reserved (get_or w 0 0) (length w) ≡ false → is_other_reserved w ≡ false
unfolding is_other_reserved is_connective is_quantifier is_comparison
no_other w lt unlike =
    rw (
      differs w (codes "or") lt unlike refl,
      differs w (codes "imply") lt unlike refl,
      differs w (codes "when") lt unlike refl,
      differs w (codes "either") lt unlike refl,
      differs w (codes "exists") lt unlike refl,
      differs w (codes "forall") lt unlike refl,
      differs w (codes "=") lt unlike refl,
      differs w (codes "<") lt unlike refl,
      differs w (codes ">") lt unlike refl,
      differs w (codes "<=") lt unlike refl,
      differs w (codes ">=") lt unlike refl,
    )

head_by_words : (w : List ℕ) → is_same_word w and_word ≡ false → is_same_word w not_word ≡ false → is_other_reserved w ≡ false → is_name w ≡ true → formula_head w ≡ formula.Name
unfolding formula_head
head_by_words w conjunction negation other name = rw (conjunction, negation, other, name) refl

begins_with_letter : (w : List ℕ) → is_name w ≡ true → is_ascii_alphabetic (get_or w 0 0) ≡ true
unfolding is_name
begins_with_letter [] name = cc
begins_with_letter (b ∷ bytes) name = (and_parts (is_ascii_alphabetic b) (list_all is_name_byte bytes) name).0

-- a name that has not the length of the reserved words of its first letter is none of them
pub plain_name : (w : List ℕ) → get_or w 0 0 < 256 → eqb (length w) (reserved_length (get_or w 0 0)) ≡ false → is_name w ≡ true → formula_head w ≡ formula.Name
plain_name w lt other name =
    let unlike : may_be_reserved (get_or w 0 0) (length w) ≡ false = rw (other, begins_with_letter w name) refl in
    head_by_words w (differs w and_word lt unlike refl) (differs w not_word lt unlike refl) (no_other w lt unlike) name

pub first_is : (w : List ℕ) (b : ℕ) → Some b ≡ slice_get w 0 → b ≡ get_or w 0 0
first_is [] b is = cc
first_is (first ∷ bytes) b is = cc

pub name_begins : (w : List ℕ) → None ≡ slice_get w 0 → is_name w ≡ false
unfolding is_name
name_begins [] none = refl
name_begins (first ∷ bytes) none = cc

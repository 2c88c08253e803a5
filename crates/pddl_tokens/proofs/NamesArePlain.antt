-- Names are words.

use Rattle.std.proofs.Common.{◌≡◌, ◌≢◌, ℕ, ◌<◌, ◌≤◌, ◌⊎◌, inl, inr, ⊎_elim, Bool, true, List, [], ◌∷◌, refl, ap, ◌∙◌, arith}
use Rattle.std.specs.Prelude.{◌==◌, ◌&&◌, ◌||◌, nat_le, All, IsTrue}
use Rattle.std.specs.Char.{is_ascii_alphabetic, is_ascii_alphanumeric}
use Rattle.std.specs.Cmp.{unsigned_Decides}
use Rattle.std.specs.Int.{is_in_range}
use Rattle.std.specs.List.{list_all}
use Rattle.std.proofs.lemmas.Bool.{and_parts, or_cases, leb-true}
use Rattle.std.proofs.lemmas.List.Elements.{All-nil, All-cons}
use Rattle.pddl_words.specs.SpacedWords.{words_of}
use Rattle.pddl_words.specs.Words.{is_name, is_name_byte}
use Rattle.pddl_tokens.specs.Bytes.{class_of, is_word_byte}
use Rattle.pddl_tokens.specs.ParenRanges.{is_word, IsPlain}

-- the bytes from `-` (45) to `z` (122) belong to words, but for `;` (59)
between_dash_and_z : (b : ℕ) → 45 ≤ b → b ≤ 122 → b ≢ 59 → is_word_byte b ≡ true
unfolding class_of
between_dash_and_z b low high other = grind arith

in_range : (low high b : ℕ) → is_in_range low high b ≡ true → 45 ≤ low → high ≤ 122 → (high < 59) ⊎ (59 < low) → is_word_byte b ≡ true
in_range low high b is above below side =
    let (over, under) = and_parts (nat_le low b) (nat_le b high) is in
    let first : low ≤ b = leb-true low b over in
    let last : b ≤ high = leb-true b high under in
    between_dash_and_z b (omega arith) (omega arith) (⊎_elim (λ (h : high < 59). λ e. omega arith) (λ (h : 59 < low). λ e. omega arith) side)

letter : (b : ℕ) → is_ascii_alphabetic b ≡ true → is_word_byte b ≡ true
letter b is =
    ⊎_elim
    (λ (upper : is_in_range 65 90 b ≡ true). in_range 65 90 b upper (omega arith) (omega arith) (inr (omega arith)))
    (λ (lower : is_in_range 97 122 b ≡ true). in_range 97 122 b lower (omega arith) (omega arith) (inr (omega arith)))
    (or_cases (is_in_range 65 90 b) (is_in_range 97 122 b) is)

letter_or_digit : (b : ℕ) → is_ascii_alphanumeric b ≡ true → is_word_byte b ≡ true
letter_or_digit b is =
    ⊎_elim
    (λ (more : (is_in_range 48 57 b || is_in_range 65 90 b) ≡ true). ⊎_elim
    (λ (digit : is_in_range 48 57 b ≡ true). in_range 48 57 b digit (omega arith) (omega arith) (inl (omega arith)))
    (λ (upper : is_in_range 65 90 b ≡ true). in_range 65 90 b upper (omega arith) (omega arith) (inr (omega arith)))
    (or_cases (is_in_range 48 57 b) (is_in_range 65 90 b) more))
    (λ (lower : is_in_range 97 122 b ≡ true). in_range 97 122 b lower (omega arith) (omega arith) (inr (omega arith)))
    (or_cases (is_in_range 48 57 b || is_in_range 65 90 b) (is_in_range 97 122 b) is)

dash_or_line : (b : ℕ) → (b == 45 || b == 95) ≡ true → is_word_byte b ≡ true
dash_or_line b is =
    ⊎_elim
    (λ (dash : (b == 45) ≡ true). let e : b ≡ 45 = (unsigned_Decides b 45).0 dash in between_dash_and_z b (omega arith) (omega arith) (omega arith))
    (λ (line : (b == 95) ≡ true). let e : b ≡ 95 = (unsigned_Decides b 95).0 line in between_dash_and_z b (omega arith) (omega arith) (omega arith))
    (or_cases (b == 45) (b == 95) is)

name_byte : (b : ℕ) → is_name_byte b ≡ true → is_word_byte b ≡ true
name_byte b is =
    ⊎_elim (λ (first : is_ascii_alphanumeric b ≡ true). letter_or_digit b first) (λ (mark : (b == 45 || b == 95) ≡ true). dash_or_line b mark)
    (or_cases (is_ascii_alphanumeric b) (b == 45 || b == 95) is)

name_bytes : (bytes : List ℕ) → list_all is_name_byte bytes ≡ true → list_all is_word_byte bytes ≡ true
name_bytes [] all = refl
name_bytes (b ∷ bytes) all =
    let (first, others) = and_parts (is_name_byte b) (list_all is_name_byte bytes) all in
    ap (λ (t : Bool). t && list_all is_word_byte bytes) (name_byte b first) ∙ name_bytes bytes others

-- a name is a word
pub name_is_word : (word : List ℕ) → is_name word ≡ true → is_word word ≡ true
unfolding is_name
name_is_word [] is = absurd cc
name_is_word (b ∷ bytes) is =
    let (first, others) = and_parts (is_ascii_alphabetic b) (list_all is_name_byte bytes) is in
    ap (λ (t : Bool). t && list_all is_word_byte bytes) (letter b first) ∙ name_bytes bytes others

names_are_words : (words : List (List ℕ)) → list_all is_name words ≡ true → All (λ word. IsTrue (is_word word)) words
names_are_words [] all = All-nil (λ word. IsTrue (is_word word))
names_are_words (word ∷ words) all =
    let (first, others) = and_parts (is_name word) (list_all is_name words) all in
    All-cons (λ w. IsTrue (is_word w)) word words (name_is_word word first) (names_are_words words others)

-- a row of names is plain
pub names_are_plain : (row : List ℕ) → list_all is_name (words_of row) ≡ true → IsPlain row
names_are_plain row all = names_are_words (words_of row) all

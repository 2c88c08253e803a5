-- Folding a word twice is folding it once, a word without upper case stays as it is, and a word is a name if and only if it is one in lower case.

use Rattle.std.proofs.Common.{◌≡◌, ℕ, true, false, true≢false, List, [], ◌∷◌, length, refl, sym, arith}
use Rattle.std.specs.Char.{to_ascii_lowercase, is_ascii_uppercase, is_ascii_alphabetic}
use Rattle.std.specs.List.{list_any, list_all, refill}
use Rattle.std.proofs.lemmas.List.{append-nil, drop_all, take_all}
use Rattle.std.proofs.lemmas.Bool.{or_parts, and_parts, and_from}
use Rattle.std.proofs.lemmas.Bool.Decides.{nat_tests}
use Rattle.pddl_words.specs.Words.{folded, is_name, is_name_byte}

lowercase_twice : (b : ℕ) → to_ascii_lowercase (to_ascii_lowercase b) ≡ to_ascii_lowercase b
lowercase_twice b = grind (arith, nat_tests)

pub folded_twice : (word : List ℕ) → folded (folded word) ≡ folded word
folded_twice [] = refl
folded_twice (b ∷ word) = λ j. lowercase_twice b j ∷ folded_twice word j

lowercase_already : (b : ℕ) → is_ascii_uppercase b ≡ false → to_ascii_lowercase b ≡ b
lowercase_already b is = grind (arith, nat_tests)

pub folded_already : (word : List ℕ) → list_any is_ascii_uppercase word ≡ false → folded word ≡ word
folded_already [] none = refl
folded_already (b ∷ word) none =
    let parts = or_parts (is_ascii_uppercase b) (list_any is_ascii_uppercase word) none in
    λ j. lowercase_already b parts.0 j ∷ folded_already word parts.1 j

letter_stays : (b : ℕ) → is_ascii_alphabetic b ≡ true → is_ascii_alphabetic (to_ascii_lowercase b) ≡ true
letter_stays b is = grind (arith, nat_tests)

name_byte_stays : (b : ℕ) → is_name_byte b ≡ true → is_name_byte (to_ascii_lowercase b) ≡ true
name_byte_stays b is = grind (arith, nat_tests)

name_bytes_stay : (bytes : List ℕ) → list_all is_name_byte bytes ≡ true → list_all is_name_byte (folded bytes) ≡ true
name_bytes_stay [] all = refl
name_bytes_stay (b ∷ bytes) all =
    let parts = and_parts (is_name_byte b) (list_all is_name_byte bytes) all in
    and_from (is_name_byte (to_ascii_lowercase b)) (list_all is_name_byte (folded bytes)) (name_byte_stays b parts.0) (name_bytes_stay bytes parts.1)

-- a name in lower case is a name
pub folded_is_name : (word : List ℕ) → is_name word ≡ true → is_name (folded word) ≡ true
unfolding is_name
folded_is_name [] is = absurd (true≢false (sym is))
folded_is_name (b ∷ bytes) is =
    let parts = and_parts (is_ascii_alphabetic b) (list_all is_name_byte bytes) is in
    and_from (is_ascii_alphabetic (to_ascii_lowercase b)) (list_all is_name_byte (folded bytes)) (letter_stays b parts.0) (name_bytes_stay bytes parts.1)

-- a list that is written over from its start to its end is the other list
pub refilled : (old new : List ℕ) → length new ≡ length old → refill (length old) old new ≡ new
refilled old new same = rw (drop_all (length new) old (omega (arith, same)), append-nil new) (take_all (length old) new (omega (arith, same)))

-- Rows of names, byte by byte.

use Rattle.std.proofs.Common.{◌≡◌, ◌≢◌, ℕ, ◌+◌, ◌<◌, ◌≤◌, Bool, true, false, List, [], ◌∷◌, length, drop, get_or, refl, ap, arith, drop-cons, add-one}
use Rattle.std.specs.Prelude.{◌&&◌, not, if◌then◌else◌}
use Rattle.std.specs.Char.{is_ascii_alphabetic}
use Rattle.std.specs.Cmp.{unsigned_Decides}
use Rattle.std.specs.List.{list_all, onto_first}
use Rattle.std.proofs.lemmas.List.{drop_all}
use Rattle.std.proofs.lemmas.List.Splits.{length-slice_split}
use Rattle.pddl_words.specs.SpacedWords.{is_space, words_of}
use Rattle.pddl_words.specs.Words.{is_name, is_name_byte}

-- whether the bytes go on as names, where a name must begin or one has begun
pub names_from : Bool → List ℕ → Bool
names_from begins [] = not begins
names_from true (b ∷ bytes) = is_ascii_alphabetic b && names_from false bytes
names_from false (b ∷ bytes) = if is_space b then names_from true bytes else (is_name_byte b && names_from false bytes)

-- whether words are names, where the first letter of the first was read before
go_on : List (List ℕ) → Bool
go_on [] = false
go_on (word ∷ words) = list_all is_name_byte word && list_all is_name words

some_words : (row : List ℕ) → words_of row ≢ []
some_words row none = let size : length (words_of row) ≡ 0 = ap length none in omega (arith, length-slice_split is_space row, size)

space_no_letter : (b : ℕ) → is_space b ≡ true → is_ascii_alphabetic b ≡ false
space_no_letter b is = let e : b ≡ 32 = (unsigned_Decides b 32).0 is in rw e refl

and_assoc : (a b c : Bool) → (a && (b && c)) ≡ ((a && b) && c)
and_assoc true b c = refl
and_assoc false b c = refl

begins_by : (b : ℕ) (bytes : List ℕ) (words : List (List ℕ)) (space : Bool) → words ≢ [] → is_space b ≡ space → names_from false bytes ≡ go_on words → (is_ascii_alphabetic b && names_from false bytes) ≡ list_all is_name (if space then [] ∷ words else onto_first b words)
unfolding is_name go_on
begins_by b bytes [] space some is same = absurd (some refl)
begins_by b bytes (word ∷ words) true some is same = rw (space_no_letter b is) refl
begins_by b bytes (word ∷ words) false some is same = rw same (and_assoc (is_ascii_alphabetic b) (list_all is_name_byte word) (list_all is_name words))

goes_by : (b : ℕ) (bytes : List ℕ) (words : List (List ℕ)) (space : Bool) → words ≢ [] → names_from true bytes ≡ list_all is_name words → names_from false bytes ≡ go_on words → (if space then names_from true bytes else (is_name_byte b && names_from false bytes)) ≡ go_on (if space then [] ∷ words else onto_first b words)
unfolding go_on
goes_by b bytes [] space some first same = absurd (some refl)
goes_by b bytes (word ∷ words) true some first same = first
goes_by b bytes (word ∷ words) false some first same = rw same (and_assoc (is_name_byte b) (list_all is_name_byte word) (list_all is_name words))

mutual
  unfolding names_from is_name go_on

  -- bytes go on as names from the start of a name on where all words are names
  pub from_start : (row : List ℕ) → names_from true row ≡ list_all is_name (words_of row)
  from_start [] = refl
  from_start (b ∷ bytes) = begins_by b bytes (words_of bytes) (is_space b) (some_words bytes) refl (from_inside bytes)

  from_inside : (row : List ℕ) → names_from false row ≡ go_on (words_of row)
  from_inside [] = refl
  from_inside (b ∷ bytes) = goes_by b bytes (words_of bytes) (is_space b) (some_words bytes) (from_start bytes) (from_inside bytes)

no_space_by : (b : ℕ) (t : Bool) → is_space b ≡ t → b ≢ 32 → t ≡ false
no_space_by b true is other = absurd (other ((unsigned_Decides b 32).0 is))
no_space_by b false is other = refl

no_space : (b : ℕ) → b ≢ 32 → is_space b ≡ false
no_space b other = no_space_by b (is_space b) refl other

at_byte : (row : List ℕ) (at : ℕ) → at < length row → drop at row ≡ get_or row at 0 ∷ drop (at + 1) row
at_byte row at lt = rw add-one (drop-cons row at 0 lt)

pub at_end : (begins : Bool) (row : List ℕ) (at : ℕ) → length row ≤ at → names_from begins (drop at row) ≡ not begins
unfolding names_from
at_end begins row at le = rw (drop_all at row le) refl

pub no_letter : (row : List ℕ) (at : ℕ) → at < length row → is_ascii_alphabetic (get_or row at 0) ≡ false → names_from true (drop at row) ≡ false
unfolding names_from
no_letter row at lt is = rw (at_byte row at lt, is) refl

pub letter : (row : List ℕ) (at : ℕ) → at < length row → is_ascii_alphabetic (get_or row at 0) ≡ true → names_from true (drop at row) ≡ names_from false (drop (at + 1) row)
unfolding names_from
letter row at lt is = rw (at_byte row at lt, is) refl

pub space : (row : List ℕ) (at : ℕ) → at < length row → get_or row at 0 ≡ 32 → names_from false (drop at row) ≡ names_from true (drop (at + 1) row)
unfolding names_from
space row at lt is = rw (at_byte row at lt, is) refl

pub name_byte : (row : List ℕ) (at : ℕ) → at < length row → get_or row at 0 ≢ 32 → is_name_byte (get_or row at 0) ≡ true → names_from false (drop at row) ≡ names_from false (drop (at + 1) row)
unfolding names_from
name_byte row at lt other is = rw (at_byte row at lt, no_space (get_or row at 0) other, is) refl

pub other_byte : (row : List ℕ) (at : ℕ) → at < length row → get_or row at 0 ≢ 32 → is_name_byte (get_or row at 0) ≡ false → names_from false (drop at row) ≡ false
unfolding names_from
other_byte row at lt other is = rw (at_byte row at lt, no_space (get_or row at 0) other, is) refl

-- Pieces that texts are made of: names, words in a row, and JSON strings (this validator's choice).

use Rattle.std.specs.Prelude.{ℕ, ◌+◌, ◌/◌, ◌%◌, ◌==◌, nat_lt, List, [], ◌∷◌, ◌++◌, codes, slice_get, unwrap_or, if◌then◌else◌}
use Rattle.std.specs.List.{flat_map}

-- the name with a number
abbrev pub name_at : List (List ℕ) → ℕ → List ℕ
name_at names number = unwrap_or (slice_get names number) []

-- words, each after a space
abbrev pub spaced : List (List ℕ) → List ℕ
spaced words = flat_map (λ word. codes " " ++ word) words

-- pieces, each after a comma
abbrev pub after_commas : List (List ℕ) → List ℕ
after_commas pieces = flat_map (λ piece. codes "," ++ piece) pieces

-- a digit of a number to the base 16
unfoldable pub hex_digit : ℕ → ℕ
hex_digit digit = if nat_lt digit 10 then 48 + digit else 87 + digit

-- a byte of a JSON string: a quotation mark and a backslash have a backslash in front, and a control character is written as `\u00` and two digits
unfoldable pub string_byte : ℕ → List ℕ
string_byte byte =
    (if byte == 34 then 92 ∷ 34 ∷ []
    else (if byte == 92 then 92 ∷ 92 ∷ []
    else (if nat_lt byte 32 then 92 ∷ 117 ∷ 48 ∷ 48 ∷ hex_digit (byte / 16) ∷ hex_digit (byte % 16) ∷ [] else byte ∷ [])))

-- a JSON string
unfoldable pub json_string : List ℕ → List ℕ
json_string bytes = codes "\"" ++ flat_map string_byte bytes ++ codes "\""

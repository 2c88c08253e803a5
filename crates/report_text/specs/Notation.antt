-- The two notations of conditions: words, and lists of parts (this validator's choice). Both have the same words in the same lists: `(not (p a))` is
-- `["not",["p","a"]]` in JSON.

use Rattle.std.specs.Prelude.{ℕ, Bool, List, [], ◌∷◌, ◌++◌, codes, if◌then◌else◌}
use Rattle.std.specs.List.{flat_map}
use Rattle.report_text.specs.declared.notation.Notation.{Notation}
use Rattle.report_text.specs.declared.notation.Notation.TheVariants.{Pddl, Json}
use Rattle.report_text.specs.Pieces.{json_string}

-- a word: as it is, or as a JSON string
abbrev pub word : Notation → List ℕ → List ℕ
word Pddl bytes = bytes
word Json bytes = json_string bytes

-- what a list begins with
abbrev pub opening : Notation → List ℕ
opening Pddl = codes "("
opening Json = codes "["

-- what is between each two parts of a list
abbrev pub separator : Notation → List ℕ
separator Pddl = codes " "
separator Json = codes ","

-- what a list ends with
abbrev pub closing : Notation → List ℕ
closing Pddl = codes ")"
closing Json = codes "]"

-- parts of a list, each behind the separator
abbrev pub separated : Notation → List (List ℕ) → List ℕ
separated notation parts = flat_map (λ part. separator notation ++ part) parts

-- parts with a separator between each two
abbrev pub joined : Notation → List (List ℕ) → List ℕ
joined notation [] = []
joined notation (first ∷ others) = first ++ separated notation others

-- a list of these parts
abbrev pub listed : Notation → List (List ℕ) → List ℕ
listed notation parts = opening notation ++ joined notation parts ++ closing notation

-- a list of a word and these parts
abbrev pub headed : Notation → List ℕ → List (List ℕ) → List ℕ
headed notation first parts = listed notation (word notation first ∷ parts)

-- what is before a part of a list: a separator, if the list has a part already
abbrev pub lead : Notation → Bool → List ℕ
lead notation begun = if begun then separator notation else []

-- further parts of a list, which has a part already or not
abbrev pub continued : Notation → Bool → List (List ℕ) → List ℕ
continued notation begun parts = if begun then separated notation parts else joined notation parts

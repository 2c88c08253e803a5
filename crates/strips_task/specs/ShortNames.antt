-- Names of at most 16 bytes with the numbers of their entries.

use Rattle.std.specs.Prelude.{◌≡◌, ℕ, IsTrue, List, All, Option, Some}
use Rattle.pddl_words.specs.declared.short_words.ShortWord.{ShortWord}
use Rattle.pddl_words.specs.ShortWords.{IsWord}
use Rattle.strips_task.specs.declared.short_names.Numbered.{Numbered}
use Rattle.std.specs.Map.{keys_of}
use Rattle.formulas.specs.Names.{IsStoredName}
use Rattle.strips_task.specs.Names.{number_named, are_distinct}

-- the name
abbrev pub name_of : Numbered → ShortWord
name_of numbered = record { front = numbered.front; back = numbered.back; len = numbered.len }

-- the word is a name in lower case that has this number
abbrev pub IsNumbered : (List ℕ → Option ℕ) → Numbered → Type 0
IsNumbered number_of numbered = (word : List ℕ) → IsWord (name_of numbered) word → IsStoredName word × (number_of word ≡ Some numbered.number)

-- a table: the names of its entries are distinct, and the short names have the numbers of their entries
pub record IsTable {V : Type 0} (entries : List (List ℕ × V)) (names : List Numbered) : Type 0 where
  pub distinct : IsTrue (are_distinct (keys_of entries))
  pub numbered : All (IsNumbered (number_named entries)) names

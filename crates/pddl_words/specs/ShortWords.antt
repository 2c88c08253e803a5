-- Words of at most 16 bytes as two numbers.

use Rattle.std.specs.Prelude.{◌≡◌, ◌≤◌, ◌<◌, ◌-◌, ℕ, cond, ltb, List, All, length, take, drop}
use Rattle.pddl_words.specs.JoinedBytes.{joined}
use Rattle.pddl_words.specs.declared.short_words.ShortWord.{ShortWord}

-- how long the first and the last bytes are that a word of so many bytes is kept by: they cover the word
abbrev pub end_len : ℕ → ℕ
end_len len = cond (ltb len 4) len (cond (ltb len 8) 4 8)

-- the first bytes and the last bytes of a word as numbers
pub record AreEnds (front back : ℕ) (word : List ℕ) : Type 0 where
  pub front_is : front ≡ joined (take (end_len (length word)) word)
  pub back_is : back ≡ joined (drop (length word - end_len (length word)) word)

-- the bytes of a word are these
pub record IsWord (short : ShortWord) (word : List ℕ) : Type 0 where
  pub bytes : All (λ byte. byte < 256) word
  pub len : length word ≡ short.len
  pub few : length word ≤ 16
  pub ends : AreEnds short.front short.back word

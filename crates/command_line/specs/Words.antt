-- What the words of a command line say.

use Rattle.std.specs.Prelude.{ℕ, not, Bool, true, false, List, [], ◌∷◌, length, Option, Some, None, codes, bytes_eq, nat_eq, nat_lt, ◌&&◌, ◌||◌, if◌then◌else◌}
use Rattle.std.specs.List.{before_first, after_first, position_or_len}
use Rattle.std.specs.Option.{option_or}

-- the command is this one
abbrev pub has_command : List ℕ → List (List ℕ) → Bool
has_command name [] = false
has_command name (program ∷ []) = false
has_command name (program ∷ command ∷ arguments) = bytes_eq command name

-- the words that follow the command
abbrev pub arguments : List (List ℕ) → List (List ℕ)
arguments [] = []
arguments (program ∷ []) = []
arguments (program ∷ command ∷ words) = words

-- the word is a group of short options that begins with `-h` or `-V`
abbrev pub is_short_help : List ℕ → Bool
is_short_help [] = false
is_short_help (dash ∷ []) = false
is_short_help (dash ∷ letter ∷ letters) = nat_eq dash 45 && (nat_eq letter 104 || nat_eq letter 86)

-- the word is an option that asks for help or for the version: `--help`, `--version`, or a group of short options that begins with `-h` or `-V`
abbrev pub is_help : List ℕ → Bool
is_help word = bytes_eq word (codes "--help") || (bytes_eq word (codes "--version") || is_short_help word)

-- one of these words asks for help or for the version; after the word `--` there are no options
unfoldable pub has_help : List (List ℕ) → Bool
has_help [] = false
has_help (word ∷ words) = (if bytes_eq word (codes "--") then false else if is_help word then true else has_help words)

-- the words that follow the program's name
abbrev pub behind_program : List (List ℕ) → List (List ℕ)
behind_program [] = []
behind_program (program ∷ words) = words

-- the command line asks for help or for the version: the command is `help`, or an option asks for it
abbrev pub asks_for_help : List (List ℕ) → Bool
asks_for_help words = has_command (codes "help") words || has_help (behind_program words)

-- the value of an option in a word, if the word is the option, an equals sign and a value
abbrev pub joined_value : List ℕ → List ℕ → Option (List ℕ)
joined_value option word =
    (if nat_lt (position_or_len (λ b. nat_eq b 61) word) (length word) && bytes_eq (before_first (λ b. nat_eq b 61) word) option
    then Some (after_first (λ b. nat_eq b 61) word)
    else None)

-- the first of some words
abbrev pub first_word : List (List ℕ) → Option (List ℕ)
first_word [] = None
first_word (word ∷ words) = Some word

-- the value of an option among some words: the first that is given
unfoldable pub value_of : List ℕ → List (List ℕ) → Option (List ℕ)
value_of option [] = None
value_of option (word ∷ words) =
    (if bytes_eq word (codes "--") then None
    else if bytes_eq word option then first_word words
    else option_or (joined_value option word) (value_of option words))

-- the first `t` of a word is its last byte
abbrev pub ends_at_first_t : List ℕ → Bool
ends_at_first_t word =
    nat_lt (position_or_len (λ b. nat_eq b 116) word) (length word) && nat_eq (length (after_first (λ b. nat_eq b 116) word)) 0

-- the word is a group of short options whose last letter is the first `t` in it: only `-t` has a value, and after other letters its value is the next word
abbrev pub is_tolerance : List ℕ → Bool
is_tolerance [] = false
is_tolerance (dash ∷ []) = false
is_tolerance (dash ∷ letter ∷ letters) = nat_eq dash 45 && (not (nat_eq letter 45) && ends_at_first_t (dash ∷ letter ∷ letters))

-- the word is an option whose value is the next word
abbrev pub takes_a_value : List ℕ → Bool
takes_a_value word =
    bytes_eq word (codes "--domain")
    || (bytes_eq word (codes "--problem")
    || (bytes_eq word (codes "--steps")
    || (bytes_eq word (codes "--dialect") || (bytes_eq word (codes "--format") || (bytes_eq word (codes "--workers") || is_tolerance word)))))

-- the word is an option: it begins with a dash, and is more than a dash
abbrev pub is_option : List ℕ → Bool
is_option [] = false
is_option (dash ∷ []) = false
is_option (dash ∷ letter ∷ letters) = nat_eq dash 45

-- the words that are neither options nor their values; the first of them may be the value of an option
unfoldable pub operands_from : Bool → List (List ℕ) → List (List ℕ)
operands_from is_value [] = []
operands_from true (word ∷ words) = operands_from false words
operands_from false (word ∷ words) =
    (if bytes_eq word (codes "--") then words
    else if takes_a_value word then operands_from true words
    else if is_option word then operands_from false words
    else word ∷ operands_from false words)

-- the words that are neither options nor their values
abbrev pub operands : List (List ℕ) → List (List ℕ)
operands words = operands_from false words

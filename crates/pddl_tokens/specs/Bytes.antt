-- What single bytes mean in a text of PDDL (PDDL 2.1, Fox and Long 2003, appendix A; which bytes are refused is this reader's choice).

use Rattle.std.specs.Prelude.{ℕ, Bool, true, false, ◌==◌, ◌&&◌, ◌||◌, nat_le, if◌then◌else◌}
use Rattle.pddl_tokens.specs.declared.bytes.ByteClass.{ByteClass}
use Rattle.pddl_tokens.specs.declared.bytes.ByteClass.TheVariants.{LineEnd, Blank, Left, Right, Semicolon, WordByte, Bad}

-- LF (10) ends a line and is a blank; the other blanks are space (32), tab (9), CR (13) and the bytes 11 and 12
abbrev pub is_other_blank : ℕ → Bool
is_other_blank b = b == 32 || b == 9 || b == 13 || b == 11 || b == 12

-- what a byte means outside comments: `(` is 40, `)` is 41, `;` is 59, and the other bytes 33 to 126 make words
unfoldable pub class_of : ℕ → ByteClass
class_of b =
    if b == 10 then LineEnd
    else (if is_other_blank b then Blank
    else (if b == 40 then Left
    else (if b == 41 then Right
    else (if b == 59 then Semicolon
    else (if nat_le 33 b && nat_le b 126 then WordByte
    else Bad)))))

-- whether a class is that of the bytes of words
abbrev pub is_word_class : ByteClass → Bool
is_word_class WordByte = true
is_word_class _ = false

-- a byte that words are made of
abbrev pub is_word_byte : ℕ → Bool
is_word_byte b = is_word_class (class_of b)

-- What single bytes mean to the check of parentheses.

use Rattle.std.specs.Prelude.{ℕ, ◌==◌, ◌&&◌, nat_le, if◌then◌else◌}
use Rattle.pddl_tokens.specs.Bytes.{is_other_blank}
use Rattle.pddl_syntax.specs.declared.marks.Mark.{Mark}
use Rattle.pddl_syntax.specs.declared.marks.Mark.TheVariants.{Plain, Left, Right, Semicolon, Bad}

-- the mark of a byte: LF (10), the other blanks and the bytes of words (33 to 126) have the same one; `(` is 40, `)` is 41, `;` is 59
unfoldable pub mark_of : ℕ → Mark
mark_of b =
    if b == 10 then Plain
    else (if is_other_blank b then Plain
    else (if b == 40 then Left
    else (if b == 41 then Right
    else (if b == 59 then Semicolon
    else (if nat_le 33 b && nat_le b 126 then Plain
    else Bad)))))

-- What a call leaves in the caller's buffer.

use Rattle.std.specs.Prelude.{◌≡◌, ℕ, List, ◌++◌, length, drop, nat_le, if◌then◌else◌}

-- the buffer with a text at its front, if there is room for all of the text
abbrev pub with_text : List ℕ → List ℕ → List ℕ
with_text text buffer = if nat_le (length text) (length buffer) then text ++ drop (length text) buffer else buffer

-- this is the length of a text, and the text is in the buffer if there is room for all of it; nothing else of the buffer has changed
abbrev pub IsHandedOut : List ℕ → ℕ → List ℕ → List ℕ → Type 0
IsHandedOut text size before after = (size ≡ length text) × (after ≡ with_text text before)

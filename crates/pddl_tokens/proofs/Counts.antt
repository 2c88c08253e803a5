-- How many pieces a text has.

use Rattle.std.proofs.Common.{ℕ, ◌+◌, ◌≤◌, List, [], ◌∷◌, length, arith, length-append}
use Rattle.pddl_tokens.specs.declared.bytes.ByteClass.{ByteClass}
use Rattle.pddl_tokens.specs.declared.bytes.ByteClass.TheVariants as c
use Rattle.pddl_tokens.specs.Bytes.{class_of}
use Rattle.pddl_tokens.specs.Tokens.{ScanState, between, in_word, in_comment, stopped, state_after, begins, pieces_from, pieces}

one_begins : (state : ScanState) (class : ByteClass) (at : ℕ) (bytes : List ℕ) → length (begins state class at bytes) ≤ 1
one_begins between c.LineEnd at bytes = omega arith
one_begins between c.Blank at bytes = omega arith
one_begins between c.Left at bytes = omega arith
one_begins between c.Right at bytes = omega arith
one_begins between c.Semicolon at bytes = omega arith
one_begins between c.WordByte at bytes = omega arith
one_begins between c.Bad at bytes = omega arith
one_begins in_word c.LineEnd at bytes = omega arith
one_begins in_word c.Blank at bytes = omega arith
one_begins in_word c.Left at bytes = omega arith
one_begins in_word c.Right at bytes = omega arith
one_begins in_word c.Semicolon at bytes = omega arith
one_begins in_word c.WordByte at bytes = omega arith
one_begins in_word c.Bad at bytes = omega arith
one_begins in_comment class at bytes = omega arith
one_begins stopped class at bytes = omega arith

few_from : (state : ScanState) (at : ℕ) (bytes : List ℕ) → length (pieces_from state at bytes) ≤ length bytes
unfolding pieces_from
few_from state at [] = omega arith
few_from state at (b ∷ bytes) =
    let first = begins state (class_of b) at (b ∷ bytes) in
    let more = pieces_from (state_after state (class_of b)) (at + 1) bytes in
    omega (arith, length-append first more, one_begins state (class_of b) at (b ∷ bytes), few_from (state_after state (class_of b)) (at + 1) bytes)

-- each piece of a text has a byte of its own
pub few_pieces : (text : List ℕ) → length (pieces text) ≤ length text
unfolding pieces
few_pieces text = few_from between 0 text

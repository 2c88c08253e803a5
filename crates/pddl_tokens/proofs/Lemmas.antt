-- How the pieces of a text go on behind a byte, a comment and a word.

use Rattle.std.proofs.Common.{◌≡◌, ℕ, suc, ◌+◌, ◌-◌, ◌<◌, Bool, true, false, not, cond, List, [], ◌∷◌, ◌++◌, length, get_or, take, drop, refl, sym, ap, ◌∙◌, arith, drop-cons, add-one, add-zero, length-drop, drop-drop}
use Rattle.std.proofs.lemmas.List.{take_all, drop_all}
use Rattle.std.specs.List.{prefix_len}
use Rattle.pddl_tokens.specs.declared.bytes.ByteClass.{ByteClass}
use Rattle.pddl_tokens.specs.declared.bytes.ByteClass.TheVariants as c
use Rattle.pddl_tokens.specs.declared.spans.TokenKind.TheVariants.{Left, Right, Word}
use Rattle.pddl_tokens.specs.Bytes.{class_of, is_word_class, is_word_byte}
use Rattle.pddl_tokens.specs.Cut.{is_line_end_class, is_comment_byte}
use Rattle.pddl_tokens.specs.Tokens.{Piece, token, bad, span, ScanState, between, in_word, in_comment, stopped, pieces_from, begins, state_after, word_at}
use Rattle.pddl_tokens.specs.Lexeme.{pieces_at}

-- the pieces behind the first byte, by its class
pub first_byte : (state : ScanState) (at b : ℕ) (bytes : List ℕ) (class : ByteClass) → class_of b ≡ class → pieces_from state at (b ∷ bytes) ≡ begins state class at (b ∷ bytes) ++ pieces_from (state_after state class) (at + 1) bytes
unfolding pieces_from
first_byte state at b bytes class is = ap (λ (k : ByteClass). begins state k at (b ∷ bytes) ++ pieces_from (state_after state k) (at + 1) bytes) is

-- how far a run of bytes that pass goes, by its first byte
pub run_goes : (p : ℕ → Bool) (b : ℕ) (bytes : List ℕ) → p b ≡ true → prefix_len p (b ∷ bytes) ≡ 1 + prefix_len p bytes
run_goes p b bytes passes = ap (λ (t : Bool). cond t (1 + prefix_len p bytes) 0) passes

pub run_ends : (p : ℕ → Bool) (b : ℕ) (bytes : List ℕ) → p b ≡ false → prefix_len p (b ∷ bytes) ≡ 0
run_ends p b bytes fails = ap (λ (t : Bool). cond t (1 + prefix_len p bytes) 0) fails

-- the pieces behind the first n bytes
abbrev pub behind : ℕ → ℕ → List ℕ → List Piece
behind n at bytes = pieces_from between (at + n) (drop n bytes)

behind_zero : (at : ℕ) (bytes : List ℕ) → behind 0 at bytes ≡ pieces_from between at bytes
behind_zero at bytes = rw add-zero refl

behind_more : (n at b : ℕ) (bytes : List ℕ) → behind (1 + n) at (b ∷ bytes) ≡ behind n (at + 1) bytes
behind_more n at b bytes = let e : 1 + n ≡ suc n = omega arith in let f : at + suc n ≡ at + 1 + n = omega arith in rw (e, f) refl

-- behind a bad byte nothing is read
nothing_behind : (at : ℕ) (bytes : List ℕ) → pieces_from stopped at bytes ≡ []
unfolding pieces_from
nothing_behind at [] = refl
nothing_behind at (b ∷ bytes) = nothing_behind (at + 1) bytes

-- whether a comment goes on with a byte of this class
abbrev pub continues_comment : ByteClass → Bool
continues_comment class = not (is_line_end_class class)

-- a run goes on with its first byte
goes : (state : ScanState) (p : ℕ → Bool) (at b : ℕ) (bytes : List ℕ) → pieces_from state at (b ∷ bytes) ≡ pieces_from state (at + 1) bytes → p b ≡ true → pieces_from state (at + 1) bytes ≡ behind (prefix_len p bytes) (at + 1) bytes → pieces_from state at (b ∷ bytes) ≡ behind (prefix_len p (b ∷ bytes)) at (b ∷ bytes)
goes state p at b bytes step passes rest = step ∙ rest ∙ sym (behind_more (prefix_len p bytes) at b bytes) ∙ ap (λ (n : ℕ). behind n at (b ∷ bytes)) (sym (run_goes p b bytes passes))

-- a run ends before its first byte
ends : (state : ScanState) (p : ℕ → Bool) (at b : ℕ) (bytes : List ℕ) → pieces_from state at (b ∷ bytes) ≡ pieces_from between at (b ∷ bytes) → p b ≡ false → pieces_from state at (b ∷ bytes) ≡ behind (prefix_len p (b ∷ bytes)) at (b ∷ bytes)
ends state p at b bytes same fails = same ∙ sym (behind_zero at (b ∷ bytes)) ∙ ap (λ (n : ℕ). behind n at (b ∷ bytes)) (sym (run_ends p b bytes fails))

-- in a word, the next piece is behind its last byte
word_rest_by : (at b : ℕ) (bytes : List ℕ) (class : ByteClass) → class_of b ≡ class → pieces_from in_word (at + 1) bytes ≡ behind (prefix_len is_word_byte bytes) (at + 1) bytes → pieces_from in_word at (b ∷ bytes) ≡ behind (prefix_len is_word_byte (b ∷ bytes)) at (b ∷ bytes)
word_rest_by at b bytes c.WordByte is rest = goes in_word is_word_byte at b bytes (first_byte in_word at b bytes _ is) (ap is_word_class is) rest
word_rest_by at b bytes c.LineEnd is rest = ends in_word is_word_byte at b bytes (first_byte in_word at b bytes _ is ∙ sym (first_byte between at b bytes _ is)) (ap is_word_class is)
word_rest_by at b bytes c.Blank is rest = ends in_word is_word_byte at b bytes (first_byte in_word at b bytes _ is ∙ sym (first_byte between at b bytes _ is)) (ap is_word_class is)
word_rest_by at b bytes c.Left is rest = ends in_word is_word_byte at b bytes (first_byte in_word at b bytes _ is ∙ sym (first_byte between at b bytes _ is)) (ap is_word_class is)
word_rest_by at b bytes c.Right is rest = ends in_word is_word_byte at b bytes (first_byte in_word at b bytes _ is ∙ sym (first_byte between at b bytes _ is)) (ap is_word_class is)
word_rest_by at b bytes c.Semicolon is rest = ends in_word is_word_byte at b bytes (first_byte in_word at b bytes _ is ∙ sym (first_byte between at b bytes _ is)) (ap is_word_class is)
word_rest_by at b bytes c.Bad is rest = ends in_word is_word_byte at b bytes (first_byte in_word at b bytes _ is ∙ sym (first_byte between at b bytes _ is)) (ap is_word_class is)

word_rest : (at : ℕ) (bytes : List ℕ) → pieces_from in_word at bytes ≡ behind (prefix_len is_word_byte bytes) at bytes
unfolding pieces_from
word_rest at [] = refl
word_rest at (b ∷ bytes) = word_rest_by at b bytes (class_of b) refl (word_rest (at + 1) bytes)

-- in a comment, the next piece is behind its last byte, where the LF ends it
comment_rest_by : (at b : ℕ) (bytes : List ℕ) (class : ByteClass) → class_of b ≡ class → pieces_from in_comment (at + 1) bytes ≡ behind (prefix_len is_comment_byte bytes) (at + 1) bytes → pieces_from in_comment at (b ∷ bytes) ≡ behind (prefix_len is_comment_byte (b ∷ bytes)) at (b ∷ bytes)
comment_rest_by at b bytes c.LineEnd is rest = ends in_comment is_comment_byte at b bytes (first_byte in_comment at b bytes _ is ∙ sym (first_byte between at b bytes _ is)) (ap continues_comment is)
comment_rest_by at b bytes c.WordByte is rest = goes in_comment is_comment_byte at b bytes (first_byte in_comment at b bytes _ is) (ap continues_comment is) rest
comment_rest_by at b bytes c.Blank is rest = goes in_comment is_comment_byte at b bytes (first_byte in_comment at b bytes _ is) (ap continues_comment is) rest
comment_rest_by at b bytes c.Left is rest = goes in_comment is_comment_byte at b bytes (first_byte in_comment at b bytes _ is) (ap continues_comment is) rest
comment_rest_by at b bytes c.Right is rest = goes in_comment is_comment_byte at b bytes (first_byte in_comment at b bytes _ is) (ap continues_comment is) rest
comment_rest_by at b bytes c.Semicolon is rest = goes in_comment is_comment_byte at b bytes (first_byte in_comment at b bytes _ is) (ap continues_comment is) rest
comment_rest_by at b bytes c.Bad is rest = goes in_comment is_comment_byte at b bytes (first_byte in_comment at b bytes _ is) (ap continues_comment is) rest

comment_rest : (at : ℕ) (bytes : List ℕ) → pieces_from in_comment at bytes ≡ behind (prefix_len is_comment_byte bytes) at bytes
unfolding pieces_from
comment_rest at [] = refl
comment_rest at (b ∷ bytes) = comment_rest_by at b bytes (class_of b) refl (comment_rest (at + 1) bytes)

-- a word's bytes, and what is behind them
pub word_whole : (at b : ℕ) (bytes : List ℕ) → class_of b ≡ c.WordByte → pieces_from between at (b ∷ bytes) ≡ word_at at (b ∷ bytes) ∷ behind (prefix_len is_word_byte (b ∷ bytes)) at (b ∷ bytes)
word_whole at b bytes is =
    first_byte between at b bytes _ is
    ∙ ap (λ (ps : List Piece). word_at at (b ∷ bytes) ∷ ps) (sym (first_byte in_word at b bytes _ is) ∙ word_rest at (b ∷ bytes))

-- a comment, and what is behind it
comment_whole : (at b : ℕ) (bytes : List ℕ) → class_of b ≡ c.Semicolon → pieces_from between at (b ∷ bytes) ≡ behind (prefix_len is_comment_byte (b ∷ bytes)) at (b ∷ bytes)
comment_whole at b bytes is = first_byte between at b bytes _ is ∙ sym (first_byte in_comment at b bytes _ is) ∙ comment_rest at (b ∷ bytes)

-- an offset before the end is that of a byte
pub byte_at : (text : List ℕ) (at : ℕ) → at < length text → drop at text ≡ get_or text at 0 ∷ drop (at + 1) text
byte_at text at lt = rw add-one (drop-cons text at 0 lt)

-- the pieces from an offset on, where the bytes there are known
from_byte : (text : List ℕ) (at : ℕ) → at < length text → pieces_at text at ≡ pieces_from between at (get_or text at 0 ∷ drop (at + 1) text)
from_byte text at lt = ap (pieces_from between at) (byte_at text at lt)

behind_at : (text : List ℕ) (at n : ℕ) → behind n at (drop at text) ≡ pieces_at text (at + n)
behind_at text at n = ap (pieces_from between (at + n)) (drop-drop n at text)

pub end_step : (text : List ℕ) (at : ℕ) → at ≡ length text → pieces_at text at ≡ []
unfolding pieces_from
end_step text at is = ap (pieces_from between at) (drop_all at text (omega arith))

pub line_end_step : (text : List ℕ) (at : ℕ) → at < length text → class_of (get_or text at 0) ≡ c.LineEnd → pieces_at text at ≡ pieces_at text (at + 1)
line_end_step text at lt is = from_byte text at lt ∙ first_byte between at _ _ _ is

pub blank_step : (text : List ℕ) (at : ℕ) → at < length text → class_of (get_or text at 0) ≡ c.Blank → pieces_at text at ≡ pieces_at text (at + 1)
blank_step text at lt is = from_byte text at lt ∙ first_byte between at _ _ _ is

pub comment_step : (text : List ℕ) (at n : ℕ) → at < length text → class_of (get_or text at 0) ≡ c.Semicolon → n ≡ prefix_len is_comment_byte (drop at text) → pieces_at text at ≡ pieces_at text (at + n)
comment_step text at n lt is run =
    from_byte text at lt ∙ comment_whole at _ _ is
    ∙ ap (λ (bytes : List ℕ). behind (prefix_len is_comment_byte bytes) at bytes) (sym (byte_at text at lt))
    ∙ behind_at text at _ ∙ ap (λ (m : ℕ). pieces_at text (at + m)) (sym run)

-- a run whose first byte passes isn't empty
pub run_not_empty : (p : ℕ → Bool) (text : List ℕ) (at n : ℕ) → at < length text → p (get_or text at 0) ≡ true → n ≡ prefix_len p (drop at text) → 0 < n
run_not_empty p text at n lt passes run =
    let first : n ≡ 1 + prefix_len p (drop (at + 1) text) = run ∙ ap (prefix_len p) (byte_at text at lt) ∙ run_goes p _ _ passes in
    omega arith

-- the text of a token of one byte
one_byte : (at : ℕ) (bytes : List ℕ) → take (at + 1 - at) bytes ≡ take 1 bytes
one_byte at bytes = let size : at + 1 - at ≡ 1 = omega arith in ap (λ (n : ℕ). take n bytes) size

pub left_step : (text : List ℕ) (at : ℕ) → at < length text → class_of (get_or text at 0) ≡ c.Left → pieces_at text at ≡ token Left (span at (at + 1)) (take (at + 1 - at) (drop at text)) ∷ pieces_at text (at + 1)
left_step text at lt is =
    from_byte text at lt ∙ first_byte between at _ _ _ is
    ∙ ap (λ (bytes : List ℕ). token Left (span at (at + 1)) bytes ∷ pieces_at text (at + 1)) (ap (take 1) (sym (byte_at text at lt)) ∙ sym (one_byte at (drop at text)))

pub right_step : (text : List ℕ) (at : ℕ) → at < length text → class_of (get_or text at 0) ≡ c.Right → pieces_at text at ≡ token Right (span at (at + 1)) (take (at + 1 - at) (drop at text)) ∷ pieces_at text (at + 1)
right_step text at lt is =
    from_byte text at lt ∙ first_byte between at _ _ _ is
    ∙ ap (λ (bytes : List ℕ). token Right (span at (at + 1)) bytes ∷ pieces_at text (at + 1)) (ap (take 1) (sym (byte_at text at lt)) ∙ sym (one_byte at (drop at text)))

pub word_step : (text : List ℕ) (at n : ℕ) → at < length text → class_of (get_or text at 0) ≡ c.WordByte → n ≡ prefix_len is_word_byte (drop at text) → pieces_at text at ≡ token Word (span at (at + n)) (take (at + n - at) (drop at text)) ∷ pieces_at text (at + n)
word_step text at n lt is run =
    let size : at + n - at ≡ n = omega arith in
    from_byte text at lt ∙ word_whole at _ _ is
    ∙ ap (λ (bytes : List ℕ). word_at at bytes ∷ behind (prefix_len is_word_byte bytes) at bytes) (sym (byte_at text at lt))
    ∙ ap (λ (m : ℕ). token Word (span at (at + m)) (take m (drop at text)) ∷ behind m at (drop at text)) (sym run)
    ∙ ap (λ (ps : List Piece). token Word (span at (at + n)) (take n (drop at text)) ∷ ps) (behind_at text at n)
    ∙ ap (λ (m : ℕ). token Word (span at (at + n)) (take m (drop at text)) ∷ pieces_at text (at + n)) (sym size)

pub bad_step : (text : List ℕ) (at : ℕ) → at < length text → class_of (get_or text at 0) ≡ c.Bad → pieces_at text at ≡ bad at ∷ []
bad_step text at lt is = from_byte text at lt ∙ first_byte between at _ _ _ is ∙ ap (λ (ps : List Piece). bad at ∷ ps) (nothing_behind (at + 1) (drop (at + 1) text))

-- `&text[at..]` as a list
pub rest_whole : (text : List ℕ) (at : ℕ) → take (length text - at) (drop at text) ≡ drop at text
rest_whole text at = take_all (length text - at) (drop at text) (omega (arith, length-drop at text))

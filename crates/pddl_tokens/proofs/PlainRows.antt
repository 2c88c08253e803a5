-- The pieces of a plain row in parentheses.

use Rattle.std.proofs.Common.{◌≡◌, ◌≢◌, ℕ, ◌+◌, ◌<◌, true, false, List, [], ◌∷◌, ◌++◌, length, take, drop, get_or, refl, sym, ap, ◌∙◌, arith, append_assoc, length-append, subst, drop-drop}
use Rattle.std.specs.Prelude.{All, IsTrue}
use Rattle.std.specs.List.{list_all, prefix_len, join_with_byte}
use Rattle.std.proofs.Math.Seq.{take-append_seam}
use Rattle.std.proofs.lemmas.List.{take-append-drop, length-take-le}
use Rattle.std.proofs.lemmas.Bool.{and_parts}
use Rattle.std.proofs.lemmas.List.Elements.{All-head, All-tail}
use Rattle.std.proofs.lemmas.List.Splits.{join_with_byte-slice_split, length-slice_split}
use Rattle.pddl_words.specs.SpacedWords.{is_space, words_of}
use Rattle.pddl_tokens.specs.declared.bytes.ByteClass.{ByteClass}
use Rattle.pddl_tokens.specs.declared.bytes.ByteClass.TheVariants as c
use Rattle.pddl_tokens.specs.declared.spans.TokenKind.TheVariants.{Left, Right, Word}
use Rattle.pddl_tokens.specs.Bytes.{class_of, is_word_class, is_word_byte}
use Rattle.pddl_tokens.specs.Cut.{is_blank_class}
use Rattle.pddl_tokens.specs.Tokens.{Piece, token, span, between, pieces_from}
use Rattle.pddl_tokens.specs.Lexeme.{pieces_at}
use Rattle.pddl_tokens.specs.ParenRanges.{is_word, IsPlain, BeginsWithList, word_pieces, range_pieces}
use Rattle.pddl_tokens.proofs.Lemmas.{first_byte, run_goes, run_ends, behind, word_whole, byte_at, line_end_step, blank_step}

-- a run of bytes of words ends at the first byte that is none
whole_run : (word : List ℕ) (end : ℕ) (rest : List ℕ) → list_all is_word_byte word ≡ true → is_word_byte end ≡ false → prefix_len is_word_byte (word ++ end ∷ rest) ≡ length word
whole_run [] end rest all ends = run_ends is_word_byte end rest ends
whole_run (b ∷ word) end rest all ends =
    let (first, others) = and_parts (is_word_byte b) (list_all is_word_byte word) all in
    run_goes is_word_byte b (word ++ end ∷ rest) first ∙ ap (λ n. 1 + n) (whole_run word end rest others ends) ∙ omega arith

behind_front : (front rest : List ℕ) → drop (length front) (front ++ rest) ≡ rest
behind_front [] rest = refl
behind_front (b ∷ front) rest = behind_front front rest

pub class_by : (class : ByteClass) → is_word_class class ≡ true → class ≡ c.WordByte
class_by c.WordByte is = refl
class_by c.LineEnd is = absurd cc
class_by c.Blank is = absurd cc
class_by c.Left is = absurd cc
class_by c.Right is = absurd cc
class_by c.Semicolon is = absurd cc
class_by c.Bad is = absurd cc

-- a word comes first, and then a byte that is none of a word's
word_first : (at : ℕ) (word : List ℕ) (end : ℕ) (rest : List ℕ) → is_word word ≡ true → is_word_byte end ≡ false → pieces_from between at (word ++ end ∷ rest) ≡ token Word (span at (at + length word)) word ∷ pieces_from between (at + length word) (end ∷ rest)
word_first at [] end rest is ends = absurd cc
word_first at (b ∷ bytes) end rest is ends =
    let word = b ∷ bytes in
    let (first, _) = and_parts (is_word_byte b) (list_all is_word_byte bytes) is in
    word_whole at b (bytes ++ end ∷ rest) (class_by (class_of b) first)
    ∙ ap (λ (n : ℕ). token Word (span at (at + n)) (take n (word ++ end ∷ rest)) ∷ behind n at (word ++ end ∷ rest)) (whole_run word end rest is ends)
    ∙ ap (λ (front : List ℕ). token Word (span at (at + length word)) front ∷ behind (length word) at (word ++ end ∷ rest)) (take-append_seam word (end ∷ rest))
    ∙ ap (λ (bytes : List ℕ). token Word (span at (at + length word)) word ∷ pieces_from between (at + length word) bytes) (behind_front word (end ∷ rest))

space_class : class_of 32 ≡ c.Blank
unfolding class_of
space_class = refl

left_class : class_of 40 ≡ c.Left
unfolding class_of
left_class = refl

right_class : class_of 41 ≡ c.Right
unfolding class_of
right_class = refl

-- words with a space between each two come first, and then a `)`
words_first : (at : ℕ) (word : List ℕ) (words : List (List ℕ)) (rest : List ℕ) → All (λ w. IsTrue (is_word w)) (word ∷ words) → pieces_from between at (join_with_byte 32 (word ∷ words) ++ 41 ∷ rest) ≡ word_pieces at (word ∷ words) ++ pieces_from between (at + length (join_with_byte 32 (word ∷ words))) (41 ∷ rest)
unfolding word_pieces
words_first at word [] rest are = word_first at word 41 rest (All-head (λ w. IsTrue (is_word w)) word [] are) (ap is_word_class right_class)
words_first at word (next ∷ words) rest are =
    let more = join_with_byte 32 (next ∷ words) in
    let size : at + length word + 1 + length more ≡ at + length (word ++ 32 ∷ more) = omega (arith, length-append word (32 ∷ more)) in
    ap (pieces_from between at) (append_assoc word (32 ∷ more) (41 ∷ rest))
    ∙ word_first at word 32 (more ++ 41 ∷ rest) (All-head (λ w. IsTrue (is_word w)) word (next ∷ words) are) (ap is_word_class space_class)
    ∙ ap (λ (ps : List Piece). token Word (span at (at + length word)) word ∷ ps) (
    first_byte between (at + length word) 32 (more ++ 41 ∷ rest) c.Blank space_class
    ∙ words_first (at + length word + 1) next words rest (All-tail (λ w. IsTrue (is_word w)) word (next ∷ words) are)
    ∙ ap (λ (n : ℕ). word_pieces (at + length word + 1) (next ∷ words) ++ pieces_from between n (41 ∷ rest)) size
    )

some_words_first : (at : ℕ) (words : List (List ℕ)) (rest : List ℕ) → words ≢ [] → All (λ w. IsTrue (is_word w)) words → pieces_from between at (join_with_byte 32 words ++ 41 ∷ rest) ≡ word_pieces at words ++ pieces_from between (at + length (join_with_byte 32 words)) (41 ∷ rest)
some_words_first at [] rest some are = absurd (some refl)
some_words_first at (word ∷ words) rest some are = words_first at word words rest are

-- even an empty row has a word, which is empty
pub row_has_words : (row : List ℕ) → words_of row ≢ []
row_has_words row none = let size : length (words_of row) ≡ 0 = ap length none in omega (arith, length-slice_split is_space row, size)

row_first : (at : ℕ) (row rest : List ℕ) → IsPlain row → pieces_from between at (row ++ 41 ∷ rest) ≡ word_pieces at (words_of row) ++ pieces_from between (at + length row) (41 ∷ rest)
row_first at row rest plain =
    subst (λ (bytes : List ℕ). pieces_from between at (bytes ++ 41 ∷ rest) ≡ word_pieces at (words_of row) ++ pieces_from between (at + length bytes) (41 ∷ rest))
    (join_with_byte-slice_split 32 row) (some_words_first at (words_of row) rest (row_has_words row) plain)

-- a plain row in parentheses comes first
pub range_first : (at : ℕ) (row rest : List ℕ) → IsPlain row → pieces_from between at (40 ∷ (row ++ 41 ∷ rest)) ≡ range_pieces at row ++ pieces_from between (at + 1 + length row + 1) rest
range_first at row rest plain =
    let close = token Right (span (at + 1 + length row) (at + 1 + length row + 1)) (41 ∷ []) in
    first_byte between at 40 (row ++ 41 ∷ rest) c.Left left_class
    ∙ ap (λ (ps : List Piece). token Left (span at (at + 1)) (40 ∷ []) ∷ ps) (
    row_first (at + 1) row rest plain
    ∙ ap (λ (ps : List Piece). word_pieces (at + 1) (words_of row) ++ ps) (first_byte between (at + 1 + length row) 41 rest c.Right right_class)
    ∙ sym (append_assoc (word_pieces (at + 1) (words_of row)) (close ∷ []) (pieces_from between (at + 1 + length row + 1) rest))
    )

blank_by : (text : List ℕ) (at : ℕ) (class : ByteClass) → at < length text → class_of (get_or text at 0) ≡ class → is_blank_class class ≡ true → pieces_at text at ≡ pieces_at text (at + 1)
blank_by text at c.LineEnd lt is blank = line_end_step text at lt is
blank_by text at c.Blank lt is blank = blank_step text at lt is
blank_by text at c.WordByte lt is blank = absurd cc
blank_by text at c.Left lt is blank = absurd cc
blank_by text at c.Right lt is blank = absurd cc
blank_by text at c.Semicolon lt is blank = absurd cc
blank_by text at c.Bad lt is blank = absurd cc

-- no piece begins with a blank
pub behind_blank : (text : List ℕ) (at : ℕ) → at < length text → is_blank_class (class_of (get_or text at 0)) ≡ true → pieces_at text at ≡ pieces_at text (at + 1)
behind_blank text at lt blank = blank_by text at (class_of (get_or text at 0)) lt refl blank

-- a `(` stands at an offset, and so many bytes behind it a `)`
front_at : (text inside : List ℕ) (at size : ℕ) → at < length text → get_or text at 0 ≡ 40 → inside ≡ drop (at + 1) text → size < length inside → get_or inside size 0 ≡ 41 → drop at text ≡ 40 ∷ (take size inside ++ 41 ∷ drop (size + 1) inside)
front_at text inside at size lt left same within right =
    let row = take size inside in
    let rest = drop (size + 1) inside in
    let whole : row ++ 41 ∷ rest ≡ inside =
    ap (λ (b : ℕ). row ++ b ∷ rest) (sym right) ∙ ap (λ (bytes : List ℕ). row ++ bytes) (sym (byte_at inside size within)) ∙ take-append-drop size inside
    in
    byte_at text at lt ∙ ap (λ (b : ℕ). b ∷ drop (at + 1) text) left ∙ ap (λ (bytes : List ℕ). 40 ∷ bytes) (sym same ∙ sym whole)

list_front : (row rest : List ℕ) → take (length row + 2) (40 ∷ (row ++ 41 ∷ rest)) ≡ 40 ∷ (row ++ 41 ∷ [])
list_front row rest =
    let list = 40 ∷ (row ++ 41 ∷ []) in
    let size : length row + 2 ≡ length list = omega (arith, length-append row (41 ∷ [])) in
    let seam : list ++ rest ≡ 40 ∷ (row ++ 41 ∷ rest) = ap (λ (bytes : List ℕ). 40 ∷ bytes) (append_assoc row (41 ∷ []) rest) in
    ap (λ (n : ℕ). take n (40 ∷ (row ++ 41 ∷ rest))) size ∙ ap (take (length list)) (sym seam) ∙ take-append_seam list rest

-- the text from there on begins with that list
pub begins_at : (text list inside : List ℕ) (at size : ℕ) → at < length text → get_or text at 0 ≡ 40 → list ≡ drop at text → inside ≡ drop (at + 1) text → size < length inside → get_or inside size 0 ≡ 41 → BeginsWithList list (take size inside)
begins_at text list inside at size lt left from same within right =
    ap (take (length (take size inside) + 2)) (from ∙ front_at text inside at size lt left same within right) ∙ list_front (take size inside) (drop (size + 1) inside)

-- the pieces from there on, if what is in the list is plain
pub range_at : (text inside : List ℕ) (at size : ℕ) → at < length text → get_or text at 0 ≡ 40 → inside ≡ drop (at + 1) text → size < length inside → get_or inside size 0 ≡ 41 → IsPlain (take size inside) → pieces_at text at ≡ range_pieces at (take size inside) ++ pieces_at text (at + 1 + size + 1)
range_at text inside at size lt left same within right plain =
    let row = take size inside in
    let rest = drop (size + 1) inside in
    let front = front_at text inside at size lt left same within right in
    let long : length row ≡ size = length-take-le size inside (omega arith) in
    let offset : at + 1 + (size + 1) ≡ at + 1 + size + 1 = omega arith in
    let behind_it : rest ≡ drop (at + 1 + size + 1) text = ap (drop (size + 1)) same ∙ drop-drop (size + 1) (at + 1) text ∙ ap (λ (n : ℕ). drop n text) offset in
    ap (pieces_from between at) front
    ∙ range_first at row rest plain
    ∙ ap (λ (n : ℕ). range_pieces at row ++ pieces_from between (at + 1 + n + 1) rest) long
    ∙ ap (λ (bytes : List ℕ). range_pieces at row ++ pieces_from between (at + 1 + size + 1) bytes) behind_it

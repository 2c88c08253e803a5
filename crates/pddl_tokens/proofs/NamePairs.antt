-- A row is names where each byte goes on behind the byte before it, and the last byte is no space.

use Rattle.std.proofs.Common.{◌≡◌, ◌≢◌, ℕ, ◌+◌, ◌<◌, ◌-◌, ◌≤◌, suc, zero, Bool, true, false, List, [], ◌∷◌, drop, take, length, get_or, refl, sym, ap, ap₂, ◌∙◌, subst, arith, add-one, ⊎_elim}
use Rattle.std.specs.Prelude.{◌&&◌, ◌||◌, ◌==◌, not}
use Rattle.std.specs.Char.{is_ascii_alphabetic}
use Rattle.std.specs.Int.{is_in_range}
use Rattle.std.specs.List.{list_all}
use Rattle.std.proofs.lemmas.Bool.{eqb-true, eqb-false, ne_eqb, eq-eqb, and_from, and_left, and_right, or_right, cases_eq, cases_lt}
use Rattle.std.proofs.lemmas.List.{get_or-drop, get_or-take, get_or_append_left, get_or_at}
use Rattle.pddl_words.specs.Pairs.{GoesOnTo, begins_name, goes_on}
use Rattle.pddl_words.specs.SpacedWords.{is_space, words_of}
use Rattle.pddl_words.specs.Words.{is_name, is_name_byte}
use Rattle.pddl_words.proofs.NameRows.{names_from, from_start, at_end, no_letter, letter, space, name_byte, other_byte}
use Rattle.pddl_tokens.specs.ParenRanges.{BeginsWithList}
use Rattle.pddl_tokens.proofs.Lemmas.{rest_whole}

-- single bytes

goes_on_by : (before b : ℕ) (alphabetic name spaced begins : Bool) → is_ascii_alphabetic b ≡ alphabetic → is_name_byte b ≡ name → is_space b ≡ spaced → begins_name before ≡ begins → goes_on before b ≡ (alphabetic || ((name || spaced) && not begins))
unfolding goes_on
goes_on_by before b alphabetic name spaced begins is is' is'' is''' = λ i. is i || ((is' i || is'' i) && not (is''' i))

-- neither a space nor a `(`
begins_none : (b : ℕ) → b ≢ 32 → b ≢ 40 → begins_name b ≡ false
unfolding begins_name
begins_none b space left = λ i. ne_eqb b 32 space i || ne_eqb b 40 left i

space_begins : (b : ℕ) → b ≡ 32 → begins_name b ≡ true
unfolding begins_name
space_begins b is = ap begins_name is

letter_begins_none : (b : ℕ) → is_ascii_alphabetic b ≡ true → begins_name b ≡ false
letter_begins_none b is =
    begins_none b
    (λ e. let no : is_ascii_alphabetic 32 ≡ true = sym (ap is_ascii_alphabetic e) ∙ is in absurd cc)
    (λ e. let no : is_ascii_alphabetic 40 ≡ true = sym (ap is_ascii_alphabetic e) ∙ is in absurd cc)

name_begins_none : (b : ℕ) → b ≢ 32 → is_name_byte b ≡ true → begins_name b ≡ false
name_begins_none b space is = begins_none b space (λ e. let no : is_name_byte 40 ≡ true = sym (ap is_name_byte e) ∙ is in absurd cc)

no_letter_by : (digit upper lower mark : Bool) → (((digit || upper) || lower) || mark) ≡ false → (upper || lower) ≡ false
no_letter_by false false false mark is = refl
no_letter_by true upper lower mark is = absurd cc
no_letter_by false true lower mark is = absurd cc
no_letter_by false false true mark is = absurd cc

other_no_letter : (b : ℕ) → is_name_byte b ≡ false → is_ascii_alphabetic b ≡ false
other_no_letter b is = no_letter_by (is_in_range 48 57 b) (is_in_range 65 90 b) (is_in_range 97 122 b) (b == 45 || b == 95) is

-- rows

-- whether each byte goes on behind the one before it, the first behind this byte, and no name is left to begin
all_go_on : ℕ → List ℕ → Bool
all_go_on before [] = not (begins_name before)
all_go_on before (b ∷ bytes) = goes_on before b && all_go_on b bytes

space_goes : (alphabetic name : Bool) → (alphabetic || ((name || true) && true)) ≡ true
space_goes true name = refl
space_goes false true = refl
space_goes false false = refl

at_name : (before b : ℕ) (bytes : List ℕ) (alphabetic : Bool) → is_ascii_alphabetic b ≡ alphabetic → begins_name before ≡ true → names_from (begins_name b) bytes ≡ all_go_on b bytes → names_from true (b ∷ bytes) ≡ (goes_on before b && all_go_on b bytes)
at_name before b bytes true is begins same =
    letter (b ∷ bytes) 0 (omega arith) is
    ∙ ap (λ (t : Bool). names_from t bytes) (sym (letter_begins_none b is)) ∙ same
    ∙ ap (λ (t : Bool). t && all_go_on b bytes) (sym (goes_on_by before b true _ _ _ is refl refl refl))
at_name before b bytes false is begins same =
    no_letter (b ∷ bytes) 0 (omega arith) is
    ∙ ap (λ (t : Bool). t && all_go_on b bytes) (sym (goes_on_by before b false _ _ true is refl refl begins ∙ and_right (is_name_byte b || is_space b) false refl))

in_name : (before b : ℕ) (bytes : List ℕ) (spaced name : Bool) → is_space b ≡ spaced → is_name_byte b ≡ name → begins_name before ≡ false → names_from (begins_name b) bytes ≡ all_go_on b bytes → names_from false (b ∷ bytes) ≡ (goes_on before b && all_go_on b bytes)
in_name before b bytes true name is is' none same =
    let e : b ≡ 32 = eqb-true b 32 is in
    space (b ∷ bytes) 0 (omega arith) e
    ∙ ap (λ (t : Bool). names_from t bytes) (sym (space_begins b e)) ∙ same
    ∙ ap (λ (t : Bool). t && all_go_on b bytes) (sym (goes_on_by before b _ name true false refl is' is none ∙ space_goes (is_ascii_alphabetic b) name))
in_name before b bytes false true is is' none same =
    name_byte (b ∷ bytes) 0 (omega arith) (eqb-false b 32 is) is'
    ∙ ap (λ (t : Bool). names_from t bytes) (sym (name_begins_none b (eqb-false b 32 is) is')) ∙ same
    ∙ ap (λ (t : Bool). t && all_go_on b bytes) (sym (goes_on_by before b _ true false false refl is' is none ∙ or_right (is_ascii_alphabetic b) true refl))
in_name before b bytes false false is is' none same =
    other_byte (b ∷ bytes) 0 (omega arith) (eqb-false b 32 is) is'
    ∙ ap (λ (t : Bool). t && all_go_on b bytes) (sym (goes_on_by before b false false false false (other_no_letter b is') is' is none))

step_by : (before b : ℕ) (bytes : List ℕ) (begins : Bool) → begins_name before ≡ begins → names_from (begins_name b) bytes ≡ all_go_on b bytes → names_from begins (b ∷ bytes) ≡ (goes_on before b && all_go_on b bytes)
step_by before b bytes true is same = at_name before b bytes _ refl is same
step_by before b bytes false is same = in_name before b bytes _ _ refl refl is same

names_by : (before : ℕ) (row : List ℕ) → names_from (begins_name before) row ≡ all_go_on before row
unfolding all_go_on
names_by before [] = at_end (begins_name before) [] 0 (omega arith)
names_by before (b ∷ bytes) = step_by before b bytes (begins_name before) refl (names_by b bytes)

left_begins : begins_name 40 ≡ true
unfolding begins_name
left_begins = refl

-- a row behind a `(` is names if all of it goes on
row_by : (row : List ℕ) (t : Bool) → all_go_on 40 row ≡ t → t ≡ list_all is_name (words_of row)
row_by row t is = sym is ∙ sym (names_by 40 row) ∙ ap (λ (begins : Bool). names_from begins row) left_begins ∙ from_start row

each_goes : (before : ℕ) (row : List ℕ) → ((k : ℕ) → k < length row → goes_on (get_or (before ∷ row) k 0) (get_or row k 0) ≡ true) → begins_name (get_or (before ∷ row) (length row) 0) ≡ false → all_go_on before row ≡ true
unfolding all_go_on
each_goes before [] each end = ap not end
each_goes before (b ∷ bytes) each end =
    and_from (goes_on before b) (all_go_on b bytes) (each 0 (omega arith)) (each_goes b bytes (λ k lt. each (suc k) (omega arith)) end)

one_stops : (before : ℕ) (row : List ℕ) (k : ℕ) → k < length row → goes_on (get_or (before ∷ row) k 0) (get_or row k 0) ≡ false → all_go_on before row ≡ false
unfolding all_go_on
one_stops before [] k lt is = absurd (omega arith)
one_stops before (b ∷ bytes) zero lt is = and_left (goes_on before b) (all_go_on b bytes) is
one_stops before (b ∷ bytes) (suc k) lt is = and_right (goes_on before b) (all_go_on b bytes) (one_stops b bytes k (omega arith) is)

ends_open : (before : ℕ) (row : List ℕ) → begins_name (get_or (before ∷ row) (length row) 0) ≡ true → all_go_on before row ≡ false
unfolding all_go_on
ends_open before [] end = ap not end
ends_open before (b ∷ bytes) end = and_right (goes_on before b) (all_go_on b bytes) (ends_open b bytes end)

-- the key of a list

key_at : (list key : List ℕ) (k : ℕ) → BeginsWithList list key → k ≤ length key → get_or list k 0 ≡ get_or (40 ∷ key) k 0
key_at list key k begins le =
    sym (get_or-take (length key + 2) list k 0 (omega arith)) ∙ ap (λ (bytes : List ℕ). get_or bytes k 0) begins ∙ get_or_append_left (40 ∷ key) (41 ∷ []) 0 k (omega arith)

next_at : (list key : List ℕ) (k : ℕ) → BeginsWithList list key → k < length key → get_or list (k + 1) 0 ≡ get_or key k 0
next_at list key k begins lt = ap (λ (j : ℕ). get_or list j 0) (add-one k) ∙ key_at list key (suc k) begins lt

right_at : (list key : List ℕ) → BeginsWithList list key → get_or list (length key + 1) 0 ≡ 41
right_at list key begins =
    sym (get_or-take (length key + 2) list (length key + 1) 0 (omega arith)) ∙ ap (λ (bytes : List ℕ). get_or bytes (length key + 1) 0) begins
    ∙ get_or_at (40 ∷ key) 41 [] 0 (length key + 1) (omega arith)

right_stops : (before : ℕ) → goes_on before 41 ≡ false
unfolding goes_on
right_stops before = refl

left_stops : (before : ℕ) → goes_on before 40 ≡ false
unfolding goes_on
left_stops before = refl

same_pair : (list key : List ℕ) (k : ℕ) → BeginsWithList list key → k < length key → goes_on (get_or list k 0) (get_or list (k + 1) 0) ≡ goes_on (get_or (40 ∷ key) k 0) (get_or key k 0)
same_pair list key k begins lt = ap₂ goes_on (key_at list key k begins (omega arith)) (next_at list key k begins lt)

-- each of so many bytes behind the first goes on behind the one before it
abbrev pub AllGoOn : List ℕ → ℕ → Type 0
AllGoOn list size = (k : ℕ) → k < size → goes_on (get_or list k 0) (get_or list (k + 1) 0) ≡ true

-- no key that goes on ends with a `(`
last_no_left : (list : List ℕ) (size : ℕ) → 0 < size → AllGoOn list size → get_or list size 0 ≢ 40
last_no_left list size some all is =
    let back : size - 1 + 1 ≡ size = omega arith in
    let goes : goes_on (get_or list (size - 1) 0) (get_or list (size - 1 + 1) 0) ≡ true = all (size - 1) (omega arith) in
    let left : get_or list (size - 1 + 1) 0 ≡ 40 = ap (λ (j : ℕ). get_or list j 0) back ∙ is in
    let no : goes_on (get_or list (size - 1) 0) 40 ≡ true = ap (goes_on (get_or list (size - 1) 0)) (sym left) ∙ goes in
    absurd (cc (left_stops (get_or list (size - 1) 0)))

-- all of the key goes on, and it ends with no space
names_seen : (list key : List ℕ) → BeginsWithList list key → 0 < length key → AllGoOn list (length key) → get_or list (length key) 0 ≢ 32 → true ≡ list_all is_name (words_of key)
names_seen list key begins some all other =
    let last : get_or list (length key) 0 ≡ get_or (40 ∷ key) (length key) 0 = key_at list key (length key) begins (omega arith) in
    let end : begins_name (get_or list (length key) 0) ≡ false = begins_none _ other (last_no_left list (length key) some all) in
    row_by key true (
    each_goes 40 key (λ k lt. sym (same_pair list key k begins lt) ∙ all k lt) (ap begins_name (sym last) ∙ end)
    )

space_seen : (list key : List ℕ) → BeginsWithList list key → get_or list (length key) 0 ≡ 32 → false ≡ list_all is_name (words_of key)
space_seen list key begins is =
    row_by key false (ends_open 40 key (space_begins _ (sym (key_at list key (length key) begins (omega arith)) ∙ is)))

-- a byte of the key does not go on
pub one_seen : (list key : List ℕ) (k : ℕ) → BeginsWithList list key → k < length key → goes_on (get_or list k 0) (get_or list (k + 1) 0) ≡ false → false ≡ list_all is_name (words_of key)
one_seen list key k begins lt stops = row_by key false (one_stops 40 key k lt (sym (same_pair list key k begins lt) ∙ stops))

-- where all of the key goes on, it is names unless it ends with a space
pub all_seen : (list key : List ℕ) → BeginsWithList list key → 0 < length key → AllGoOn list (length key) → not (get_or list (length key) 0 == 32) ≡ list_all is_name (words_of key)
all_seen list key begins some all =
    let last = get_or list (length key) 0 in
    ⊎_elim
    (λ (space : last ≡ 32). ap not (eq-eqb last 32 space) ∙ space_seen list key begins space)
    (λ (other : last ≢ 32). ap not (ne_eqb last 32 other) ∙ names_seen list key begins some all other)
    (cases_eq last 32)

-- what goes on is shorter or longer than the key
pub other_len : (list key : List ℕ) (at : ℕ) → BeginsWithList list key → length key < 32 → GoesOnTo list at → at ≢ length key → false ≡ list_all is_name (words_of key)
other_len list key at begins few seen other =
    ⊎_elim
    (λ (lt : at < length key). one_seen list key at begins lt (seen.end (omega arith)))
    (λ (le : length key ≤ at).
    let goes : goes_on (get_or list (length key) 0) (get_or list (length key + 1) 0) ≡ true = seen.before (length key) few (omega arith) in
    let no : goes_on (get_or list (length key) 0) 41 ≡ true = ap (goes_on (get_or list (length key) 0)) (sym (right_at list key begins)) ∙ goes in
    absurd (cc (right_stops (get_or list (length key) 0))))
    (cases_lt at (length key))

pub same_len : (list key : List ℕ) (at : ℕ) → BeginsWithList list key → 0 < length key → length key < 32 → GoesOnTo list at → at ≡ length key → not (get_or list (length key) 0 == 32) ≡ list_all is_name (words_of key)
same_len list key at begins some few seen is =
    let whole : GoesOnTo list (length key) = subst (GoesOnTo list) is seen in
    all_seen list key begins some (λ k lt. whole.before k (omega arith) lt)

-- the bytes behind an offset
pub moved : (list : List ℕ) (at k : ℕ) → let behind = take (length list - at) (drop at list) in goes_on (get_or behind k 0) (get_or behind (k + 1) 0) ≡ goes_on (get_or list (at + k) 0) (get_or list (at + k + 1) 0)
moved list at k =
    let next : at + (k + 1) ≡ at + k + 1 = omega arith in
    ap (λ (behind : List ℕ). goes_on (get_or behind k 0) (get_or behind (k + 1) 0)) (rest_whole list at)
    ∙ ap₂ goes_on (get_or-drop at list k 0) (get_or-drop at list (k + 1) 0 ∙ ap (λ (j : ℕ). get_or list j 0) next)

-- Steps that are spelled by the row between their parentheses.

use Rattle.std.proofs.Common.{◌≡◌, ◌≢◌, ℕ, ◌+◌, ◌<◌, true, List, [], ◌∷◌, ◌++◌, length, map, Option, Some, None, refl, sym, ap, ◌∙◌, subst, arith, append_assoc, length-append}
use Rattle.std.specs.Prelude.{IfSome}
use Rattle.std.specs.List.{list_all}
use Rattle.std.proofs.lemmas.Bool.{and_parts}
use Rattle.std.proofs.lemmas.List.{append-nil}
use Rattle.pddl_words.specs.SpacedWords.{words_of}
use Rattle.pddl_words.specs.Words.{is_name, folded}
use Rattle.pddl_tokens.specs.declared.spans.TokenKind.TheVariants.{Left, Right, Word}
use Rattle.pddl_tokens.specs.declared.scan.ParenRange.{ParenRange}
use Rattle.pddl_tokens.specs.Tokens.{Piece, token, span}
use Rattle.pddl_tokens.specs.Within.{AreWithin}
use Rattle.pddl_tokens.specs.ParenRanges.{IsPlain, word_pieces, range_pieces}
use Rattle.pddl_tokens.proofs.NamesArePlain.{names_are_plain}
use Rattle.pddl_tokens.proofs.PlainRows.{row_has_words}
use Rattle.strips_task.specs.declared.steps.StepText.{StepText}
use Rattle.strips_task.specs.Spelled.{IsSpelled, step_spelled}
use Rattle.plan_text.specs.declared.want.Want.{Want}
use Rattle.plan_text.specs.declared.want.Want.TheVariants.{Step, Number, Opening, Action, Argument}
use Rattle.plan_text.specs.declared.want.Expected.{Expected}
use Rattle.plan_text.specs.PlanGrammar.{left}
use Rattle.plan_text.specs.PlanReading.{plan_from, read_on}
use Rattle.plan_text.specs.Walks.{Walk, RestsAt, GoesBehind, reading_behind, words_before}
use Rattle.plan_text.specs.WalkFinds.{ComesNext, IsStepFound}
use Rattle.plan_text.proofs.Runs.{reading, read_name, read_left}
use Rattle.plan_text.proofs.Lemmas.{plan_goes_on}
use Rattle.strips_task.specs.declared.steps.TheConstants.{MOST_STEPS}

-- the names behind the first are read one by one
other_names : (text : List ℕ) (least : ℕ) (steps : List StepText) (read words : List (List ℕ)) (at : ℕ) (rest : List Piece) → list_all is_name words ≡ true → plan_from text (reading Argument least steps read) (word_pieces at words ++ rest) ≡ plan_from text (reading Argument least steps (read ++ map folded words)) rest
unfolding word_pieces read_on
other_names text least steps read [] at rest names = ap (λ (ws : List (List ℕ)). plan_from text (reading Argument least steps ws) rest) (sym (append-nil read))
other_names text least steps read (word ∷ words) at rest names =
    let (first, others) = and_parts (is_name word) (list_all is_name words) names in
    plan_goes_on text (reading Argument least steps read) Word (span at (at + length word)) word (word_pieces (at + length word + 1) words ++ rest) _ (read_name (reading Argument least steps read) word first)
    ∙ other_names text least steps (read ++ folded word ∷ []) words (at + length word + 1) rest others
    ∙ ap (λ (ws : List (List ℕ)). plan_from text (reading Argument least steps ws) rest) (append_assoc read (folded word ∷ []) (map folded words))

all_names : (text : List ℕ) (least : ℕ) (steps : List StepText) (words : List (List ℕ)) (at : ℕ) (rest : List Piece) → words ≢ [] → list_all is_name words ≡ true → plan_from text (reading Action least steps []) (word_pieces at words ++ rest) ≡ plan_from text (reading Argument least steps (map folded words)) rest
unfolding word_pieces read_on
all_names text least steps [] at rest some names = absurd (some refl)
all_names text least steps (word ∷ words) at rest some names =
    let (first, others) = and_parts (is_name word) (list_all is_name words) names in
    plan_goes_on text (reading Action least steps []) Word (span at (at + length word)) word (word_pieces (at + length word + 1) words ++ rest) _ (read_name (reading Action least steps []) word first)
    ∙ other_names text least steps (folded word ∷ []) words (at + length word + 1) rest others

-- a `(` is read on wherever a walk rests
left_comes : (want : Want) (least count : ℕ) (steps : List StepText) → RestsAt want count → length steps < MOST_STEPS → read_on (reading want least steps []) left ≡ Some (reading Action least steps [])
unfolding read_on
left_comes Step least count steps rests few = read_left Step least steps tt few
left_comes Number least count steps rests few = read_left Number least steps tt few
left_comes Opening least count steps rests few = refl
left_comes Action least count steps rests few = absurd rests
left_comes Argument least count steps rests few = absurd rests

-- a whole step is read
whole_step : (text : List ℕ) (want : Want) (least count : ℕ) (steps : List StepText) (at : ℕ) (row : List ℕ) (rest : List Piece) → RestsAt want count → length steps < MOST_STEPS → IsSpelled row → plan_from text (reading_behind want least steps) (range_pieces at row ++ rest) ≡ plan_from text (reading_behind Number least (steps ++ step_spelled row ∷ [])) rest
unfolding read_on
whole_step text want least count steps at row rest rests few spelled =
    let close = token Right (span (at + 1 + length row) (at + 1 + length row + 1)) (41 ∷ []) in
    plan_goes_on text (reading want least steps []) Left (span at (at + 1)) (40 ∷ []) ((word_pieces (at + 1) (words_of row) ++ close ∷ []) ++ rest) _ (left_comes want least count steps rests few)
    ∙ ap (plan_from text (reading Action least steps [])) (append_assoc (word_pieces (at + 1) (words_of row)) (close ∷ []) rest)
    ∙ all_names text least steps (words_of row) (at + 1) (close ∷ rest) (row_has_words row) spelled
    ∙ plan_goes_on text (reading Argument least steps (map folded (words_of row))) Right (span (at + 1 + length row) (at + 1 + length row + 1)) (41 ∷ []) rest _ refl

range_shorter : (at : ℕ) (row : List ℕ) (pieces rest : List Piece) → pieces ≡ range_pieces at row ++ rest → length rest < length pieces
range_shorter at row pieces rest is =
    let size : length pieces ≡ length (range_pieces at row ++ rest) = ap length is in omega (arith, size, length-append (range_pieces at row) rest)

behind_within : (size : ℕ) (front rest : List Piece) → AreWithin size (front ++ rest) → AreWithin size rest
behind_within size [] rest within = within
behind_within size (piece ∷ front) rest within = behind_within size front rest within.1

-- where a step may come, the next range does
pub range_comes : (walk : Walk) (text : List ℕ) (rest : List Piece) (expected : Expected) (count : ℕ) (found : Option ParenRange) → ◌≡◌ {A = Walk} (record { text = text; rest = rest; want = expected.want; least = expected.least_stamp; count = count }) walk → AreWithin (length text) rest → RestsAt expected.want count → count < MOST_STEPS → IfSome found (λ range. IsPlain range.key.now → rest ≡ range_pieces range.start range.key.now ++ range.rest) → IfSome found (λ range. ComesNext walk range)
range_comes walk text rest expected count None is within rests room first = tt
range_comes walk text rest expected count (Some range) is within rests room first =
    subst (λ (w : Walk). ComesNext w range) is (record {
      room = room;
      rests = rests;
      first = first;
      within = λ plain. behind_within (length text) (range_pieces range.start range.key.now) range.rest (subst (AreWithin (length text)) (first plain) within);
    })

-- a walk passes the step that the next range spells
passes_range : (old : Walk) (range : ParenRange) → ComesNext old range → IsSpelled range.key.now → GoesBehind old (record { text = old.text; rest = range.rest; want = Number; least = old.least; count = old.count + 1 }) (step_spelled range.key.now)
passes_range old range next spelled =
    let key = range.key.now in
    let first = next.first (names_are_plain key spelled) in
    record {
      text = refl;
      shorter = range_shorter range.start key old.rest range.rest first;
      passed = λ steps before. record {
        counted = omega (arith, before.counted, length-append steps (step_spelled key ∷ []));
        few = omega (arith, next.room);
        rests = tt;
        same =
            sym (whole_step old.text old.want old.least old.count steps range.start key range.rest next.rests (omega (arith, before.counted, next.room)) spelled)
            ∙ ap (plan_from old.text (reading_behind old.want old.least steps)) (sym first) ∙ before.same;
      };
    }

-- the same of a walk by what it holds
pub skips_range : (old : Walk) (range : ParenRange) (text : List ℕ) (rest : List Piece) (expected next : Expected) (count : ℕ) → ◌≡◌ {A = Walk} (record { text = text; rest = rest; want = expected.want; least = expected.least_stamp; count = count }) old → next ≡ record { want = Number; least_stamp = expected.least_stamp } → ComesNext old range → IsSpelled range.key.now → GoesBehind old (record { text = text; rest = range.rest; want = next.want; least = next.least_stamp; count = count + 1 }) (step_spelled range.key.now)
skips_range old range text rest expected next count is then comes spelled =
    subst (λ (walk : Walk). ComesNext walk range → GoesBehind walk (record { text = text; rest = range.rest; want = next.want; least = next.least_stamp; count = count + 1 }) (step_spelled range.key.now)) is
    (λ c. subst (λ (n : Expected). GoesBehind (record { text = text; rest = rest; want = expected.want; least = expected.least_stamp; count = count }) (record { text = text; rest = range.rest; want = n.want; least = n.least_stamp; count = count + 1 }) (step_spelled range.key.now)) (sym then)
    (passes_range (record { text = text; rest = rest; want = expected.want; least = expected.least_stamp; count = count }) range c spelled))
    comes

-- the words of a range are those of its row
words_of_range : (at : ℕ) (words : List (List ℕ)) (close : List ℕ) (from end : ℕ) (rest : List Piece) → words_before ((word_pieces at words ++ token Right (span from end) close ∷ []) ++ rest) ≡ words
unfolding word_pieces
words_of_range at [] close from end rest = refl
words_of_range at (word ∷ words) close from end rest = ap (λ (ws : List (List ℕ)). word ∷ ws) (words_of_range (at + length word + 1) words close from end rest)

pub row_in_range : (at : ℕ) (row : List ℕ) (rest : List Piece) → words_before ((word_pieces (at + 1) (words_of row) ++ token Right (span (at + 1 + length row) (at + 1 + length row + 1)) (41 ∷ []) ∷ []) ++ rest) ≡ words_of row
row_in_range at row rest = words_of_range (at + 1) (words_of row) (41 ∷ []) (at + 1 + length row) (at + 1 + length row + 1) rest

has_some : (words : List (List ℕ)) → words ≢ [] → 0 < length words
has_some [] some = absurd (some refl)
has_some (word ∷ words) some = omega arith

row_some : (row : List ℕ) → 0 < length (words_of row)
row_some row = has_some (words_of row) (row_has_words row)

-- the step of a range, by its words
pub takes_range : (old new : Walk) (row : List ℕ) (words : List (List ℕ)) → words ≡ words_of row → IsSpelled row → GoesBehind old new (step_spelled row) → IsStepFound old new words (Some row)
takes_range old new row words are spelled behind =
    subst (λ (ws : List (List ℕ)). IsStepFound old new ws (Some row)) (sym are) (record { some = row_some row; names = spelled; behind = behind; spelled = (spelled, refl) })

-- Lines that do not begin with a dash.

use Rattle.std.proofs.Common.{◌≡◌, ◌≢◌, ℕ, zero, suc, ◌+◌, ◌-◌, ◌<◌, ◌≤◌, false, List, [], ◌∷◌, length, take, drop, get_or, refl, sym, ap, ◌∙◌, subst, arith, length-drop, ◌⊎◌, ⊎_elim}
use Rattle.std.proofs.lemmas.Bool.{and_left, cases_eq, cases_lt, eq-eqb, eqb-true, ne_eqb}
use Rattle.std.proofs.lemmas.List.{drop_all, get_or-drop, get_or-take, take_all}
use Rattle.memchr.specs.Find.{OccursAt}
use Rattle.plan_text.specs.Bundle.{is_separator, lines}
use Rattle.plan_text.specs.Separators.{IsOnePartTo}
use Rattle.plan_text.proofs.Bundles.{one_part_more, one_part_start}
use Rattle.plan_text.proofs.Lines.{line_with_lf, line_without_lf, no_lines}

-- a line that does not begin with a dash is no separator
plain_line : (line : List ℕ) → get_or line 0 0 ≢ 45 → is_separator line ≡ false
unfolding is_separator
plain_line [] plain = refl
plain_line (b ∷ line) plain = and_left _ _ (and_left _ _ (ne_eqb 45 b (λ e. plain (sym e))))

-- the first byte of what begins at an offset is the byte at it
first_is : (text : List ℕ) (offset size : ℕ) → get_or text offset 0 ≡ get_or (take (suc size) (drop offset text)) 0 0
first_is text offset size =
    let here : offset + 0 ≡ offset = omega arith in
    ap (λ (k : ℕ). get_or text k 0) (sym here) ∙ sym (get_or-drop offset text 0 0) ∙ sym (get_or-take (suc size) (drop offset text) 0 0 (omega arith))

-- no separator begins at an offset where there is no dash
plain_from : (text : List ℕ) (offset size : ℕ) → get_or text offset 0 ≢ 45 → is_separator (take (suc size) (drop offset text)) ≡ false
plain_from text offset size plain = plain_line (take (suc size) (drop offset text)) (λ dash. plain (first_is text offset size ∙ dash))

-- the text up to an offset is one part, and the bytes from there up to another one begin a line that does not begin with a dash
record PlainTo (text : List ℕ) (offset reached : ℕ) : Type 0 where
  low : offset ≤ reached
  one_part : IsOnePartTo text offset
  plain : get_or text offset 0 ≢ 45
  before : (k : ℕ) → offset ≤ k → k < reached → get_or text k 0 ≢ 10

-- behind a line with an LF
line_behind : (text : List ℕ) (offset reached : ℕ) → PlainTo text offset reached → reached < length text → get_or text reached 0 ≡ 10 → IsOnePartTo text (reached + 1)
line_behind text offset reached to within lf =
    let size = reached - offset in
    let end : offset + size ≡ reached = omega (arith, to.low) in
    let at : get_or (drop offset text) size 0 ≡ 10 = get_or-drop offset text size 0 ∙ ap (λ (j : ℕ). get_or text j 0) end ∙ lf in
    let first = line_with_lf (drop offset text) size (omega (arith, length-drop offset text, to.low)) (λ j lt is. to.before (offset + j) (omega arith) (omega arith) (sym (get_or-drop offset text j 0) ∙ eqb-true _ 10 is)) (eq-eqb _ 10 at) in
    subst (IsOnePartTo text) (omega (arith, to.low)) (one_part_more text offset (suc size) to.one_part first (plain_from text offset size to.plain))

-- behind a last line without an LF
last_line : (text : List ℕ) (offset : ℕ) → PlainTo text offset (length text) → offset < length text → IsOnePartTo text (length text)
last_line text offset to within =
    let size = length text - offset in
    let rest : length (drop offset text) ≡ size = length-drop offset text in
    let end : offset + size ≡ length text = omega arith in
    let none = line_without_lf (drop offset text) (omega arith) (λ j lt is. to.before (offset + j) (omega arith) (omega arith) (sym (get_or-drop offset text j 0) ∙ eqb-true _ 10 is)) in
    let first : lines (drop offset text) ≡ take size (drop offset text) ∷ lines (drop size (drop offset text)) =
    rw (take_all size (drop offset text) (omega arith), drop_all size (drop offset text) (omega arith), no_lines) none
    in
    let some : suc (size - 1) ≡ size = omega arith in
    let plain : is_separator (take size (drop offset text)) ≡ false =
    subst (λ (n : ℕ). is_separator (take n (drop offset text)) ≡ false) some (plain_from text offset (size - 1) to.plain)
    in
    subst (IsOnePartTo text) end (one_part_more text offset size to.one_part first plain)

-- an LF (10), and a dash (45) behind it
abbrev pub lf_dash : List ℕ
lf_dash = 10 ∷ 45 ∷ []

reads_by : (text : List ℕ) (k j : ℕ) → get_or text k 0 ≡ 10 → get_or text (k + 1) 0 ≡ 45 → j < 2 → get_or text (k + j) 0 ≡ get_or lf_dash j 0
reads_by text k zero lf dash lt = let here : k + 0 ≡ k = omega arith in ap (λ (i : ℕ). get_or text i 0) here ∙ lf
reads_by text k (suc zero) lf dash lt = dash
reads_by text k (suc (suc j)) lf dash lt = absurd (omega arith)

-- the text up to an end is lines, and none of them but the first one can begin with a dash
pub record IsPlainText (text : List ℕ) (end : ℕ) : Type 0 where
  pub within : end ≤ length text
  pub behind_lf : end < length text → get_or text (end - 1) 0 ≡ 10
  pub plain : (k : ℕ) → k + 1 < end → OccursAt text lf_dash k → ⊥

-- the last line of such a text
at_end : (text : List ℕ) (end offset : ℕ) → IsPlainText text end → PlainTo text offset end → offset < end → (end < length text) ⊎ (length text ≤ end) → IsOnePartTo text end
at_end text end offset whole to some side =
    ⊎_elim
    (λ (lt : end < length text). absurd (to.before (end - 1) (omega arith) (omega arith) (whole.behind_lf lt)))
    (λ (le : length text ≤ end).
    let same : length text ≡ end = omega (arith, whole.within) in
    subst (IsOnePartTo text) same (last_line text offset (subst (PlainTo text offset) (sym same) to) (omega arith)))
    side

-- what follows an LF in such a text does not begin with a dash
next_line : (text : List ℕ) (end offset reached : ℕ) → IsPlainText text end → PlainTo text offset reached → reached + 1 < end → get_or text reached 0 ≡ 10 → PlainTo text (reached + 1) (reached + 1)
next_line text end offset reached whole to more lf = record {
  low = omega arith;
  one_part = line_behind text offset reached to (omega (arith, whole.within)) lf;
  plain = λ dash. whole.plain reached more (record { fits = omega (arith, whole.within); reads = λ j lt. reads_by text reached j lf dash lt });
  before = λ k low high _. absurd (omega arith);
}

-- one byte more of the same line
next_byte : (text : List ℕ) (offset reached : ℕ) → PlainTo text offset reached → get_or text reached 0 ≢ 10 → PlainTo text offset (reached + 1)
next_byte text offset reached to other = record {
  low = omega (arith, to.low);
  one_part = to.one_part;
  plain = to.plain;
  before = λ k low high is. ⊎_elim (λ (lt : k < reached). to.before k low lt is) (λ (le : reached ≤ k). let same : k ≡ reached = omega arith in other (ap (λ (j : ℕ). get_or text j 0) (sym same) ∙ is)) (cases_lt k reached);
}

plain_up_to : (left : ℕ) (text : List ℕ) (end offset reached : ℕ) → IsPlainText text end → PlainTo text offset reached → reached + left ≡ end → offset < end → IsOnePartTo text end
plain_up_to zero text end offset reached whole to all some =
    let same : reached ≡ end = omega arith in
    at_end text end offset whole (subst (PlainTo text offset) same to) some (cases_lt end (length text))
plain_up_to (suc left) text end offset reached whole to all some =
    ⊎_elim
    (λ (lf : get_or text reached 0 ≡ 10).
    ⊎_elim
    (λ (more : reached + 1 < end). plain_up_to left text end (reached + 1) (reached + 1) whole (next_line text end offset reached whole to more lf) (omega arith) more)
    (λ (last : end ≤ reached + 1).
    let same : reached + 1 ≡ end = omega arith in
    subst (IsOnePartTo text) same (line_behind text offset reached to (omega (arith, whole.within)) lf))
    (cases_lt (reached + 1) end))
    (λ (other : get_or text reached 0 ≡ 10 → ⊥). plain_up_to left text end offset (reached + 1) whole (next_byte text offset reached to other) (omega arith) some)
    (cases_eq (get_or text reached 0) 10)

-- a text that does not begin with a dash is one part up to such an end
pub plain_part : (text : List ℕ) (end : ℕ) → IsPlainText text end → 0 < end → get_or text 0 0 ≢ 45 → IsOnePartTo text end
plain_part text end whole some plain =
    plain_up_to end text end 0 0 whole
    (record { low = omega arith; one_part = one_part_start text; plain = plain; before = λ k low high _. absurd (omega arith) })
    (omega arith) some

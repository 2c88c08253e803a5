-- A text is cut into its pieces: gaps of blanks and comments, and tokens outside comments.

use Rattle.std.proofs.Common.{◌≡◌, ◌≢◌, ℕ, zero, suc, ◌+◌, ◌-◌, ◌<◌, ◌≤◌, Bool, true, false, List, length, get_or, drop, refl, sym, ap, ◌∙◌, subst, inl, inr, ⊎_elim, ◌⊎◌, arith, length-drop, get_or-drop}
use Rattle.std.specs.Prelude.{IsTrue}
use Rattle.std.specs.List.{prefix_len}
use Rattle.std.proofs.lemmas.List.Sums.{prefix_len-le-length, prefix_len_passes, prefix_len_stops}
use Rattle.std.proofs.str.Laws.{order}
use Rattle.pddl_tokens.specs.declared.bytes.ByteClass.{ByteClass}
use Rattle.pddl_tokens.specs.declared.bytes.ByteClass.TheVariants as c
use Rattle.pddl_tokens.specs.Bytes.{class_of, is_word_class, is_word_byte}
use Rattle.pddl_tokens.specs.Cut.{is_comment_byte, LiesInComment, is_blank, IsGap, IsLongestRun, IsOutsideComments, IsCutInto}
use Rattle.pddl_tokens.specs.Tokens.{pieces}
use Rattle.pddl_tokens.specs.Lexeme.{pieces_at}
use Rattle.pddl_tokens.proofs.Lemmas.{end_step, line_end_step, blank_step, comment_step, left_step, right_step, word_step, bad_step, run_not_empty}
use Rattle.pddl_tokens.proofs.Classes.{line_end_is, blank_is, blank_no_semicolon, left_is, right_is, semicolon_is, bad_no_blank, bad_not_visible, word_byte_no_semicolon, no_comment_line_end, comment_byte_no_line_end, line_end_class, line_end_no_word}

-- no comment is open before an offset between tokens, and no word goes on over it
pub record IsFresh (text : List ℕ) (at : ℕ) : Type 0 where
  pub no_open : (j : ℕ) → j < at → get_or text j 0 ≡ 59 → ((k : ℕ) → j ≤ k → k < at → get_or text k 0 ≢ 10) → ⊥
  pub no_word : 0 < at → at < length text → is_word_byte (get_or text at 0) ≡ true → is_word_byte (get_or text (at - 1) 0) ≡ false

-- at such an offset a byte lies in a comment only where it begins one
outside_here : (text : List ℕ) (at : ℕ) → IsFresh text at → get_or text at 0 ≢ 59 → LiesInComment text at → ⊥
outside_here text at fresh no_semicolon comment =
    ⊎_elim
    (λ (lt : comment.start < at). fresh.no_open comment.start lt comment.semicolon (λ k low high. comment.same_line k low (omega arith)))
    (λ (le : at ≤ comment.start). let same : comment.start ≡ at = omega (arith, comment.before) in no_semicolon (ap (λ (i : ℕ). get_or text i 0) (sym same) ∙ comment.semicolon))
    (order comment.start at)

-- behind a byte that begins neither a word nor a comment
next_fresh : (text : List ℕ) (at : ℕ) → IsFresh text at → get_or text at 0 ≢ 59 → is_word_byte (get_or text at 0) ≡ false → IsFresh text (at + 1)
next_fresh text at fresh no_semicolon no_word = record {
  no_open = λ j lt semicolon line.
      ⊎_elim
      (λ (before : j < at). fresh.no_open j before semicolon (λ k low high. line k low (omega arith)))
      (λ (le : at ≤ j). let same : j ≡ at = omega arith in no_semicolon (ap (λ (i : ℕ). get_or text i 0) (sym same) ∙ semicolon))
      (order j at);
  no_word = λ above lt is. let same : at + 1 - 1 ≡ at = omega arith in ap (λ (i : ℕ). is_word_byte (get_or text i 0)) same ∙ no_word;
}

gap_more : (text : List ℕ) (from at : ℕ) → IsGap text from at → at < length text → IsTrue (is_blank (get_or text at 0)) ⊎ LiesInComment text at → IsGap text from (at + 1)
gap_more text from at gap lt here = record {
  ordered = omega (arith, gap.ordered);
  within = omega arith;
  skipped = λ k low high.
      ⊎_elim
      (λ (before : k < at). gap.skipped k low before)
      (λ (le : at ≤ k). let same : at ≡ k = omega arith in subst (λ (i : ℕ). IsTrue (is_blank (get_or text i 0)) ⊎ LiesInComment text i) same here)
      (order k at);
}

-- a gap of no bytes
no_gap : (text : List ℕ) (at : ℕ) → at ≤ length text → IsGap text at at
no_gap text at le = record { ordered = omega arith; within = le; skipped = λ k low high. absurd (omega arith) }

-- a run from an offset on: each of its bytes passes, and the byte behind it does not
run_passes : (p : ℕ → Bool) (text : List ℕ) (at n : ℕ) → n ≡ prefix_len p (drop at text) → (k : ℕ) → at ≤ k → k < at + n → p (get_or text k 0) ≡ true
run_passes p text at n run k low high =
    let inside : k - at < prefix_len p (drop at text) = omega (arith, run) in
    let offset : at + (k - at) ≡ k = omega arith in
    ap (λ (i : ℕ). p (get_or text i 0)) (sym offset) ∙ ap p (sym (get_or-drop at text (k - at) 0)) ∙ prefix_len_passes p (drop at text) (k - at) 0 inside

run_stops : (p : ℕ → Bool) (text : List ℕ) (at n : ℕ) → n ≡ prefix_len p (drop at text) → at + n < length text → p (get_or text (at + n) 0) ≡ false
run_stops p text at n run lt =
    let inside : prefix_len p (drop at text) < length (drop at text) = omega (arith, run, length-drop at text) in
    ap (λ (i : ℕ). p (get_or text (at + i) 0)) run ∙ ap p (sym (get_or-drop at text (prefix_len p (drop at text)) 0)) ∙ prefix_len_stops p (drop at text) 0 inside

run_within : (p : ℕ → Bool) (text : List ℕ) (at n : ℕ) → at ≤ length text → n ≡ prefix_len p (drop at text) → at + n ≤ length text
run_within p text at n le run = omega (arith, run, length-drop at text, prefix_len-le-length p (drop at text))

-- a run of words' bytes has no semicolon, so no comment begins in it
word_fresh : (text : List ℕ) (at n : ℕ) → IsFresh text at → n ≡ prefix_len is_word_byte (drop at text) → IsFresh text (at + n)
word_fresh text at n fresh run = record {
  no_open = λ j lt semicolon line.
      ⊎_elim
      (λ (before : j < at). fresh.no_open j before semicolon (λ k low high. line k low (omega arith)))
      (λ (le : at ≤ j). word_byte_no_semicolon _ (run_passes is_word_byte text at n run j le lt) semicolon)
      (order j at);
  no_word = λ above lt is. absurd (let stops = run_stops is_word_byte text at n run lt in cc (stops, is));
}

word_outside : (text : List ℕ) (at n : ℕ) → IsFresh text at → n ≡ prefix_len is_word_byte (drop at text) → IsOutsideComments text at (at + n)
word_outside text at n fresh run k low high comment =
    ⊎_elim
    (λ (lt : comment.start < at). fresh.no_open comment.start lt comment.semicolon (λ i first last. comment.same_line i first (omega arith)))
    (λ (le : at ≤ comment.start). word_byte_no_semicolon _ (run_passes is_word_byte text at n run comment.start le (omega (arith, comment.before))) comment.semicolon)
    (order comment.start at)

word_run : (text : List ℕ) (at n : ℕ) → IsFresh text at → at < length text → class_of (get_or text at 0) ≡ c.WordByte → n ≡ prefix_len is_word_byte (drop at text) → 0 < n → IsLongestRun text at (at + n)
word_run text at n fresh lt is run some = record {
  not_empty = omega arith;
  within = run_within is_word_byte text at n (omega arith) run;
  each = λ k low high. run_passes is_word_byte text at n run k low high;
  none_before = λ above. fresh.no_word above lt (ap is_word_class is);
  none_behind = λ below. run_stops is_word_byte text at n run below;
}

-- a byte outside comments that is no semicolon
one_outside : (text : List ℕ) (at : ℕ) → IsFresh text at → get_or text at 0 ≢ 59 → IsOutsideComments text at (at + 1)
one_outside text at fresh no_semicolon k low high comment =
    let same : k ≡ at = omega arith in
    outside_here text at fresh no_semicolon (subst (LiesInComment text) same comment)

-- a comment joins the gap
comment_gap : (text : List ℕ) (from at n : ℕ) → IsGap text from at → at < length text → get_or text at 0 ≡ 59 → n ≡ prefix_len is_comment_byte (drop at text) → IsGap text from (at + n)
comment_gap text from at n gap lt semicolon run = record {
  ordered = omega (arith, gap.ordered);
  within = run_within is_comment_byte text at n (omega arith) run;
  skipped = λ k low high.
      ⊎_elim
      (λ (before : k < at). gap.skipped k low before)
      (λ (le : at ≤ k). inr (record {
        start = at;
        before = le;
        semicolon = semicolon;
        same_line = λ i first last. comment_byte_no_line_end _ (run_passes is_comment_byte text at n run i first (omega arith));
      }))
      (order k at);
}

-- behind the LF that ends a comment
line_fresh : (text : List ℕ) (at : ℕ) → get_or text at 0 ≡ 10 → is_word_byte (get_or text at 0) ≡ false → IsFresh text (at + 1)
line_fresh text at line_end no_word = record {
  no_open = λ j lt semicolon line. line at (omega arith) (omega arith) line_end;
  no_word = λ above lt is. let same : at + 1 - 1 ≡ at = omega arith in ap (λ (i : ℕ). is_word_byte (get_or text i 0)) same ∙ no_word;
}

-- what is left to cut from an offset on, with so many bytes at most
abbrev pub CutsRest : ℕ → List ℕ → Type 0
CutsRest fuel text = (from at : ℕ) → length text ≤ at + fuel → at ≤ length text → IsGap text from at → IsFresh text at → IsCutInto text from (pieces_at text at)

cut_end : (text : List ℕ) (from at : ℕ) → at ≡ length text → IsGap text from at → IsCutInto text from (pieces_at text at)
cut_end text from at is gap = subst (IsCutInto text from) (sym (end_step text at is)) (subst (IsGap text from) is gap)

-- behind a comment: the end, or the LF that ends it
cut_comment : (fuel : ℕ) (text : List ℕ) → CutsRest fuel text → (from at n : ℕ) → length text ≤ at + suc fuel → at < length text → IsGap text from at → get_or text at 0 ≡ 59 → class_of (get_or text at 0) ≡ c.Semicolon → n ≡ prefix_len is_comment_byte (drop at text) → IsCutInto text from (pieces_at text (at + n))
cut_comment fuel text rest from at n enough lt gap semicolon is run =
    let whole = comment_gap text from at n gap lt semicolon run in
    ⊎_elim
    (λ (more : at + n < length text).
    let stops = run_stops is_comment_byte text at n run more in
    let line_end = no_comment_line_end _ stops in
    subst (IsCutInto text from) (sym (line_end_step text (at + n) more (line_end_class _ line_end)))
    (rest from (at + n + 1) (omega arith) (omega arith)
    (gap_more text from (at + n) whole more (inl (ap is_blank line_end)))
    (line_fresh text (at + n) line_end (ap is_word_byte line_end ∙ line_end_no_word))))
    (λ (le : length text ≤ at + n). cut_end text from (at + n) (omega (arith, whole.within)) whole)
    (order (at + n) (length text))

cut_class : (fuel : ℕ) (text : List ℕ) → CutsRest fuel text → (from at : ℕ) → length text ≤ at + suc fuel → at < length text → IsGap text from at → IsFresh text at → (class : ByteClass) → class_of (get_or text at 0) ≡ class → IsCutInto text from (pieces_at text at)
cut_class fuel text rest from at enough lt gap fresh c.LineEnd is =
    let b_is = line_end_is _ is in
    subst (IsCutInto text from) (sym (line_end_step text at lt is))
    (rest from (at + 1) (omega arith) (omega arith) (gap_more text from at gap lt (inl (ap is_blank b_is))) (line_fresh text at b_is (ap is_word_class is)))
cut_class fuel text rest from at enough lt gap fresh c.Blank is =
    subst (IsCutInto text from) (sym (blank_step text at lt is))
    (rest from (at + 1) (omega arith) (omega arith) (gap_more text from at gap lt (inl (blank_is _ is))) (next_fresh text at fresh (blank_no_semicolon _ is) (ap is_word_class is)))
cut_class fuel text rest from at enough lt gap fresh c.Semicolon is =
    subst (IsCutInto text from) (sym (comment_step text at _ lt is refl))
    (cut_comment fuel text rest from at _ enough lt gap (semicolon_is _ is) is refl)
cut_class fuel text rest from at enough lt gap fresh c.Left is =
    let b_is = left_is _ is in
    let no_semicolon : get_or text at 0 ≢ 59 = omega arith in
    subst (IsCutInto text from) (sym (left_step text at lt is)) (
      gap,
      record { one = refl; within = omega arith; is = b_is },
      one_outside text at fresh no_semicolon,
      refl,
      rest (at + 1) (at + 1) (omega arith) (omega arith) (no_gap text (at + 1) (omega arith)) (next_fresh text at fresh no_semicolon (ap is_word_class is)),
    )
cut_class fuel text rest from at enough lt gap fresh c.Right is =
    let b_is = right_is _ is in
    let no_semicolon : get_or text at 0 ≢ 59 = omega arith in
    subst (IsCutInto text from) (sym (right_step text at lt is)) (
      gap,
      record { one = refl; within = omega arith; is = b_is },
      one_outside text at fresh no_semicolon,
      refl,
      rest (at + 1) (at + 1) (omega arith) (omega arith) (no_gap text (at + 1) (omega arith)) (next_fresh text at fresh no_semicolon (ap is_word_class is)),
    )
cut_class fuel text rest from at enough lt gap fresh c.WordByte is =
    let n : ℕ = prefix_len is_word_byte (drop at text) in
    let some : 0 < n = run_not_empty is_word_byte text at n lt (ap is_word_class is) refl in
    let within : at + n ≤ length text = run_within is_word_byte text at n (omega arith) refl in
    subst (IsCutInto text from) (sym (word_step text at n lt is refl)) (
      gap,
      word_run text at n fresh lt is refl some,
      word_outside text at n fresh refl,
      refl,
      rest (at + n) (at + n) (omega arith) within (no_gap text (at + n) within) (word_fresh text at n fresh refl),
    )
cut_class fuel text rest from at enough lt gap fresh c.Bad is =
    let not_visible = bad_not_visible _ is in
    let no_semicolon : get_or text at 0 ≢ 59 = λ e. not_visible (omega (arith, e)) (omega (arith, e)) in
    subst (IsCutInto text from) (sym (bad_step text at lt is))
    (gap, record { within = lt; no_blank = bad_no_blank _ is; not_visible = not_visible }, one_outside text at fresh no_semicolon, refl)

cut_from : (fuel : ℕ) (text : List ℕ) → CutsRest fuel text
cut_from zero text = λ from at enough le gap fresh. cut_end text from at (omega arith) gap
cut_from (suc fuel) text = λ from at enough le gap fresh.
    ⊎_elim
    (λ (lt : at < length text). cut_class fuel text (cut_from fuel text) from at enough lt gap fresh (class_of (get_or text at 0)) refl)
    (λ (ge : length text ≤ at). cut_end text from at (omega arith) gap)
    (order at (length text))

-- a whole text is cut into its pieces
pub cut_into_pieces : (text : List ℕ) → IsCutInto text 0 (pieces text)
unfolding pieces
cut_into_pieces text =
    cut_from (length text) text 0 0 (omega arith) (omega arith) (no_gap text 0 (omega arith))
    (record { no_open = λ j lt semicolon line. absurd (omega arith); no_word = λ above lt is. absurd (omega arith) })

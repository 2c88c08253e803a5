-- A text is cut into gaps and tokens in one way only.

use Rattle.std.proofs.Common.{◌≡◌, ℕ, ◌+◌, ◌<◌, ◌≤◌, true, false, List, [], ◌∷◌, length, get_or, refl, sym, ap, ◌∙◌, subst, ◌⊎◌, ⊎_elim, arith}
use Rattle.std.specs.Prelude.{IsTrue, slice_range}
use Rattle.std.proofs.str.Laws.{order}
use Rattle.pddl_tokens.specs.declared.spans.TokenKind.{TokenKind}
use Rattle.pddl_tokens.specs.declared.spans.TokenKind.TheVariants.{Left, Right, Word}
use Rattle.pddl_tokens.specs.Bytes.{is_word_byte}
use Rattle.pddl_tokens.specs.Tokens.{Piece, token, bad, span, pieces}
use Rattle.pddl_tokens.specs.Cut.{LiesInComment, is_blank, IsGap, IsLongestRun, IsBadByte, IsTokenAt, IsOutsideComments, IsCutInto}
use Rattle.pddl_tokens.proofs.Classes.{word_no_blank, word_no_parenthesis, word_visible}
use Rattle.pddl_tokens.proofs.CutLaws.{cut_into_pieces}

-- a byte that stands in no gap
pub record IsHead (text : List ℕ) (at : ℕ) : Type 0 where
  pub within : at < length text
  pub not_skipped : IsTrue (is_blank (get_or text at 0)) ⊎ LiesInComment text at → ⊥

-- a gap ends at such a byte or before it
gap_stops : (text : List ℕ) (from to at : ℕ) → IsGap text from to → from ≤ at → IsHead text at → to ≤ at
gap_stops text from to at gap low head =
    ⊎_elim
    (λ (inside : at < to). absurd (head.not_skipped (gap.skipped at low inside)))
    (λ (le : to ≤ at). le)
    (order at to)

head_by : (text : List ℕ) (at end : ℕ) → at < end → end ≤ length text → is_blank (get_or text at 0) ≡ false → IsOutsideComments text at end → IsHead text at
head_by text at end some within no_blank outside = record {
  within = omega arith;
  not_skipped = λ skipped. ⊎_elim (λ (blank : IsTrue (is_blank (get_or text at 0))). absurd cc) (λ (comment : LiesInComment text at). outside at (omega arith) some comment) skipped;
}

token_head : (text : List ℕ) (kind : TokenKind) (start end : ℕ) → IsTokenAt kind text start end → IsOutsideComments text start end → IsHead text start
token_head text Left start end is outside = head_by text start end (omega (arith, is.one)) is.within (ap is_blank is.is) outside
token_head text Right start end is outside = head_by text start end (omega (arith, is.one)) is.within (ap is_blank is.is) outside
token_head text Word start end is outside = head_by text start end is.not_empty is.within (word_no_blank _ (is.each start (omega arith) is.not_empty)) outside

bad_head : (text : List ℕ) (at : ℕ) → IsBadByte text at → IsOutsideComments text at (at + 1) → IsHead text at
bad_head text at is outside = head_by text at (at + 1) (omega arith) (omega (arith, is.within)) is.no_blank outside

-- two first pieces stand at one offset
same_offset : (text : List ℕ) (from a b : ℕ) → IsGap text from a → IsGap text from b → IsHead text a → IsHead text b → a ≡ b
same_offset text from a b gap_a gap_b head_a head_b =
    let le : a ≤ b = gap_stops text from a b gap_a gap_b.ordered head_b in
    let ge : b ≤ a = gap_stops text from b a gap_b gap_a.ordered head_a in
    omega arith

-- a piece stands in no gap that goes to the end
no_piece : (text : List ℕ) (from at : ℕ) → IsGap text from (length text) → IsGap text from at → IsHead text at → ⊥
no_piece text from at gap gap_at head =
    let le : length text ≤ at = gap_stops text from (length text) at gap gap_at.ordered head in
    omega (arith, head.within)

-- two longest runs from one offset end at one offset
run_ends : (text : List ℕ) (start a b : ℕ) → IsLongestRun text start a → IsLongestRun text start b → a < b → ⊥
run_ends text start a b run_a run_b lt =
    let word : is_word_byte (get_or text a 0) ≡ true = run_b.each a (omega (arith, run_a.not_empty)) lt in
    let none : is_word_byte (get_or text a 0) ≡ false = run_a.none_behind (omega (arith, run_b.within)) in
    absurd cc

same_end : (text : List ℕ) (start a b : ℕ) → IsLongestRun text start a → IsLongestRun text start b → a ≡ b
same_end text start a b run_a run_b =
    ⊎_elim
    (λ (lt : a < b). absurd (run_ends text start a b run_a run_b lt))
    (λ (le : b ≤ a). ⊎_elim (λ (lt : b < a). absurd (run_ends text start b a run_b run_a lt)) (λ (ge : a ≤ b). omega arith) (order b a))
    (order a b)

word_byte : (text : List ℕ) (start end : ℕ) → IsLongestRun text start end → is_word_byte (get_or text start 0) ≡ true
word_byte text start end run = run.each start (omega arith) run.not_empty

-- two tokens at one offset are one
same_token : (text : List ℕ) (k l : TokenKind) (start a b : ℕ) → IsTokenAt k text start a → IsTokenAt l text start b → (k ≡ l) × (a ≡ b)
same_token text Left Left start a b x y = (refl, omega (arith, x.one, y.one))
same_token text Left Right start a b x y = absurd (omega (arith, x.is, y.is))
same_token text Left Word start a b x y = absurd ((word_no_parenthesis _ (word_byte text start b y)).0 x.is)
same_token text Right Left start a b x y = absurd (omega (arith, x.is, y.is))
same_token text Right Right start a b x y = (refl, omega (arith, x.one, y.one))
same_token text Right Word start a b x y = absurd ((word_no_parenthesis _ (word_byte text start b y)).1 x.is)
same_token text Word Left start a b x y = absurd ((word_no_parenthesis _ (word_byte text start a x)).0 y.is)
same_token text Word Right start a b x y = absurd ((word_no_parenthesis _ (word_byte text start a x)).1 y.is)
same_token text Word Word start a b x y = (refl, same_end text start a b x y)

-- a bad byte begins no token
bad_no_token : (text : List ℕ) (kind : TokenKind) (start end : ℕ) → IsBadByte text start → IsTokenAt kind text start end → ⊥
bad_no_token text Left start end is at = is.not_visible (omega (arith, at.is)) (omega (arith, at.is))
bad_no_token text Right start end is at = is.not_visible (omega (arith, at.is)) (omega (arith, at.is))
bad_no_token text Word start end is at =
    let visible = word_visible _ (word_byte text start end at) in
    is.not_visible visible.0 visible.1

only_cut : (text : List ℕ) (ps qs : List Piece) (from : ℕ) → IsCutInto text from ps → IsCutInto text from qs → ps ≡ qs
only_cut text [] [] from x y = refl
only_cut text [] (bad at ∷ qs) from x y = absurd (no_piece text from at x y.0 (bad_head text at y.1 y.2))
only_cut text [] (token k s b ∷ qs) from x y = absurd (no_piece text from s.start x y.0 (token_head text k s.start s.end y.1 y.2))
only_cut text (bad at ∷ ps) [] from x y = absurd (no_piece text from at y x.0 (bad_head text at x.1 x.2))
only_cut text (token k s b ∷ ps) [] from x y = absurd (no_piece text from s.start y x.0 (token_head text k s.start s.end x.1 x.2))
only_cut text (bad a ∷ ps) (bad b ∷ qs) from x y =
    let same : a ≡ b = same_offset text from a b x.0 y.0 (bad_head text a x.1 x.2) (bad_head text b y.1 y.2) in
    let rest : ps ≡ qs = x.3 ∙ sym y.3 in
    λ i. bad (same i) ∷ rest i
only_cut text (bad a ∷ ps) (token k s b ∷ qs) from x y =
    let same : a ≡ s.start = same_offset text from a s.start x.0 y.0 (bad_head text a x.1 x.2) (token_head text k s.start s.end y.1 y.2) in
    absurd (bad_no_token text k s.start s.end (subst (IsBadByte text) same x.1) y.1)
only_cut text (token k s b ∷ ps) (bad a ∷ qs) from x y =
    let same : a ≡ s.start = same_offset text from a s.start y.0 x.0 (bad_head text a y.1 y.2) (token_head text k s.start s.end x.1 x.2) in
    absurd (bad_no_token text k s.start s.end (subst (IsBadByte text) same y.1) x.1)
only_cut text (token k s b ∷ ps) (token l t c ∷ qs) from x y =
    let start : t.start ≡ s.start = same_offset text from t.start s.start y.0 x.0 (token_head text l t.start t.end y.1 y.2) (token_head text k s.start s.end x.1 x.2) in
    let both = same_token text k l s.start s.end t.end x.1 (subst (λ (n : ℕ). IsTokenAt l text n t.end) start y.1) in
    let bytes : b ≡ c = x.3 ∙ (λ i. slice_range text (sym start i) (both.1 i)) ∙ sym y.3 in
    let rest : ps ≡ qs = only_cut text ps qs s.end x.4 (subst (λ (n : ℕ). IsCutInto text n qs) (sym both.1) y.4) in
    λ i. token (both.0 i) (span (sym start i) (both.1 i)) (bytes i) ∷ rest i

-- a text is cut into its pieces and into nothing else
pub only_pieces : (text : List ℕ) (ps : List Piece) → IsCutInto text 0 ps → ps ≡ pieces text
only_pieces text ps cut = only_cut text ps (pieces text) 0 cut (cut_into_pieces text)

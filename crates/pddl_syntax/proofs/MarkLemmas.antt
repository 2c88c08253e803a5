-- How the fault of a text goes on behind a byte, by the mark of the byte.

use Rattle.std.proofs.Common.{◌≡◌, ℕ, zero, suc, ◌+◌, ◌-◌, ◌<◌, ◌≤◌, ◌==◌, ◌&&◌, nat_le, Bool, true, false, not, cond, List, [], ◌∷◌, ◌++◌, length, get_or, drop, Some, refl, sym, ap, ◌∙◌, drop-cons, add-zero, add-one, arith}
use Rattle.std.proofs.lemmas.Bool.{eqb-true}
use Rattle.std.specs.List.{prefix_len}
use Rattle.pddl_tokens.specs.Bytes.{class_of, is_other_blank}
use Rattle.pddl_tokens.specs.Cut.{is_line_end_class, is_comment_byte}
use Rattle.pddl_tokens.specs.Lexeme.{pieces_at}
use Rattle.pddl_tokens.specs.Tokens.{ScanState, between, in_word, pieces_from, begins, state_after}
use Rattle.pddl_tokens.proofs.Lemmas.{line_end_step, blank_step, comment_step, left_step, right_step, bad_step, run_not_empty}
use Rattle.pddl_syntax.specs.declared.fault.FaultKind.TheVariants.{BadText, Unbalanced, TooDeep}
use Rattle.pddl_syntax.specs.declared.marks.Mark.TheVariants.{Plain, Left, Right, Semicolon, Bad}
use Rattle.pddl_syntax.specs.Marks.{mark_of}
use Rattle.pddl_syntax.specs.ReadFault.{fault}
use Rattle.pddl_syntax.specs.Trees.{fault_from}
use Rattle.pddl_syntax.proofs.Depths.{fault_bad, fault_word, fault_left, fault_left_deep, fault_right, fault_right_outside}

-- a comment goes on with each byte but LF
pub comment_byte_is : (b : ℕ) → is_comment_byte b ≡ not (b == 10)
unfolding class_of
comment_byte_is b = grind arith

-- two values that the same tests choose
chosen : {C D Q : Type 0} (t1 t2 t3 t4 t5 t6 : Bool) (a b c d e f g : C) (k l m n o p q : D) →
    (cond t1 a (cond t2 b (cond t3 c (cond t4 d (cond t5 e (cond t6 f g))))) ≡ a → cond t1 k (cond t2 l (cond t3 m (cond t4 n (cond t5 o (cond t6 p q))))) ≡ k → Q) →
    (cond t1 a (cond t2 b (cond t3 c (cond t4 d (cond t5 e (cond t6 f g))))) ≡ b → cond t1 k (cond t2 l (cond t3 m (cond t4 n (cond t5 o (cond t6 p q))))) ≡ l → Q) →
    (cond t1 a (cond t2 b (cond t3 c (cond t4 d (cond t5 e (cond t6 f g))))) ≡ c → cond t1 k (cond t2 l (cond t3 m (cond t4 n (cond t5 o (cond t6 p q))))) ≡ m → Q) →
    (cond t1 a (cond t2 b (cond t3 c (cond t4 d (cond t5 e (cond t6 f g))))) ≡ d → cond t1 k (cond t2 l (cond t3 m (cond t4 n (cond t5 o (cond t6 p q))))) ≡ n → Q) →
    (cond t1 a (cond t2 b (cond t3 c (cond t4 d (cond t5 e (cond t6 f g))))) ≡ e → cond t1 k (cond t2 l (cond t3 m (cond t4 n (cond t5 o (cond t6 p q))))) ≡ o → Q) →
    (cond t1 a (cond t2 b (cond t3 c (cond t4 d (cond t5 e (cond t6 f g))))) ≡ f → cond t1 k (cond t2 l (cond t3 m (cond t4 n (cond t5 o (cond t6 p q))))) ≡ p → Q) →
    (cond t1 a (cond t2 b (cond t3 c (cond t4 d (cond t5 e (cond t6 f g))))) ≡ g → cond t1 k (cond t2 l (cond t3 m (cond t4 n (cond t5 o (cond t6 p q))))) ≡ q → Q) → Q
chosen true t2 t3 t4 t5 t6 a b c d e f g k l m n o p q h1 h2 h3 h4 h5 h6 h7 = h1 refl refl
chosen false true t3 t4 t5 t6 a b c d e f g k l m n o p q h1 h2 h3 h4 h5 h6 h7 = h2 refl refl
chosen false false true t4 t5 t6 a b c d e f g k l m n o p q h1 h2 h3 h4 h5 h6 h7 = h3 refl refl
chosen false false false true t5 t6 a b c d e f g k l m n o p q h1 h2 h3 h4 h5 h6 h7 = h4 refl refl
chosen false false false false true t6 a b c d e f g k l m n o p q h1 h2 h3 h4 h5 h6 h7 = h5 refl refl
chosen false false false false false true a b c d e f g k l m n o p q h1 h2 h3 h4 h5 h6 h7 = h6 refl refl
chosen false false false false false false a b c d e f g k l m n o p q h1 h2 h3 h4 h5 h6 h7 = h7 refl refl

-- each byte is in the class of LF, of the space, of a parenthesis, of `;`, of a letter or of the byte 0, and has its mark
sorted : {Q : Type 0} (b : ℕ) → (class_of b ≡ class_of 10 → mark_of b ≡ Plain → Q) → (class_of b ≡ class_of 32 → mark_of b ≡ Plain → Q) →
    (class_of b ≡ class_of 40 → mark_of b ≡ Left → Q) → (class_of b ≡ class_of 41 → mark_of b ≡ Right → Q) →
    (class_of b ≡ class_of 59 → mark_of b ≡ Semicolon → Q) → (class_of b ≡ class_of 97 → mark_of b ≡ Plain → Q) →
    (class_of b ≡ class_of 0 → mark_of b ≡ Bad → Q) → Q
unfolding class_of mark_of
sorted b h1 h2 h3 h4 h5 h6 h7 =
    chosen (b == 10) (is_other_blank b) (b == 40) (b == 41) (b == 59) (nat_le 33 b && nat_le b 126)
    (class_of 10) (class_of 32) (class_of 40) (class_of 41) (class_of 59) (class_of 97) (class_of 0) Plain Plain Left Right Semicolon Plain Bad
    h1 h2 h3 h4 h5 h6 h7

-- the pieces behind the first byte, by another byte of its class
first_byte : (state : ScanState) (at b k : ℕ) (bytes : List ℕ) → class_of b ≡ class_of k →
    pieces_from state at (b ∷ bytes) ≡ begins state (class_of k) at (b ∷ bytes) ++ pieces_from (state_after state (class_of k)) (at + 1) bytes
unfolding pieces_from
first_byte state at b k bytes is = ap (λ class. begins state class at (b ∷ bytes) ++ pieces_from (state_after state class) (at + 1) bytes) is

fifth : (t1 t2 t3 t4 t5 t6 : Bool) → cond t1 Plain (cond t2 Plain (cond t3 Left (cond t4 Right (cond t5 Semicolon (cond t6 Plain Bad))))) ≡ Semicolon → t5 ≡ true
fifth true t2 t3 t4 t5 t6 h = cc
fifth false true t3 t4 t5 t6 h = cc
fifth false false true t4 t5 t6 h = cc
fifth false false false true t5 t6 h = cc
fifth false false false false true t6 h = refl
fifth false false false false false true h = cc
fifth false false false false false false h = cc

-- no other byte has the mark of the semicolon
pub semicolon_is : (b : ℕ) → (b ≡ 59 → mark_of b ≡ Semicolon) × (mark_of b ≡ Semicolon → b ≡ 59)
unfolding mark_of
semicolon_is b = (
  λ is. ap mark_of is,
  λ h. eqb-true b 59 (fifth (b == 10) (is_other_blank b) (b == 40) (b == 41) (b == 59) (nat_le 33 b && nat_le b 126) h),
)

-- within a word the fault is that between tokens
alike : (end depth at b k : ℕ) (bytes : List ℕ) → class_of b ≡ class_of k →
    begins in_word (class_of k) at (b ∷ bytes) ++ pieces_from (state_after in_word (class_of k)) (at + 1) bytes
    ≡ begins between (class_of k) at (b ∷ bytes) ++ pieces_from (state_after between (class_of k)) (at + 1) bytes →
    fault_from end depth (pieces_from in_word at (b ∷ bytes)) ≡ fault_from end depth (pieces_from between at (b ∷ bytes))
alike end depth at b k bytes is e = ap (fault_from end depth) (first_byte in_word at b k bytes is ∙ e ∙ sym (first_byte between at b k bytes is))

in_word_first : (end depth at b : ℕ) (bytes : List ℕ) → fault_from end depth (pieces_from in_word at (b ∷ bytes)) ≡ fault_from end depth (pieces_from between at (b ∷ bytes))
unfolding class_of
in_word_first end depth at b bytes =
    sorted b
    (λ is _. alike end depth at b 10 bytes is refl)
    (λ is _. alike end depth at b 32 bytes is refl)
    (λ is _. alike end depth at b 40 bytes is refl)
    (λ is _. alike end depth at b 41 bytes is refl)
    (λ is _. alike end depth at b 59 bytes is refl)
    (λ is _. ap (fault_from end depth) (first_byte in_word at b 97 bytes is) ∙ sym (ap (fault_from end depth) (first_byte between at b 97 bytes is) ∙ fault_word end depth _ _ _))
    (λ is _. alike end depth at b 0 bytes is refl)

fault_in_word : (end depth at : ℕ) (bytes : List ℕ) → fault_from end depth (pieces_from in_word at bytes) ≡ fault_from end depth (pieces_from between at bytes)
unfolding pieces_from
fault_in_word end depth at [] = refl
fault_in_word end depth at (b ∷ bytes) = in_word_first end depth at b bytes

-- a byte of a word changes no fault
word_byte_step : (end depth : ℕ) (text : List ℕ) (at : ℕ) → at < length text → class_of (get_or text at 0) ≡ class_of 97 →
    fault_from end depth (pieces_at text at) ≡ fault_from end depth (pieces_at text (at + 1))
unfolding class_of
word_byte_step end depth text at lt is =
    let d : drop at text ≡ get_or text at 0 ∷ drop (at + 1) text = rw add-one (drop-cons text at 0 lt) in
    ap (λ bytes. fault_from end depth (pieces_from between at bytes)) d
    ∙ ap (fault_from end depth) (first_byte between at (get_or text at 0) 97 (drop (at + 1) text) is)
    ∙ fault_word end depth _ _ _
    ∙ fault_in_word end depth (at + 1) (drop (at + 1) text)

pub plain_mark : (end depth : ℕ) (text : List ℕ) (at : ℕ) → at < length text → mark_of (get_or text at 0) ≡ Plain →
    fault_from end depth (pieces_at text at) ≡ fault_from end depth (pieces_at text (at + 1))
unfolding class_of
plain_mark end depth text at lt h =
    sorted (get_or text at 0)
    (λ is _. ap (fault_from end depth) (line_end_step text at lt is))
    (λ is _. ap (fault_from end depth) (blank_step text at lt is))
    (λ _ m. let z : Left ≡ Plain = sym m ∙ h in cc)
    (λ _ m. let z : Right ≡ Plain = sym m ∙ h in cc)
    (λ _ m. let z : Semicolon ≡ Plain = sym m ∙ h in cc)
    (λ is _. word_byte_step end depth text at lt is)
    (λ _ m. let z : Bad ≡ Plain = sym m ∙ h in cc)

-- a run of plain bytes changes no fault
pub plain_run : (end depth : ℕ) (text : List ℕ) (at n : ℕ) → at + n ≤ length text → ((k : ℕ) → k < n → mark_of (get_or text (at + k) 0) ≡ Plain) →
    fault_from end depth (pieces_at text at) ≡ fault_from end depth (pieces_at text (at + n))
plain_run end depth text at zero room plain = ap (λ k. fault_from end depth (pieces_at text k)) (sym (add-zero at))
plain_run end depth text at (suc n) room plain =
    let same : at + n + 1 ≡ at + suc n = omega arith in
    plain_run end depth text at n (omega arith) (λ k lt. plain k (omega arith))
    ∙ plain_mark end depth text (at + n) (omega arith) (plain n (omega arith))
    ∙ ap (λ k. fault_from end depth (pieces_at text k)) same

pub left_mark : (end depth : ℕ) (text : List ℕ) (at : ℕ) → at < length text → mark_of (get_or text at 0) ≡ Left → depth < 64 →
    fault_from end depth (pieces_at text at) ≡ fault_from end (depth + 1) (pieces_at text (at + 1))
unfolding class_of
left_mark end depth text at lt h few =
    sorted (get_or text at 0)
    (λ _ m. let z : Plain ≡ Left = sym m ∙ h in cc)
    (λ _ m. let z : Plain ≡ Left = sym m ∙ h in cc)
    (λ is _. ap (fault_from end depth) (left_step text at lt is) ∙ fault_left end depth _ _ _ few)
    (λ _ m. let z : Right ≡ Left = sym m ∙ h in cc)
    (λ _ m. let z : Semicolon ≡ Left = sym m ∙ h in cc)
    (λ _ m. let z : Plain ≡ Left = sym m ∙ h in cc)
    (λ _ m. let z : Bad ≡ Left = sym m ∙ h in cc)

pub left_deep_mark : (end depth : ℕ) (text : List ℕ) (at : ℕ) → at < length text → mark_of (get_or text at 0) ≡ Left → 64 ≤ depth →
    fault_from end depth (pieces_at text at) ≡ Some (fault TooDeep at (at + 1))
unfolding class_of
left_deep_mark end depth text at lt h deep =
    sorted (get_or text at 0)
    (λ _ m. let z : Plain ≡ Left = sym m ∙ h in cc)
    (λ _ m. let z : Plain ≡ Left = sym m ∙ h in cc)
    (λ is _. ap (fault_from end depth) (left_step text at lt is) ∙ fault_left_deep end depth _ _ _ deep)
    (λ _ m. let z : Right ≡ Left = sym m ∙ h in cc)
    (λ _ m. let z : Semicolon ≡ Left = sym m ∙ h in cc)
    (λ _ m. let z : Plain ≡ Left = sym m ∙ h in cc)
    (λ _ m. let z : Bad ≡ Left = sym m ∙ h in cc)

pub right_mark : (end depth : ℕ) (text : List ℕ) (at : ℕ) → at < length text → mark_of (get_or text at 0) ≡ Right → 0 < depth →
    fault_from end depth (pieces_at text at) ≡ fault_from end (depth - 1) (pieces_at text (at + 1))
unfolding class_of
right_mark end depth text at lt h some =
    sorted (get_or text at 0)
    (λ _ m. let z : Plain ≡ Right = sym m ∙ h in cc)
    (λ _ m. let z : Plain ≡ Right = sym m ∙ h in cc)
    (λ _ m. let z : Left ≡ Right = sym m ∙ h in cc)
    (λ is _. ap (fault_from end depth) (right_step text at lt is) ∙ fault_right end depth _ _ _ some)
    (λ _ m. let z : Semicolon ≡ Right = sym m ∙ h in cc)
    (λ _ m. let z : Plain ≡ Right = sym m ∙ h in cc)
    (λ _ m. let z : Bad ≡ Right = sym m ∙ h in cc)

pub right_outside_mark : (end : ℕ) (text : List ℕ) (at : ℕ) → at < length text → mark_of (get_or text at 0) ≡ Right →
    fault_from end 0 (pieces_at text at) ≡ Some (fault Unbalanced at (at + 1))
unfolding class_of
right_outside_mark end text at lt h =
    sorted (get_or text at 0)
    (λ _ m. let z : Plain ≡ Right = sym m ∙ h in cc)
    (λ _ m. let z : Plain ≡ Right = sym m ∙ h in cc)
    (λ _ m. let z : Left ≡ Right = sym m ∙ h in cc)
    (λ is _. ap (fault_from end 0) (right_step text at lt is) ∙ fault_right_outside end _ _ _)
    (λ _ m. let z : Semicolon ≡ Right = sym m ∙ h in cc)
    (λ _ m. let z : Plain ≡ Right = sym m ∙ h in cc)
    (λ _ m. let z : Bad ≡ Right = sym m ∙ h in cc)

pub bad_mark : (end depth : ℕ) (text : List ℕ) (at : ℕ) → at < length text → mark_of (get_or text at 0) ≡ Bad →
    fault_from end depth (pieces_at text at) ≡ Some (fault BadText at (at + 1))
unfolding class_of
bad_mark end depth text at lt h =
    sorted (get_or text at 0)
    (λ _ m. let z : Plain ≡ Bad = sym m ∙ h in cc)
    (λ _ m. let z : Plain ≡ Bad = sym m ∙ h in cc)
    (λ _ m. let z : Left ≡ Bad = sym m ∙ h in cc)
    (λ _ m. let z : Right ≡ Bad = sym m ∙ h in cc)
    (λ _ m. let z : Semicolon ≡ Bad = sym m ∙ h in cc)
    (λ _ m. let z : Plain ≡ Bad = sym m ∙ h in cc)
    (λ is _. ap (fault_from end depth) (bad_step text at lt is) ∙ fault_bad end depth at [])

-- behind a comment the pieces are those at its `;`
pub semicolon_mark : (text : List ℕ) (at n : ℕ) → at < length text → mark_of (get_or text at 0) ≡ Semicolon → n ≡ prefix_len is_comment_byte (drop at text) →
    (pieces_at text (at + n) ≡ pieces_at text at) × (0 < n)
unfolding class_of
semicolon_mark text at n lt h run =
    sorted (get_or text at 0)
    (λ _ m. let z : Plain ≡ Semicolon = sym m ∙ h in cc)
    (λ _ m. let z : Plain ≡ Semicolon = sym m ∙ h in cc)
    (λ _ m. let z : Left ≡ Semicolon = sym m ∙ h in cc)
    (λ _ m. let z : Right ≡ Semicolon = sym m ∙ h in cc)
    (λ is _. (sym (comment_step text at n lt is run), run_not_empty is_comment_byte text at n lt (ap (λ class. not (is_line_end_class class)) is) run))
    (λ _ m. let z : Plain ≡ Semicolon = sym m ∙ h in cc)
    (λ _ m. let z : Bad ≡ Semicolon = sym m ∙ h in cc)

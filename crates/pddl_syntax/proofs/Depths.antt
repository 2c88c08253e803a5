-- The steps of the text fault, one for each token.

use Rattle.std.proofs.Common.{ℕ, zero, suc, ◌+◌, ◌-◌, ◌<◌, ◌≤◌, ◌^◌, ◌≡◌, List, [], ◌∷◌, length, Some, None, refl, arith}
use Rattle.std.proofs.lemmas.Bool.{le-leb, lt-leb}
use Rattle.pddl_tokens.specs.declared.spans.Span.{Span}
use Rattle.pddl_tokens.specs.declared.spans.TokenKind.TheVariants.{Left, Right, Word}
use Rattle.pddl_tokens.specs.Tokens.{Piece, token, bad, pieces}
use Rattle.pddl_syntax.specs.declared.fault.FaultKind.TheVariants.{BadText, Unbalanced, TooDeep}
use Rattle.pddl_syntax.specs.ReadFault.{fault}
use Rattle.pddl_syntax.specs.Trees.{fault_from, text_fault}

pub fault_at_end : (end : ℕ) → fault_from end 0 [] ≡ None
unfolding fault_from
fault_at_end end = refl

pub fault_inside : (end depth : ℕ) → 0 < depth → fault_from end depth [] ≡ Some (fault Unbalanced end end)
unfolding fault_from
fault_inside end zero h = absurd (omega arith)
fault_inside end (suc depth) h = refl

pub fault_bad : (end depth at : ℕ) (more : List Piece) → fault_from end depth (bad at ∷ more) ≡ Some (fault BadText at (at + 1))
unfolding fault_from
fault_bad end zero at more = refl
fault_bad end (suc depth) at more = refl

pub fault_word : (end depth : ℕ) (span : Span) (text : List ℕ) (more : List Piece) →
    fault_from end depth (token Word span text ∷ more) ≡ fault_from end depth more
unfolding fault_from
fault_word end zero span text more = refl
fault_word end (suc depth) span text more = refl

pub fault_left : (end depth : ℕ) (span : Span) (text : List ℕ) (more : List Piece) → depth < 64 →
    fault_from end depth (token Left span text ∷ more) ≡ fault_from end (depth + 1) more
unfolding fault_from
fault_left end zero span text more h = refl
fault_left end (suc depth) span text more h = rw (lt-leb 64 (suc depth) h) refl

pub fault_left_deep : (end depth : ℕ) (span : Span) (text : List ℕ) (more : List Piece) → 64 ≤ depth →
    fault_from end depth (token Left span text ∷ more) ≡ Some (record { kind = TooDeep; span = span })
unfolding fault_from
fault_left_deep end zero span text more h = absurd (omega arith)
fault_left_deep end (suc depth) span text more h = rw (le-leb 64 (suc depth) h) refl

pub fault_right_outside : (end : ℕ) (span : Span) (text : List ℕ) (more : List Piece) →
    fault_from end 0 (token Right span text ∷ more) ≡ Some (record { kind = Unbalanced; span = span })
unfolding fault_from
fault_right_outside end span text more = refl

pub fault_right : (end depth : ℕ) (span : Span) (text : List ℕ) (more : List Piece) → 0 < depth →
    fault_from end depth (token Right span text ∷ more) ≡ fault_from end (depth - 1) more
unfolding fault_from
fault_right end zero span text more h = absurd (omega arith)
fault_right end (suc depth) span text more h = let e : suc depth - 1 ≡ depth = omega arith in rw e refl

pub text_fault_long : (text : List ℕ) → 2 ^ 31 ≤ length text → text_fault text ≡ Some (fault BadText 0 0)
unfolding text_fault
text_fault_long text h = rw (le-leb (2 ^ 31) (length text) h) refl

pub text_fault_short : (text : List ℕ) → length text < 2 ^ 31 → text_fault text ≡ fault_from (length text) 0 (pieces text)
unfolding text_fault
text_fault_short text h = rw (lt-leb (2 ^ 31) (length text) h) refl

pub ruleset text_steps =
    (fault_at_end, fault_inside, fault_bad, fault_word, fault_left, fault_left_deep, fault_right_outside, fault_right, text_fault_long, text_fault_short)

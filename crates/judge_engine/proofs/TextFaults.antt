-- A fault of a text's bytes or parentheses is never want of memory.

use Rattle.std.proofs.Common.{◌≡◌, ◌≢◌, ℕ, zero, suc, ◌+◌, ◌^◌, Bool, true, false, nat_le, List, [], ◌∷◌, length, Option, None, Some, ap, ◌∙◌, if◌then◌else◌, refl}
use Rattle.pddl_tokens.specs.declared.spans.TokenKind.TheVariants.{Left, Right, Word}
use Rattle.pddl_tokens.specs.Tokens.{Piece, token, bad, pieces}
use Rattle.pddl_syntax.specs.declared.fault.FaultKind.TheVariants.{BadText, Unbalanced, TooDeep, OutOfMemory}
use Rattle.pddl_syntax.specs.declared.fault.ReadFault.{ReadFault}
use Rattle.pddl_syntax.specs.ReadFault.{fault}
use Rattle.pddl_syntax.specs.Trees.{fault_from, text_fault}

-- the found fault is this one, so it has its kind
same_kind : (f e : ReadFault) → Some f ≡ Some e → f.kind ≡ e.kind
same_kind f e is = let same : f ≡ e = cc in ap (λ (r : ReadFault). r.kind) same

bad_text : (e : ReadFault) → BadText ≡ e.kind → e.kind ≢ OutOfMemory
bad_text e is memory = let clash : BadText ≡ OutOfMemory = is ∙ memory in cc

unbalanced : (e : ReadFault) → Unbalanced ≡ e.kind → e.kind ≢ OutOfMemory
unbalanced e is memory = let clash : Unbalanced ≡ OutOfMemory = is ∙ memory in cc

too_deep : (e : ReadFault) → TooDeep ≡ e.kind → e.kind ≢ OutOfMemory
too_deep e is memory = let clash : TooDeep ≡ OutOfMemory = is ∙ memory in cc

-- a `(` at a depth that is too deep or not
opened : (deep : Bool) (f e : ReadFault) (later : Option ReadFault) → TooDeep ≡ f.kind
    → (later ≡ Some e → e.kind ≢ OutOfMemory) → (if deep then Some f else later) ≡ Some e → e.kind ≢ OutOfMemory
opened true f e later kind h is = too_deep e (kind ∙ same_kind f e is)
opened false f e later kind h is = h is

tokens_kind : (end depth : ℕ) (tokens : List Piece) (e : ReadFault) → fault_from end depth tokens ≡ Some e → e.kind ≢ OutOfMemory
unfolding fault_from
tokens_kind end zero [] e is = absurd (let clash : ◌≡◌ {A = Option ReadFault} None (Some e) = is in cc)
tokens_kind end (suc depth) [] e is = unbalanced e (same_kind (fault Unbalanced end end) e is)
tokens_kind end zero (bad at ∷ more) e is = bad_text e (same_kind (fault BadText at (at + 1)) e is)
tokens_kind end (suc depth) (bad at ∷ more) e is = bad_text e (same_kind (fault BadText at (at + 1)) e is)
tokens_kind end zero (token Word span text ∷ more) e is = tokens_kind end zero more e is
tokens_kind end (suc depth) (token Word span text ∷ more) e is = tokens_kind end (suc depth) more e is
tokens_kind end zero (token Left span text ∷ more) e is = tokens_kind end 1 more e is
tokens_kind end (suc depth) (token Left span text ∷ more) e is =
    opened (nat_le 64 (suc depth)) (record { kind = TooDeep; span = span }) e (fault_from end (suc depth + 1) more) refl
    (tokens_kind end (suc depth + 1) more e) is
tokens_kind end zero (token Right span text ∷ more) e is = unbalanced e (same_kind (record { kind = Unbalanced; span = span }) e is)
tokens_kind end (suc depth) (token Right span text ∷ more) e is = tokens_kind end depth more e is

-- so neither is that of a whole text
long_or_not : (long : Bool) (text : List ℕ) (e : ReadFault)
    → (if long then Some (fault BadText 0 0) else fault_from (length text) 0 (pieces text)) ≡ Some e → e.kind ≢ OutOfMemory
long_or_not true text e is = bad_text e (same_kind (fault BadText 0 0) e is)
long_or_not false text e is = tokens_kind (length text) 0 (pieces text) e is

pub text_fault_kind : (text : List ℕ) (e : ReadFault) → text_fault text ≡ Some e → e.kind ≢ OutOfMemory
unfolding text_fault
text_fault_kind text e is = long_or_not (nat_le (2 ^ 31) (length text)) text e is

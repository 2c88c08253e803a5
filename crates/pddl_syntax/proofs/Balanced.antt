-- A text without a text fault has levels all along.

use Rattle.std.proofs.Common.{ℕ, zero, suc, ◌+◌, ◌<◌, ◌^◌, ◌≡◌, List, [], ◌∷◌, length, Option, Some, None, IsSome, refl, arith, sym, ◌∙◌, inl, inr}
use Rattle.std.proofs.lemmas.Bool.{cases_lt}
use Rattle.std.specs.Option.{option_map, option_and_then}
use Rattle.pddl_tokens.specs.declared.spans.Span.{Span}
use Rattle.pddl_tokens.specs.declared.spans.TokenKind.TheVariants.{Left, Right, Word}
use Rattle.pddl_tokens.specs.Tokens.{Piece, token, bad, pieces}
use Rattle.pddl_syntax.specs.declared.fault.ReadFault.{ReadFault}
use Rattle.pddl_syntax.specs.Trees.{Trees, fault_from, text_fault}
use Rattle.pddl_syntax.specs.Levels.{Levels, before_word, before_left, before_right, around, levels}
use Rattle.pddl_syntax.proofs.Depths.{fault_left_deep, fault_left, text_fault_long, text_fault_short}

-- there are levels, and as many lists are open
abbrev pub HasDepth : ℕ → Option Levels → Type 0
HasDepth depth None = ⊥
HasDepth depth (Some found) = length found.below ≡ depth

before_word_depth : (depth : ℕ) (text : List ℕ) (after : Option Levels) → HasDepth depth after → HasDepth depth (option_map (before_word text) after)
before_word_depth depth text None h = absurd h
before_word_depth depth text (Some l) h = h

around_depth : (depth : ℕ) (inside : Trees) (below : List Trees) → length below ≡ depth + 1 → HasDepth depth (around inside below)
around_depth depth inside [] h = absurd (omega arith)
around_depth depth inside (others ∷ below) h = omega arith

before_left_depth : (depth : ℕ) (after : Option Levels) → HasDepth (depth + 1) after → HasDepth depth (option_and_then before_left after)
before_left_depth depth None h = absurd h
before_left_depth depth (Some l) h = around_depth depth l.top l.below h

before_right_depth : (depth : ℕ) (after : Option Levels) → HasDepth depth after → HasDepth (suc depth) (option_map before_right after)
before_right_depth depth None h = absurd h
before_right_depth depth (Some l) h = omega arith

open_none : (end depth : ℕ) (span : Span) (text : List ℕ) (more : List Piece) → fault_from end depth (token Left span text ∷ more) ≡ None →
    fault_from end (depth + 1) more ≡ None
open_none end depth span text more h =
    elim (cases_lt depth 64) [ inl lt ↦ sym (fault_left end depth span text more lt) ∙ h | inr le ↦ absurd_fault (sym (fault_left_deep end depth span text more le) ∙ h) ]
  where
    absurd_fault : {A : Type 0} {e : ReadFault} → Some e ≡ None → A
    absurd_fault h = cc

-- tokens without a fault
pub has_levels : (end depth : ℕ) (tokens : List Piece) → fault_from end depth tokens ≡ None → HasDepth depth (levels tokens)
unfolding fault_from levels
has_levels end zero [] h = refl
has_levels end (suc depth) [] h = cc
has_levels end zero (bad at ∷ more) h = cc
has_levels end (suc depth) (bad at ∷ more) h = cc
has_levels end zero (token Word span text ∷ more) h = before_word_depth zero text (levels more) (has_levels end zero more h)
has_levels end (suc depth) (token Word span text ∷ more) h = before_word_depth (suc depth) text (levels more) (has_levels end (suc depth) more h)
has_levels end zero (token Left span text ∷ more) h = before_left_depth zero (levels more) (has_levels end (0 + 1) more (open_none end 0 span text more h))
has_levels end (suc depth) (token Left span text ∷ more) h =
    before_left_depth (suc depth) (levels more) (has_levels end (suc depth + 1) more (open_none end (suc depth) span text more h))
has_levels end zero (token Right span text ∷ more) h = cc
has_levels end (suc depth) (token Right span text ∷ more) h = before_right_depth depth (levels more) (has_levels end depth more h)

-- a text without a text fault is short
pub short_without_fault : (text : List ℕ) → text_fault text ≡ None → length text < 2 ^ 31
short_without_fault text h =
    elim (cases_lt (length text) (2 ^ 31)) [ inl lt ↦ lt | inr le ↦ no_fault (sym (text_fault_long text le) ∙ h) ]
  where
    no_fault : {A : Type 0} {e : ReadFault} → Some e ≡ None → A
    no_fault h = cc

-- every list of a text without a text fault is closed
pub closed_without_fault : (text : List ℕ) → text_fault text ≡ None → HasDepth 0 (levels (pieces text))
closed_without_fault text h = has_levels (length text) 0 (pieces text) (sym (text_fault_short text (short_without_fault text h)) ∙ h)

pub levels_without_fault : (text : List ℕ) → text_fault text ≡ None → IsSome (levels (pieces text))
levels_without_fault text h = some_levels 0 (levels (pieces text)) (closed_without_fault text h)
  where
    some_levels : (depth : ℕ) (found : Option Levels) → HasDepth depth found → IsSome found
    some_levels depth None h = absurd h
    some_levels depth (Some l) h = refl

pub ruleset balanced_steps = (levels_without_fault, short_without_fault)

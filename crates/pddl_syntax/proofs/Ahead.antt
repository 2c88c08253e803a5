-- How much is still to come of a text at each offset.

use Rattle.std.proofs.Common.{ℕ, suc, ◌+◌, ◌<◌, ◌≤◌, ◌^◌, ◌≡◌, List, [], ◌∷◌, length, Option, Some, None, Result, Ok, Err, IsSome, refl, arith, ap, subst, sym, ◌∙◌}
use Rattle.std.specs.Option.{option_map, option_and_then}
use Rattle.pddl_tokens.specs.declared.spans.Span.{Span}
use Rattle.pddl_tokens.specs.declared.spans.Token.{Token}
use Rattle.pddl_tokens.specs.declared.spans.TokenKind.{TokenKind}
use Rattle.pddl_tokens.specs.declared.spans.TokenKind.TheVariants.{Left, Right, Word}
use Rattle.pddl_tokens.specs.declared.spans.BadByte.{BadByte}
use Rattle.pddl_tokens.specs.Tokens.{Piece, token, bad, pieces, Takes}
use Rattle.pddl_tokens.proofs.Counts.{few_pieces}
use Rattle.pddl_syntax.specs.Trees.{Trees, text_fault}
use Rattle.pddl_syntax.specs.Levels.{Levels, before_word, before_left, before_right, around, levels, or_end, here}
use Rattle.pddl_syntax.specs.Walking.{behind}
use Rattle.pddl_syntax.specs.Sizes.{size, sizes, ahead}
use Rattle.pddl_syntax.proofs.Balanced.{short_without_fault}
use Rattle.pddl_syntax.proofs.LevelLemmas.{word_step, left_step, right_step}

few_before_word : (text : List ℕ) (found : Option Levels) (n : ℕ) → ahead (or_end found) ≤ n → ahead (or_end (option_map (before_word text) found)) ≤ suc n
few_before_word text None n h = omega arith
few_before_word text (Some l) n h = omega arith

few_around : (inside : Trees) (below : List Trees) (n : ℕ) → size inside + sizes below ≤ n → ahead (or_end (around inside below)) ≤ suc n
few_around inside [] n h = omega arith
few_around inside (others ∷ below) n h = omega arith

few_before_left : (found : Option Levels) (n : ℕ) → ahead (or_end found) ≤ n → ahead (or_end (option_and_then before_left found)) ≤ suc n
few_before_left None n h = omega arith
few_before_left (Some l) n h = few_around l.top l.below n h

few_before_right : (found : Option Levels) (n : ℕ) → ahead (or_end found) ≤ n → ahead (or_end (option_map before_right found)) ≤ suc n
few_before_right None n h = omega arith
few_before_right (Some l) n h = omega arith

-- no more is to come than there are tokens
few_ahead : (tokens : List Piece) → ahead (here tokens) ≤ length tokens
unfolding here levels
few_ahead [] = omega arith
few_ahead (bad at ∷ more) = omega arith
few_ahead (token Word span text ∷ more) = few_before_word text (levels more) (length more) (few_ahead more)
few_ahead (token Left span text ∷ more) = few_before_left (levels more) (length more) (few_ahead more)
few_ahead (token Right span text ∷ more) = few_before_right (levels more) (length more) (few_ahead more)

pub short_at_start : (text : List ℕ) → text_fault text ≡ None → ahead (here (pieces text)) < 2 ^ 31
short_at_start text h = omega (arith, short_without_fault text h, few_ahead (pieces text), few_pieces text)

pub sizes_behind : (below : List Trees) → size (behind below).top + sizes (behind below).below ≡ sizes below
unfolding behind
sizes_behind [] = refl
sizes_behind (others ∷ below) = refl

ahead_behind : (below : List Trees) → ahead (behind below) ≡ sizes below
ahead_behind below = sizes_behind below

-- no step of the cursor leads back
behind_token : (kind : TokenKind) (span : Span) (text : List ℕ) (more : List Piece) → IsSome (levels (token kind span text ∷ more)) →
    ahead (here more) ≤ ahead (here (token kind span text ∷ more))
behind_token Word span text more h =
    let e = word_step span text more h in
    omega (arith, ap size e.0, ap sizes e.1)
behind_token Left span text more h =
    let e = left_step span text more h in
    omega (arith, ap size e.0, ap sizes e.1, sizes_behind (here more).below)
behind_token Right span text more h =
    let e = right_step span text more h in
    omega (arith, ap size e.0, ap ahead e.1, ahead_behind (here (token Right span text ∷ more)).below)

pub no_more_ahead : (step : Result (Option Token) BadByte) (old new : List Piece) → Takes step old new → IsSome (levels old) → ahead (here new) ≤ ahead (here old)
no_more_ahead (Ok (Some t)) old new takes h =
    let P : List Piece → Type 0 = λ ps. IsSome (levels ps) → ahead (here new) ≤ ahead (here ps) in
    subst P (sym takes) (behind_token t.kind t.span t.text.now new) h
no_more_ahead (Ok None) old new takes h = omega (arith, ap (λ ps. ahead (here ps)) (takes.1 ∙ sym takes.0))
no_more_ahead (Err byte) old new takes h = omega (arith, ap (λ ps. ahead (here ps)) takes.1)

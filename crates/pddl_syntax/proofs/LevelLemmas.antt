-- What one token does to the levels of a walk.

use Rattle.std.proofs.Common.{ℕ, ◌≡◌, true, false, List, [], ◌∷◌, Option, Some, None, Result, Ok, Err, IsSome, refl, sym, subst}
use Rattle.std.specs.Option.{option_map, option_and_then}
use Rattle.pddl_tokens.specs.declared.spans.Span.{Span}
use Rattle.pddl_tokens.specs.declared.spans.Token.{Token}
use Rattle.pddl_tokens.specs.declared.spans.TokenKind.{TokenKind}
use Rattle.pddl_tokens.specs.declared.spans.TokenKind.TheVariants.{Left, Right, Word}
use Rattle.pddl_tokens.specs.declared.spans.BadByte.{BadByte}
use Rattle.pddl_tokens.specs.Tokens.{Piece, token, bad}
use Rattle.pddl_tokens.specs.Tokens.{Takes}
use Rattle.pddl_syntax.specs.Trees.{Trees, none, word, list, begins_with_list}
use Rattle.pddl_syntax.specs.Levels.{Levels, before_word, before_left, before_right, levels, or_end, here}
use Rattle.pddl_syntax.specs.Walking.{behind}

-- the levels before a word, where there are some behind it
word_step_by : (text : List ℕ) (after : Option Levels) → IsSome (option_map (before_word text) after) →
    ((or_end (option_map (before_word text) after)).top ≡ word text (or_end after).top) × ((or_end after).below ≡ (or_end (option_map (before_word text) after)).below)
word_step_by text None h = cc
word_step_by text (Some l) h = (refl, refl)

pub word_step : (span : Span) (text : List ℕ) (more : List Piece) → IsSome (levels (token Word span text ∷ more)) →
    ((here (token Word span text ∷ more)).top ≡ word text (here more).top) × ((here more).below ≡ (here (token Word span text ∷ more)).below)
unfolding levels here
word_step span text more h = word_step_by text (levels more) h

left_step_by : (after : Option Levels) → IsSome (option_and_then before_left after) →
    ((or_end (option_and_then before_left after)).top ≡ list (or_end after).top (behind (or_end after).below).top) ×
    ((or_end (option_and_then before_left after)).below ≡ (behind (or_end after).below).below)
unfolding behind
left_step_by None h = cc
left_step_by (Some l) h = at_top l.top l.below h
  where
    at_top : (inside : Trees) (below : List Trees) → IsSome (before_left (record { top = inside; below = below })) →
        ((or_end (before_left (record { top = inside; below = below }))).top ≡ list inside (behind below).top) ×
        ((or_end (before_left (record { top = inside; below = below }))).below ≡ (behind below).below)
    at_top inside [] h = cc
    at_top inside (others ∷ below) h = (refl, refl)

pub left_step : (span : Span) (text : List ℕ) (more : List Piece) → IsSome (levels (token Left span text ∷ more)) →
    ((here (token Left span text ∷ more)).top ≡ list (here more).top (behind (here more).below).top) ×
    ((here (token Left span text ∷ more)).below ≡ (behind (here more).below).below)
unfolding levels here
left_step span text more h = left_step_by (levels more) h

right_step_by : (after : Option Levels) → IsSome (option_map before_right after) →
    ((or_end (option_map before_right after)).top ≡ none) × (or_end after ≡ behind (or_end (option_map before_right after)).below)
unfolding behind
right_step_by None h = cc
right_step_by (Some l) h = (refl, refl)

pub right_step : (span : Span) (text : List ℕ) (more : List Piece) → IsSome (levels (token Right span text ∷ more)) →
    ((here (token Right span text ∷ more)).top ≡ none) × (here more ≡ behind (here (token Right span text ∷ more)).below)
unfolding levels here
right_step span text more h = right_step_by (levels more) h

pub end_step : ((here []).top ≡ none) × (here [] ≡ behind (here []).below)
unfolding levels here behind
end_step = (refl, refl)

-- no bad byte stands before levels
pub no_bad_byte : (at : ℕ) → IsSome (levels (bad at ∷ [])) → ⊥
unfolding levels
no_bad_byte at h = cc

some_behind_map : (f : Levels → Levels) (after : Option Levels) → IsSome (option_map f after) → IsSome after
some_behind_map f None h = cc
some_behind_map f (Some l) h = refl

some_behind_left : (after : Option Levels) → IsSome (option_and_then before_left after) → IsSome after
some_behind_left None h = cc
some_behind_left (Some l) h = refl

pub some_behind_token : (kind : TokenKind) (span : Span) (text : List ℕ) (more : List Piece) → IsSome (levels (token kind span text ∷ more)) → IsSome (levels more)
unfolding levels
some_behind_token Word span text more h = some_behind_map (before_word text) (levels more) h
some_behind_token Left span text more h = some_behind_left (levels more) h
some_behind_token Right span text more h = some_behind_map before_right (levels more) h

-- where there are levels before a step of the cursor, there are levels behind it
pub goes_on : (step : Result (Option Token) BadByte) (old new : List Piece) → Takes step old new → IsSome (levels old) → IsSome (levels new)
unfolding levels
goes_on (Ok (Some t)) old new takes h = some_behind_token t.kind t.span t.text.now new (let P : List Piece → Type 0 = λ ps. IsSome (levels ps) in subst P takes h)
goes_on (Ok None) old new takes h = let P : List Piece → Type 0 = λ ps. IsSome (levels ps) in subst P (sym takes.1) refl
goes_on (Err byte) old new takes h = let P : List Piece → Type 0 = λ ps. IsSome (levels ps) in subst P (sym takes.1) h

pub list_first : (k f : Trees) → begins_with_list (list k f) ≡ true
unfolding begins_with_list
list_first k f = refl

pub word_first : (w : List ℕ) (f : Trees) → begins_with_list (word w f) ≡ false
unfolding begins_with_list
word_first w f = refl

pub none_first : begins_with_list none ≡ false
unfolding begins_with_list
none_first = refl

pub ruleset list_steps = (list_first, word_first, none_first)

pub ruleset walk_steps = (word_step, left_step, right_step, end_step, no_bad_byte, goes_on)

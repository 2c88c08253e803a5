-- Atoms that are written as words with a single space between each two.

use Rattle.std.proofs.Common.{◌≡◌, ◌≢◌, ℕ, suc, ◌+◌, ◌<◌, ◌++◌, Bool, true, false, List, [], ◌∷◌, take, length, Option, Some, None, IsSome, refl, sym, ap, ◌∙◌, subst, arith}
use Rattle.std.specs.Prelude.{not, ◌&&◌, if◌then◌else◌}
use Rattle.std.specs.List.{list_all, onto_first, prefix_len}
use Rattle.std.proofs.lemmas.Bool.{and_parts}
use Rattle.pddl_words.specs.SpacedWords as spaced
use Rattle.pddl_words.specs.SpacedWords.{is_space}
use Rattle.pddl_words.specs.Words.{is_name}
use Rattle.pddl_tokens.specs.declared.spans.Span.{Span}
use Rattle.pddl_tokens.specs.declared.spans.TokenKind.TheVariants.{Left, Right, Word}
use Rattle.pddl_tokens.specs.declared.scan.ParenRange.{ParenRange}
use Rattle.pddl_tokens.specs.Tokens.{Piece, token, span}
use Rattle.pddl_tokens.specs.ParenRanges.{IsPlain, word_pieces, range_pieces}
use Rattle.pddl_tokens.proofs.NamesArePlain.{names_are_plain}
use Rattle.pddl_tokens.proofs.PlainRows.{row_has_words}
use Rattle.pddl_syntax.specs.declared.dialect.Dialect.{Dialect}
use Rattle.pddl_syntax.specs.declared.heads.Context.{Context}
use Rattle.pddl_syntax.specs.declared.heads.Context.TheVariants as context
use Rattle.pddl_syntax.specs.declared.heads.FormulaHead.{FormulaHead}
use Rattle.pddl_syntax.specs.declared.heads.FormulaHead.TheVariants as formula
use Rattle.pddl_syntax.specs.declared.heads.ListHead.TheVariants as head
use Rattle.pddl_syntax.specs.declared.heads.Scope.{Scope}
use Rattle.pddl_syntax.specs.Heads.{formula_head, has_changes, has_functions, is_term, list_head, scope_at}
use Rattle.pddl_syntax.specs.Keywords.{is_change}
use Rattle.pddl_syntax.specs.Initial.{GivesItem}
use Rattle.pddl_syntax.specs.Levels.{Levels, levels, or_end, here}
use Rattle.pddl_syntax.specs.Optional.{followed_by, guard}
use Rattle.pddl_syntax.specs.Rows.{AreNames, ComesNext, PassesRow, is_in_word, is_name_head, atom_of_words, atom_spelled, heads_atom, word_trees}
use Rattle.pddl_syntax.specs.Sizes.{size, sizes, ahead}
use Rattle.pddl_syntax.specs.Syntax.{InitialForm, initial_atom, atom_of, atom_with, init_item_in, words_of}
use Rattle.pddl_syntax.specs.Trees.{word, list, begins_with_list}
use Rattle.pddl_syntax.proofs.AtomLemmas.{atom_some}
use Rattle.pddl_syntax.proofs.InitialLemmas.{item_atom_some}
use Rattle.pddl_syntax.proofs.LevelLemmas.{some_behind_token}

first_of_parts : (b : ℕ) (bytes : List ℕ) (parts : List (List ℕ)) → parts ≢ [] → take (prefix_len is_in_word bytes) bytes ≡ (atom_of_words parts).predicate → b ∷ take (prefix_len is_in_word bytes) bytes ≡ (atom_of_words (onto_first b parts)).predicate
first_of_parts b bytes [] some is = absurd (some refl)
first_of_parts b bytes (part ∷ parts) some is = ap (λ (bs : List ℕ). b ∷ bs) is

first_word_by : (b : ℕ) (bytes : List ℕ) (space : Bool) → take (prefix_len is_in_word bytes) bytes ≡ (atom_of_words (spaced.words_of bytes)).predicate → take (if not space then 1 + prefix_len is_in_word bytes else 0) (b ∷ bytes) ≡ (atom_of_words (if space then [] ∷ spaced.words_of bytes else onto_first b (spaced.words_of bytes))).predicate
first_word_by b bytes true is = refl
first_word_by b bytes false is =
    let more : 1 + prefix_len is_in_word bytes ≡ suc (prefix_len is_in_word bytes) = omega arith in
    rw more (first_of_parts b bytes (spaced.words_of bytes) (row_has_words bytes) is)

-- the first word of a row ends at its first space
pub first_word : (row : List ℕ) → take (prefix_len is_in_word row) row ≡ (atom_spelled row).predicate
unfolding atom_spelled
first_word [] = refl
first_word (b ∷ bytes) = first_word_by b bytes (is_space b) (first_word bytes)

-- the levels before the words of a list, from those after its `)`
words_levels : (at : ℕ) (words : List (List ℕ)) (end : Span) (close : List ℕ) (rest : List Piece) (after : Levels) → levels rest ≡ Some after → levels ((word_pieces at words ++ token Right end close ∷ []) ++ rest) ≡ Some (record { top = word_trees words; below = after.top ∷ after.below })
unfolding levels word_pieces word_trees
words_levels at [] end close rest after is = rw is refl
words_levels at (w ∷ words) end close rest after is = rw (words_levels (at + length w + 1) words end close rest after is) refl

-- where there are levels before the words of a list, there are some after its `)`
behind_words : (at : ℕ) (words : List (List ℕ)) (end : Span) (close : List ℕ) (rest : List Piece) → IsSome (levels ((word_pieces at words ++ token Right end close ∷ []) ++ rest)) → IsSome (levels rest)
unfolding word_pieces
behind_words at [] end close rest some = some_behind_token Right end close rest some
behind_words at (w ∷ words) end close rest some =
    behind_words (at + length w + 1) words end close rest
    (some_behind_token Word (span at (at + length w)) w ((word_pieces (at + length w + 1) words ++ token Right end close ∷ []) ++ rest) some)

-- where there are levels before a range, there are some after it
pub behind_range : (at : ℕ) (row : List ℕ) (rest : List Piece) → IsSome (levels (range_pieces at row ++ rest)) → IsSome (levels rest)
behind_range at row rest some = behind_words (at + 1) (spaced.words_of row) _ _ rest (some_behind_token Left _ _ _ some)

range_levels : (at : ℕ) (row : List ℕ) (rest : List Piece) (after : Levels) → levels rest ≡ Some after → levels (range_pieces at row ++ rest) ≡ Some (record { top = list (word_trees (spaced.words_of row)) after.top; below = after.below })
unfolding levels
range_levels at row rest after is = rw (words_levels (at + 1) (spaced.words_of row) _ _ rest after is) refl

passes_by : (at : ℕ) (row : List ℕ) (rest : List Piece) (after : Option Levels) → levels rest ≡ after → IsSome after → PassesRow row (here (range_pieces at row ++ rest)) (or_end after)
unfolding here
passes_by at row rest None is some = absurd cc
passes_by at row rest (Some after) is some = rw (range_levels at row rest after is) (refl, refl)

-- a walk over a range steps over the list of its words
pub passes_range : (at : ℕ) (row : List ℕ) (rest : List Piece) → IsSome (levels (range_pieces at row ++ rest)) → PassesRow row (here (range_pieces at row ++ rest)) (here rest)
unfolding here
passes_range at row rest some = passes_by at row rest (levels rest) refl (behind_range at row rest some)

-- the same of a range that comes next
pub passes_next : (pieces : List Piece) (range : ParenRange) → IsSome (levels pieces) → ComesNext pieces range → IsPlain range.key.now → IsSome (levels range.rest) × PassesRow range.key.now (here pieces) (here range.rest)
passes_next pieces range some next plain =
    let row = range.key.now in
    let is : pieces ≡ range_pieces range.start row ++ range.rest = next plain in
    let there : IsSome (levels (range_pieces range.start row ++ range.rest)) = subst (λ (ps : List Piece). IsSome (levels ps)) is some in (
      behind_range range.start row range.rest there,
      subst (λ (ps : List Piece). PassesRow row (here ps) (here range.rest)) (sym is) (passes_range range.start row range.rest there),
    )

-- less is left after a row
pub less_ahead : (row : List ℕ) (old new : Levels) → PassesRow row old new → ahead new < ahead old
less_ahead row old new passes = omega (arith, ap size passes.0, ap sizes passes.1)

-- a name may be a term anywhere
name_is_term : (context : Context) (w : List ℕ) → is_name w ≡ true → is_term context w ≡ true
unfolding is_term
name_is_term context.Condition w is = rw is refl
name_is_term context.Goal w is = is
name_is_term context.Effect w is = rw is refl
name_is_term context.InnerEffect w is = rw is refl
name_is_term context.Initial w is = is

names_read : (context : Context) (words : List (List ℕ)) → list_all is_name words ≡ true → words_of (is_term context) (word_trees words) ≡ Some words
unfolding word_trees words_of guard followed_by
names_read context [] names = refl
names_read context (w ∷ words) names =
    let (first, others) = and_parts (is_name w) (list_all is_name words) names in
    rw (name_is_term context w first, names_read context words others) refl

no_list_first : (words : List (List ℕ)) → begins_with_list (word_trees words) ≡ false
unfolding begins_with_list word_trees
no_list_first [] = refl
no_list_first (w ∷ words) = refl

name_by_head : (found : FormulaHead) → is_name_head found ≡ true → found ≡ formula.Name
name_by_head formula.Name is = refl
name_by_head formula.And is = absurd cc
name_by_head formula.Not is = absurd cc
name_by_head formula.Reserved is = absurd cc
name_by_head formula.Other is = absurd cc

no_change : (changes is_change : Bool) → (changes && (is_change && false)) ≡ false
no_change false is_change = refl
no_change true false = refl
no_change true true = refl

-- a name that is not reserved heads an atom, if no list follows
heads_by : (scope : Scope) (w : List ℕ) (terms : List (List ℕ)) → formula_head w ≡ formula.Name → list_head scope w (begins_with_list (word_trees terms)) ≡ head.Atom
unfolding list_head
heads_by scope w terms is = rw (no_list_first terms, is, no_change (has_functions scope.dialect && has_changes scope.context) (is_change w)) refl

item_by : (dialect : Dialect) (words : List (List ℕ)) → words ≢ [] → is_name_head (formula_head (atom_of_words words).predicate) ≡ true → list_all is_name words ≡ true →
    init_item_in dialect (word_trees words) ≡ Some (initial_atom true (atom_of_words words))
unfolding word_trees
item_by dialect [] some heads names = absurd (some refl)
item_by dialect (w ∷ words) some heads names =
    let (_, others) = and_parts (is_name w) (list_all is_name words) names in
    let found = names_read context.Initial words others in
    let head = heads_by (scope_at dialect context.Initial) w words (name_by_head (formula_head w) heads) in
    let atom : atom_of (is_term context.Initial) w (word_trees words) ≡ Some (atom_with w words) = atom_some (is_term context.Initial) w (word_trees words) words found in
    item_atom_some dialect w (word_trees words) (atom_with w words) head atom

-- a row of names that heads an atom is the initial atom that it spells
row_is_item : (dialect : Dialect) (row : List ℕ) → heads_atom row ≡ true → AreNames row → init_item_in dialect (word_trees (spaced.words_of row)) ≡ Some (initial_atom true (atom_spelled row))
unfolding heads_atom atom_spelled
row_is_item dialect row heads names = item_by dialect (spaced.words_of row) (row_has_words row) heads names

first_named : (words : List (List ℕ)) → words ≢ [] → list_all is_name words ≡ true → is_name (atom_of_words words).predicate ≡ true
first_named [] some names = absurd (some refl)
first_named (w ∷ words) some names = (and_parts (is_name w) (list_all is_name words) names).0

-- the first word of a row of names is a name
first_is_name : (row : List ℕ) → AreNames row → is_name (atom_spelled row).predicate ≡ true
unfolding atom_spelled
first_is_name row names = first_named (spaced.words_of row) (row_has_words row) names

-- a row of names that a walk steps over is an item, where the first of them is found to head an atom
pub row_given : {T : Type 0} (given : T → InitialForm → T) (row : List ℕ) (old new : Levels) (before after : T) (heads : Bool) → PassesRow row old new → AreNames row →
    (is_name (atom_spelled row).predicate ≡ true → heads ≡ heads_atom row) → heads ≡ true → after ≡ given before (initial_atom true (atom_spelled row)) → GivesItem given old new before after
row_given given row old new before after heads passes names is found taken = (
  word_trees (spaced.words_of row),
  initial_atom true (atom_spelled row),
  passes.0,
  λ dialect. row_is_item dialect row (sym (is (first_is_name row names)) ∙ found) names,
  passes.1,
  taken,
)

pub ruleset row_steps = (names_are_plain)

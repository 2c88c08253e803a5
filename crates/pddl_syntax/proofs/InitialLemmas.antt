-- The initial atoms and values, one equation for each case.

use Rattle.std.proofs.Common.{◌≡◌, ℕ, ◌<◌, Bool, true, false, List, [], Option, Some, None, IsSome, unwrap_or, refl, sym, ap, ◌∙◌, arith}
use Rattle.std.specs.Option.{option_map}
use Rattle.pddl_syntax.specs.declared.dialect.Dialect.{Dialect}
use Rattle.pddl_syntax.specs.declared.heads.Context.TheVariants as context
use Rattle.pddl_syntax.specs.declared.heads.ListHead.{ListHead}
use Rattle.pddl_syntax.specs.declared.heads.ListHead.TheVariants as head
use Rattle.pddl_syntax.specs.Heads.{is_term, list_head, scope_at}
use Rattle.pddl_syntax.specs.Initial.{GivesItem, given_all, given_in}
use Rattle.pddl_syntax.specs.Levels.{Levels}
use Rattle.pddl_syntax.specs.Optional.{followed_by}
use Rattle.pddl_syntax.specs.Sizes.{size}
use Rattle.pddl_syntax.specs.Trees.{Trees, none, word, list, begins_with_list}
use Rattle.pddl_syntax.specs.Syntax.{AtomForm, ValueForm, InitialForm, initial_atom, initial_value, atom_of, negated_atom_of, value_of, init_item_in, initial_in, lists_of}
use Rattle.pddl_syntax.proofs.AtomLemmas.{atom_named}

pub item_none : (dialect : Dialect) → init_item_in dialect none ≡ None
unfolding init_item_in
item_none dialect = refl

pub item_list : (dialect : Dialect) (k f : Trees) → init_item_in dialect (list k f) ≡ None
unfolding init_item_in
item_list dialect k f = refl

pub item_atom_some : (dialect : Dialect) (w : List ℕ) (f : Trees) (a : AtomForm) → list_head (scope_at dialect context.Initial) w (begins_with_list f) ≡ head.Atom →
    atom_of (is_term context.Initial) w f ≡ Some a → init_item_in dialect (word w f) ≡ Some (initial_atom true a)
unfolding init_item_in
item_atom_some dialect w f a h e = rw (h, e) refl

pub item_atom_none : (dialect : Dialect) (w : List ℕ) (f : Trees) → list_head (scope_at dialect context.Initial) w (begins_with_list f) ≡ head.Atom →
    atom_of (is_term context.Initial) w f ≡ None → init_item_in dialect (word w f) ≡ None
unfolding init_item_in
item_atom_none dialect w f h e = rw (h, e) refl

pub item_not_some : (dialect : Dialect) (w : List ℕ) (f : Trees) (a : AtomForm) → list_head (scope_at dialect context.Initial) w (begins_with_list f) ≡ head.Not →
    negated_atom_of (scope_at dialect context.Initial) f ≡ Some a → init_item_in dialect (word w f) ≡ Some (initial_atom false a)
unfolding init_item_in
item_not_some dialect w f a h e = rw (h, e) refl

pub item_not_none : (dialect : Dialect) (w : List ℕ) (f : Trees) → list_head (scope_at dialect context.Initial) w (begins_with_list f) ≡ head.Not →
    negated_atom_of (scope_at dialect context.Initial) f ≡ None → init_item_in dialect (word w f) ≡ None
unfolding init_item_in
item_not_none dialect w f h e = rw (h, e) refl

pub item_value_some : (dialect : Dialect) (w : List ℕ) (f : Trees) (v : ValueForm) → list_head (scope_at dialect context.Initial) w (begins_with_list f) ≡ head.Value →
    value_of (is_term context.Initial) f ≡ Some v → init_item_in dialect (word w f) ≡ Some (initial_value v)
unfolding init_item_in
item_value_some dialect w f v h e = rw (h, e) refl

pub item_value_none : (dialect : Dialect) (w : List ℕ) (f : Trees) → list_head (scope_at dialect context.Initial) w (begins_with_list f) ≡ head.Value →
    value_of (is_term context.Initial) f ≡ None → init_item_in dialect (word w f) ≡ None
unfolding init_item_in
item_value_none dialect w f h e = rw (h, e) refl

-- whether a word with this meaning heads an initial atom or a value
abbrev pub is_initial_head : ListHead → Bool
is_initial_head head.And = false
is_initial_head head.Or = false
is_initial_head head.Imply = false
is_initial_head head.Exists = false
is_initial_head head.ForAll = false
is_initial_head head.When = false
is_initial_head head.Equality = false
is_initial_head head.Increase = false
is_initial_head head.Reserved = false
is_initial_head head.Other = false
is_initial_head found = true

pub item_refused : (dialect : Dialect) (w : List ℕ) (f : Trees) (found : ListHead) → list_head (scope_at dialect context.Initial) w (begins_with_list f) ≡ found → is_initial_head found ≡ false → init_item_in dialect (word w f) ≡ None
unfolding init_item_in
item_refused dialect w f head.And h e = rw h refl
item_refused dialect w f head.Or h e = rw h refl
item_refused dialect w f head.Imply h e = rw h refl
item_refused dialect w f head.Exists h e = rw h refl
item_refused dialect w f head.ForAll h e = rw h refl
item_refused dialect w f head.When h e = rw h refl
item_refused dialect w f head.Equality h e = rw h refl
item_refused dialect w f head.Increase h e = rw h refl
item_refused dialect w f head.Reserved h e = rw h refl
item_refused dialect w f head.Other h e = rw h refl
item_refused dialect w f found h e = cc

pub ruleset item_steps = (
  atom_named,
  item_none,
  item_list,
  item_atom_some,
  item_atom_none,
  item_not_some,
  item_not_none,
  item_value_some,
  item_value_none,
  item_refused,
)

module _ {T : Type 0} (given : T → InitialForm → T) (dialect : Dialect) (taker : T) where
  pub given_end : given_in given dialect taker none ≡ Some taker
  unfolding given_in initial_in lists_of
  given_end = refl

  pub given_word : (w : List ℕ) (f : Trees) → given_in given dialect taker (word w f) ≡ None
  unfolding given_in initial_in lists_of
  given_word w f = refl

  first_given : (item : InitialForm) (others : Option (List InitialForm)) → option_map (given_all given taker) (followed_by (Some item) others) ≡ option_map (given_all given (given taker item)) others
  unfolding followed_by
  first_given item None = refl
  first_given item (Some items) = refl

  pub given_some : (k f : Trees) (item : InitialForm) → init_item_in dialect k ≡ Some item → given_in given dialect taker (list k f) ≡ given_in given dialect (given taker item) f
  unfolding given_in initial_in lists_of
  given_some k f item h = ap (λ (i : Option InitialForm). option_map (given_all given taker) (followed_by i (lists_of (init_item_in dialect) f))) h ∙ first_given item (lists_of (init_item_in dialect) f)

  pub given_none : (k f : Trees) → init_item_in dialect k ≡ None → given_in given dialect taker (list k f) ≡ None
  unfolding given_in initial_in lists_of followed_by
  given_none k f h = rw h refl

  -- after an item that is given, the others are left
  pub item_given : (old new : Levels) (after : T) → GivesItem given old new taker after → given_in given dialect taker old.top ≡ given_in given dialect after new.top
  item_given old new after (inside, item, first, is, below, taken) =
      ap (given_in given dialect taker) first ∙ given_some inside new.top item (is dialect) ∙ ap (λ (t : T). given_in given dialect t new.top) (sym taken)

  by_items : (items : Option (List InitialForm)) (after : T) → option_map (given_all given taker) items ≡ Some after → IsSome items
  by_items None after e = let clash : ◌≡◌ {A = Option T} None (Some after) = e in cc
  by_items (Some is) after e = refl

  -- where items were given, there are items
  pub items_there : (f : Trees) (after : T) → given_in given dialect taker f ≡ Some after → IsSome (initial_in dialect f)
  unfolding given_in
  items_there f after e = by_items (initial_in dialect f) after e

  none_by : (items : Option (List InitialForm)) → option_map (given_all given taker) items ≡ None → items ≡ None
  none_by None e = refl
  none_by (Some is) e = let clash : ◌≡◌ {A = Option T} (Some (given_all given taker is)) None = e in cc

  pub no_items : (f : Trees) → given_in given dialect taker f ≡ None → initial_in dialect f ≡ None
  unfolding given_in
  no_items f e = none_by (initial_in dialect f) e

  -- and these are the ones
  pub those_given : (f : Trees) (items : List InitialForm) (after : T) → given_in given dialect taker f ≡ Some after → initial_in dialect f ≡ Some items → after ≡ given_all given taker items
  unfolding given_in
  those_given f items after e is = let same : ◌≡◌ {A = Option T} (Some (given_all given taker items)) (Some after) = sym (ap (option_map (given_all given taker)) is) ∙ e in cc

pub smaller_after : {T : Type 0} (given : T → InitialForm → T) (old new : Levels) (before after : T) → GivesItem given old new before after → size new.top < size old.top
smaller_after given old new before after (inside, item, first, is, below, taken) = omega (arith, ap size first)

pub below_given : {T : Type 0} (given : T → InitialForm → T) (old new : Levels) (before after : T) → GivesItem given old new before after → new.below ≡ old.below
below_given given old new before after (inside, item, first, is, below, taken) = below

pub ruleset items_steps = (given_end, given_word, given_some, given_none, item_given, smaller_after, below_given)

pub starts_so : (dialect : Dialect) (f : Trees) → IsSome (initial_in dialect f) → initial_in dialect f ≡ Some (unwrap_or (initial_in dialect f) [])
starts_so dialect f h = by (initial_in dialect f) h
  where
    by : (items : Option (List InitialForm)) → IsSome items → items ≡ Some (unwrap_or items [])
    by None h = cc
    by (Some is) h = refl

pub ruleset start_steps = (starts_so)

pub ruleset kept_steps = (items_there, no_items, those_given)

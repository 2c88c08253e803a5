-- The variables of quantifiers, one equation for each case.

use Rattle.std.proofs.Common.{◌≡◌, ℕ, ◌++◌, true, false, List, [], ◌∷◌, Option, Some, None, drop, length, take, refl, ap, ◌∙◌}
use Rattle.std.proofs.Math.Seq.{take-append_seam}
use Rattle.std.proofs.lemmas.List.{append-nil}
use Rattle.std.specs.Option.{option_map}
use Rattle.formulas.specs.declared.variables.VariableGroup as kept
use Rattle.pddl_words.specs.Words.{folded, is_name}
use Rattle.pddl_syntax.specs.declared.syntax.VariableGroup as groups
use Rattle.pddl_syntax.specs.declared.walk.Word.{Word}
use Rattle.pddl_syntax.specs.Forms.{name_forms, word_forms, variable_group_form}
use Rattle.pddl_syntax.specs.Optional.{guard, through, with_front}
use Rattle.pddl_syntax.specs.Syntax.{VariableGroup}
use Rattle.pddl_syntax.proofs.ListsOf.{with_front-followed_by, with_item, item_none, item_some, front_none}
use Rattle.pddl_reader.specs.Bindings.{entered, outside}
use Rattle.pddl_reader.specs.Scopes.{Scope, BoundVariables, unmarked, all_unmarked, kept_group, group_kept, bound_with, group_bound, none_bound, bound_by, quantified, scope_within}
use Rattle.pddl_reader.specs.Variables.{TypedVariables, alternatives_of, group_named}
use Rattle.pddl_reader.proofs.Items.{word_item_steps}
use Rattle.pddl_reader.proofs.VariableMeaning.{groups_item, groups_end}

pub name_unmarked : (word : List ℕ) → is_name (drop 1 word) ≡ true → unmarked word ≡ Some (folded (drop 1 word))
unfolding unmarked guard
name_unmarked word h = rw h refl

pub no_name : (word : List ℕ) → is_name (drop 1 word) ≡ false → unmarked word ≡ None
unfolding unmarked guard
no_name word h = rw h refl

pub ruleset unmarked_steps = (name_unmarked, no_name)

pub unmarked_item : (front : List (List ℕ)) (x : Word) (xs : List Word) →
    with_front front (all_unmarked (word_forms (x ∷ xs))) ≡ with_item front (unmarked x.text.now) (all_unmarked (word_forms xs))
unfolding all_unmarked word_forms
unmarked_item front x xs = with_front-followed_by front (unmarked x.text.now) (all_unmarked (word_forms xs))

pub unmarked_end : (front : List (List ℕ)) → with_front front (all_unmarked (word_forms [])) ≡ Some front
unfolding all_unmarked word_forms with_front
unmarked_end front = rw append-nil refl

pub ruleset all_unmarked_steps = (word_item_steps, front_none, unmarked_item, unmarked_end, item_none, item_some)

pub group_unbound : (types : List (List ℕ)) (bound : BoundVariables) (g : groups.VariableGroup) → group_named types bound.declared (variable_group_form g) ≡ None →
    group_bound types bound (variable_group_form g) ≡ None
unfolding group_bound bound_with
group_unbound types bound g h = rw h refl

pub group_unmarked : (types : List (List ℕ)) (bound : BoundVariables) (g : groups.VariableGroup) (declared : TypedVariables) (alternatives : List ℕ) →
    group_named types bound.declared (variable_group_form g) ≡ Some declared → alternatives_of types (name_forms g.kinds.items) ≡ Some alternatives →
    all_unmarked (word_forms g.variables.items) ≡ None → group_bound types bound (variable_group_form g) ≡ None
unfolding group_bound bound_with group_kept
group_unmarked types bound g declared alternatives h e k = rw (h, e, k) refl

pub group_complete : (types : List (List ℕ)) (bound : BoundVariables) (g : groups.VariableGroup) (declared : TypedVariables) (alternatives : List ℕ) (names : List (List ℕ)) →
    group_named types bound.declared (variable_group_form g) ≡ Some declared → alternatives_of types (name_forms g.kinds.items) ≡ Some alternatives →
    all_unmarked (word_forms g.variables.items) ≡ Some names →
    group_bound types bound (variable_group_form g) ≡ Some (record { declared = declared; groups = bound.groups ++ kept_group alternatives names ∷ [] })
unfolding group_bound bound_with group_kept
group_complete types bound g declared alternatives names h e k = rw (h, e, k) refl

pub ruleset group_steps = (group_unbound, group_unmarked, group_complete)

pub bound_start : (types : List (List ℕ)) (groups : List VariableGroup) → bound_by types groups ≡ through (group_bound types) none_bound groups
unfolding bound_by
bound_start types groups = refl

pub none_start : (names : List Word) (types : List (List ℕ)) → names ≡ [] → types ≡ [] → record { declared = record { names = word_forms names; types = types }; groups = [] } ≡ none_bound
unfolding word_forms
none_start names types h e = rw (h, e) refl

pub ruleset bound_steps = (groups_item, groups_end, bound_start, none_start)

pub not_entered : (scope : Scope) (own : Option BoundVariables) → own ≡ None → entered scope own ≡ None
unfolding entered
not_entered scope own h = rw h refl

pub ruleset entered_steps = (not_entered)

-- the scope of a quantifier's body, and the scope around it again
module _ (scope inner : Scope) (own : BoundVariables) (enters : inner ≡ scope_within scope own.declared) where
  pub has_entered : (found : Option BoundVariables) → found ≡ Some own → entered scope found ≡ Some (own.groups, inner)
  unfolding entered
  has_entered found h = rw (h, enters) refl

  first_only : (names more : List (List ℕ)) (depth : ℕ) → depth ≡ length names → take depth (names ++ more) ≡ names
  first_only names more depth is = ap (λ n. take n (names ++ more)) is ∙ take-append_seam names more

  pub left_again : (depth : ℕ) → depth ≡ length scope.bound.names → depth ≡ length scope.bound.types → outside depth inner ≡ scope
  unfolding scope_within
  left_again depth names types =
      ap (outside depth) enters
      ∙ rw (first_only scope.bound.names own.declared.names depth names, first_only scope.bound.types own.declared.types depth types) refl

pub not_quantified : {A : Type 0} (scope : Scope) (own : Option BoundVariables) (body : Scope → Option A) → entered scope own ≡ None → quantified scope own body ≡ None
unfolding entered quantified
not_quantified scope None body h = refl
not_quantified scope (Some own) body h = cc

module _ {A : Type 0} (scope inner : Scope) (own : Option BoundVariables) (groups : List kept.VariableGroup) (body : Scope → Option A) where
  by_body : (found : Option BoundVariables) (meant : Option A) → body inner ≡ meant → entered scope found ≡ Some (groups, inner) →
      quantified scope found body ≡ option_map (λ m. (groups, m)) meant
  unfolding entered quantified
  by_body None meant h e = cc
  by_body (Some o) meant h e =
      let same : ◌≡◌ {A = List kept.VariableGroup × Scope} (o.groups, scope_within scope o.declared) (groups, inner) = cc in
      rw (ap (λ (pair : List kept.VariableGroup × Scope). pair.0) same, ap (λ (pair : List kept.VariableGroup × Scope). pair.1) same, h) refl

  pub body_refused : entered scope own ≡ Some (groups, inner) → body inner ≡ None → quantified scope own body ≡ None
  body_refused e h = by_body own None h e

  pub body_given : (meant : A) → entered scope own ≡ Some (groups, inner) → body inner ≡ Some meant → quantified scope own body ≡ Some (groups, meant)
  body_given meant e h = by_body own (Some meant) h e

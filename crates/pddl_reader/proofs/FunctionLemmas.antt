-- Functions and what speaks of them, one equation for each case.

use Rattle.std.proofs.Common.{◌≡◌, ℕ, ◌<◌, ◌≤◌, ◌++◌, Bool, true, false, nat_lt, is_none, is_some, List, [], ◌∷◌, length, Option, Some, None, refl}
use Rattle.std.proofs.lemmas.Bool.{le-ltb, lt-ltb}
use Rattle.std.specs.Str.{bytes_eq}
use Rattle.pddl_words.specs.Words.{folded}
use Rattle.formulas.specs.declared.terms.Pattern.{Pattern}
use Rattle.formulas.specs.declared.atoms.Atom.{Atom}
use Rattle.strips_task.specs.declared.amounts.Amount.{Amount}
use Rattle.strips_task.specs.declared.amounts.Amount.TheVariants.{Number, Function}
use Rattle.strips_task.specs.declared.amounts.TheConstants.{MOST_INCREASES}
use Rattle.pddl_syntax.specs.declared.syntax.VariableGroup as groups
use Rattle.pddl_syntax.specs.Forms.{variable_groups}
use Rattle.pddl_syntax.specs.Keywords.{total_cost_word}
use Rattle.pddl_syntax.specs.Optional.{guard, through}
use Rattle.pddl_syntax.specs.Syntax.{PredicateForm, AtomForm, AmountForm, number_amount, function_amount}
use Rattle.pddl_reader.specs.Declarations.{Known, Predicates, may_declare, pattern_of}
use Rattle.pddl_reader.specs.Domain.{with_predicate, may_have, with_function, functions_from}
use Rattle.pddl_reader.specs.Functions.{Vocabulary, total_cost_number, counts_costs, amount_meant, amount_behind, with_increase, costs_with, costs_of}
use Rattle.pddl_reader.specs.Scopes.{Scope}
use Rattle.pddl_reader.specs.Variables.{argument_types_of}
use Rattle.pddl_reader.proofs.DeclarationLemmas.{may_declare_new, predicate_refused, predicate_untyped, predicate_declared, predicates_item, predicates_end}

pub has_none : (name : List ℕ) (vs : List groups.VariableGroup) → length vs ≡ 0 → may_have name (variable_groups vs) ≡ true
unfolding may_have variable_groups
has_none name [] h = refl
has_none name (v ∷ vs) h = cc

pub has_other : (name : List ℕ) (vs : List groups.VariableGroup) → bytes_eq name total_cost_word ≡ false → may_have name (variable_groups vs) ≡ true
unfolding may_have variable_groups
has_other name [] h = refl
has_other name (v ∷ vs) h = rw h refl

pub has_too_many : (name : List ℕ) (vs : List groups.VariableGroup) → (vs ≡ [] → ⊥) → bytes_eq name total_cost_word ≡ true →
    may_have name (variable_groups vs) ≡ false
unfolding may_have variable_groups
has_too_many name [] some h = absurd (some refl)
has_too_many name (v ∷ vs) some h = rw h refl

pub ruleset variables_steps = (has_none, has_other, has_too_many)

guarded_none : {A : Type 0} (test : Bool) (value : Option A) → value ≡ None → guard test value ≡ None
unfolding guard
guarded_none true value h = h
guarded_none false value h = refl

pub let_through : {A : Type 0} (test : Bool) (value : Option A) → test ≡ true → guard test value ≡ value
unfolding guard
let_through test value h = rw h refl

pub kept_out : {A : Type 0} (test : Bool) (value : Option A) → test ≡ false → guard test value ≡ None
unfolding guard
kept_out test value h = rw h refl

pub ruleset function_types_steps = (kept_out)

pub function_refused : (types : List (List ℕ)) (table : Predicates) (f : PredicateForm) → may_declare 4096 table (folded f.name) ≡ false → with_function types table f ≡ None
unfolding with_function
function_refused types table f h = guarded_none (may_have (folded f.name) f.variables) (with_predicate types table f) (predicate_refused types table f h)

-- the types of the arguments of a function, if it may have them
module _ (types : List (List ℕ)) (table : Predicates) (f : PredicateForm) where
  pub function_untyped : guard (may_have (folded f.name) f.variables) (argument_types_of types f.variables) ≡ None → with_function types table f ≡ None
  unfolding with_function guard
  function_untyped h = by (may_have (folded f.name) f.variables) h
    where
      by : (test : Bool) → guard test (argument_types_of types f.variables) ≡ None → guard test (with_predicate types table f) ≡ None
      by true e = predicate_untyped types table f e
      by false e = refl

  pub function_declared : (argument_types : List (List ℕ)) → may_declare 4096 table (folded f.name) ≡ true →
      guard (may_have (folded f.name) f.variables) (argument_types_of types f.variables) ≡ Some argument_types →
      with_function types table f ≡ Some (table ++ (folded f.name, argument_types) ∷ [])
  unfolding with_function guard
  function_declared argument_types h e = by (may_have (folded f.name) f.variables) e
    where
      by : (test : Bool) → guard test (argument_types_of types f.variables) ≡ Some argument_types →
          guard test (with_predicate types table f) ≡ Some (table ++ (folded f.name, argument_types) ∷ [])
      by true e = predicate_declared types table f argument_types h e
      by false e = cc

pub ruleset function_steps = (may_declare_new, function_refused, function_untyped)

pub functions_start : (types : List (List ℕ)) (table : Predicates) (fs : List PredicateForm) → functions_from types table fs ≡ through (with_function types) table fs
unfolding functions_from
functions_start types table fs = refl

pub ruleset functions_steps = (predicates_item, predicates_end, functions_start)

pub amount_number : (known : Known) (scope : Scope) (number : ℕ) → amount_meant known scope (number_amount number) ≡ Some (Number number)
unfolding amount_meant
amount_number known scope number = refl

pub amount_unknown : (known : Known) (scope : Scope) (f : AtomForm) → pattern_of known scope f ≡ None → amount_meant known scope (function_amount f) ≡ None
unfolding amount_meant
amount_unknown known scope f h = rw h refl

pub amount_function : (known : Known) (scope : Scope) (f : AtomForm) (pattern : Pattern) → pattern_of known scope f ≡ Some pattern →
    amount_meant known scope (function_amount f) ≡ Some (Function pattern.pred pattern.terms)
unfolding amount_meant
amount_function known scope f pattern h = rw h refl

pub ruleset amount_steps = (amount_number, amount_unknown, amount_function)

pub increase_too_many : (v : Vocabulary) (scope : Scope) (increases : List Amount) (amount : AmountForm) → MOST_INCREASES ≤ length increases →
    with_increase v scope increases amount ≡ None
unfolding with_increase guard
increase_too_many v scope increases amount h = rw (le-ltb (length increases) MOST_INCREASES h) refl

pub increase_uncounted : (v : Vocabulary) (scope : Scope) (increases : List Amount) (amount : AmountForm) → total_cost_number v.functions.predicates ≡ None →
    with_increase v scope increases amount ≡ None
unfolding with_increase counts_costs guard
increase_uncounted v scope increases amount h = by (nat_lt (length increases) MOST_INCREASES) (rw h refl)
  where
    by : (test : Bool) → guard (is_some (total_cost_number v.functions.predicates)) (amount_behind increases (amount_meant v.functions scope amount)) ≡ None →
        guard test (guard (is_some (total_cost_number v.functions.predicates)) (amount_behind increases (amount_meant v.functions scope amount))) ≡ None
    by true e = e
    by false e = refl

pub increase_unmeant : (v : Vocabulary) (scope : Scope) (increases : List Amount) (amount : AmountForm) → amount_meant v.functions scope amount ≡ None →
    with_increase v scope increases amount ≡ None
unfolding with_increase amount_behind
increase_unmeant v scope increases amount h =
    guarded_none (nat_lt (length increases) MOST_INCREASES) _ (guarded_none (counts_costs v.functions.predicates) _ (rw h refl))

pub increase_put : (v : Vocabulary) (scope : Scope) (increases : List Amount) (amount : AmountForm) (meant : Amount) → length increases < MOST_INCREASES →
    is_none (total_cost_number v.functions.predicates) ≡ false → amount_meant v.functions scope amount ≡ Some meant →
    with_increase v scope increases amount ≡ Some (increases ++ meant ∷ [])
unfolding with_increase counts_costs amount_behind guard
increase_put v scope increases amount meant few counted h =
    rw (lt-ltb (length increases) MOST_INCREASES few, h, there (total_cost_number v.functions.predicates) counted) refl
  where
    there : (found : Option ℕ) → is_none found ≡ false → is_some found ≡ true
    there None e = cc
    there (Some n) e = refl

pub ruleset increase_steps = (increase_too_many, increase_uncounted, increase_unmeant, increase_put)

pub no_costs : (functions : Predicates) (increases : List (List Amount)) (values : List (Atom × ℕ)) → total_cost_number functions ≡ None →
    costs_of functions increases values ≡ None
unfolding costs_of
no_costs functions increases values h = rw h refl

pub some_costs : (functions : Predicates) (increases : List (List Amount)) (values : List (Atom × ℕ)) (number : ℕ) → total_cost_number functions ≡ Some number →
    costs_of functions increases values ≡ Some (costs_with increases values number)
unfolding costs_of
some_costs functions increases values number h = rw h refl

pub ruleset costs_steps = (no_costs, some_costs)

-- Formulas, one equation for each case.

use Rattle.std.proofs.Common.{◌≡◌, ℕ, ◌++◌, Bool, true, false, List, [], ◌∷◌, Option, Some, None, refl}
use Rattle.std.proofs.lemmas.List.{append-nil}
use Rattle.std.specs.Option.{option_map}
use Rattle.pddl_syntax.specs.declared.heads.Scope.{Scope}
use Rattle.pddl_syntax.specs.declared.heads.Context.TheVariants as context
use Rattle.pddl_syntax.specs.declared.heads.ListHead.{ListHead}
use Rattle.pddl_syntax.specs.declared.heads.ListHead.TheVariants as head
use Rattle.pddl_syntax.specs.Heads.{has_connectives, is_literal_head, is_term, list_head, scope_at}
use Rattle.pddl_syntax.specs.Optional.{both, guard, followed_by, with_front}
use Rattle.pddl_syntax.specs.Trees.{Trees, none, word, list, begins_with_list}
use Rattle.pddl_syntax.specs.Syntax.{AtomForm, EqualityForm, VariableGroup, FormulaForm, atom_formula, equality_formula, negation, conjunction, disjunction, implication, exists, for_all, no_formulas, formulas_of, ended, end_of, first_list, typed_variables, atom_of, equality_of, opposite, begins_literal, may_be_negated, formula_in, formulas_in, lone_formula, negated_in, negatable_in, implied_in, bound_in, headed_formula}
use Rattle.pddl_syntax.proofs.AtomLemmas.{atom_named}
use Rattle.pddl_syntax.proofs.ListsOf.{front_none, item_none, item_some, with_front-followed_by, with_item}

pub formula_end : (scope : Scope) → formula_in scope none ≡ Some (conjunction no_formulas)
unfolding formula_in
formula_end scope = refl

pub formula_list : (scope : Scope) (k f : Trees) → formula_in scope (list k f) ≡ None
unfolding formula_in
formula_list scope k f = refl

pub formula_headed : (scope : Scope) (w : List ℕ) (f : Trees) → formula_in scope (word w f) ≡ headed_formula scope w f
unfolding headed_formula
formula_headed scope w f = refl

pub ruleset formula_steps = (formula_end, formula_list, formula_headed)

pub headed_atom_some : (scope : Scope) (w : List ℕ) (f : Trees) (a : AtomForm) → list_head scope w (begins_with_list f) ≡ head.Atom →
    atom_of (is_term scope.context) w f ≡ Some a → headed_formula scope w f ≡ Some (atom_formula true a)
unfolding headed_formula formula_in
headed_atom_some scope w f a h e = rw (h, e) refl

pub headed_atom_none : (scope : Scope) (w : List ℕ) (f : Trees) → list_head scope w (begins_with_list f) ≡ head.Atom → atom_of (is_term scope.context) w f ≡ None → headed_formula scope w f ≡ None
unfolding headed_formula formula_in
headed_atom_none scope w f h e = rw (h, e) refl

pub headed_equality_some : (scope : Scope) (w : List ℕ) (f : Trees) (q : EqualityForm) → list_head scope w (begins_with_list f) ≡ head.Equality →
    equality_of (is_term scope.context) f ≡ Some q → headed_formula scope w f ≡ Some (equality_formula true q)
unfolding headed_formula formula_in
headed_equality_some scope w f q h e = rw (h, e) refl

pub headed_equality_none : (scope : Scope) (w : List ℕ) (f : Trees) → list_head scope w (begins_with_list f) ≡ head.Equality → equality_of (is_term scope.context) f ≡ None → headed_formula scope w f ≡ None
unfolding headed_formula formula_in
headed_equality_none scope w f h e = rw (h, e) refl

pub headed_not_some : (scope : Scope) (w : List ℕ) (f : Trees) (g : FormulaForm) → list_head scope w (begins_with_list f) ≡ head.Not →
    negated_in scope f ≡ Some g → headed_formula scope w f ≡ Some (opposite g)
unfolding headed_formula formula_in
headed_not_some scope w f g h e = rw (h, e) refl

pub headed_not_none : (scope : Scope) (w : List ℕ) (f : Trees) → list_head scope w (begins_with_list f) ≡ head.Not → negated_in scope f ≡ None → headed_formula scope w f ≡ None
unfolding headed_formula formula_in
headed_not_none scope w f h e = rw (h, e) refl

pub headed_and_some : (scope : Scope) (w : List ℕ) (f : Trees) (gs : List FormulaForm) → list_head scope w (begins_with_list f) ≡ head.And →
    formulas_in scope f ≡ Some gs → headed_formula scope w f ≡ Some (conjunction (formulas_of gs))
unfolding headed_formula formula_in
headed_and_some scope w f gs h e = rw (h, e) refl

pub headed_and_none : (scope : Scope) (w : List ℕ) (f : Trees) → list_head scope w (begins_with_list f) ≡ head.And → formulas_in scope f ≡ None → headed_formula scope w f ≡ None
unfolding headed_formula formula_in
headed_and_none scope w f h e = rw (h, e) refl

pub headed_or_some : (scope : Scope) (w : List ℕ) (f : Trees) (gs : List FormulaForm) → list_head scope w (begins_with_list f) ≡ head.Or →
    formulas_in scope f ≡ Some gs → headed_formula scope w f ≡ Some (disjunction (formulas_of gs))
unfolding headed_formula formula_in
headed_or_some scope w f gs h e = rw (h, e) refl

pub headed_or_none : (scope : Scope) (w : List ℕ) (f : Trees) → list_head scope w (begins_with_list f) ≡ head.Or → formulas_in scope f ≡ None → headed_formula scope w f ≡ None
unfolding headed_formula formula_in
headed_or_none scope w f h e = rw (h, e) refl

pub headed_imply_some : (scope : Scope) (w : List ℕ) (f : Trees) (p : FormulaForm × FormulaForm) → list_head scope w (begins_with_list f) ≡ head.Imply →
    implied_in scope f ≡ Some p → headed_formula scope w f ≡ Some (implication p.0 p.1)
unfolding headed_formula formula_in
headed_imply_some scope w f p h e = rw (h, e) refl

pub headed_imply_none : (scope : Scope) (w : List ℕ) (f : Trees) → list_head scope w (begins_with_list f) ≡ head.Imply → implied_in scope f ≡ None → headed_formula scope w f ≡ None
unfolding headed_formula formula_in
headed_imply_none scope w f h e = rw (h, e) refl

pub headed_exists_some : (scope : Scope) (w : List ℕ) (f : Trees) (b : List VariableGroup × FormulaForm) → list_head scope w (begins_with_list f) ≡ head.Exists →
    bound_in scope f ≡ Some b → headed_formula scope w f ≡ Some (exists b.0 b.1)
unfolding headed_formula formula_in
headed_exists_some scope w f b h e = rw (h, e) refl

pub headed_exists_none : (scope : Scope) (w : List ℕ) (f : Trees) → list_head scope w (begins_with_list f) ≡ head.Exists → bound_in scope f ≡ None → headed_formula scope w f ≡ None
unfolding headed_formula formula_in
headed_exists_none scope w f h e = rw (h, e) refl

pub headed_forall_some : (scope : Scope) (w : List ℕ) (f : Trees) (b : List VariableGroup × FormulaForm) → list_head scope w (begins_with_list f) ≡ head.ForAll →
    bound_in scope f ≡ Some b → headed_formula scope w f ≡ Some (for_all b.0 b.1)
unfolding headed_formula formula_in
headed_forall_some scope w f b h e = rw (h, e) refl

pub headed_forall_none : (scope : Scope) (w : List ℕ) (f : Trees) → list_head scope w (begins_with_list f) ≡ head.ForAll → bound_in scope f ≡ None → headed_formula scope w f ≡ None
unfolding headed_formula formula_in
headed_forall_none scope w f h e = rw (h, e) refl

-- whether a word with this meaning heads a formula
abbrev pub is_formula_head : ListHead → Bool
is_formula_head head.When = false
is_formula_head head.Value = false
is_formula_head head.Increase = false
is_formula_head head.Reserved = false
is_formula_head head.Other = false
is_formula_head found = true

pub headed_refused : (scope : Scope) (w : List ℕ) (f : Trees) (found : ListHead) → list_head scope w (begins_with_list f) ≡ found → is_formula_head found ≡ false → headed_formula scope w f ≡ None
unfolding headed_formula formula_in
headed_refused scope w f head.When h e = rw h refl
headed_refused scope w f head.Value h e = rw h refl
headed_refused scope w f head.Increase h e = rw h refl
headed_refused scope w f head.Reserved h e = rw h refl
headed_refused scope w f head.Other h e = rw h refl
headed_refused scope w f found h e = cc

pub ruleset headed_steps = (
  atom_named,
  headed_atom_some,
  headed_atom_none,
  headed_equality_some,
  headed_equality_none,
  headed_not_some,
  headed_not_none,
  headed_and_some,
  headed_and_none,
  headed_or_some,
  headed_or_none,
  headed_imply_some,
  headed_imply_none,
  headed_exists_some,
  headed_exists_none,
  headed_forall_some,
  headed_forall_none,
  headed_refused,
)

pub formulas_end : (front : List FormulaForm) (scope : Scope) → with_front front (formulas_in scope none) ≡ Some front
unfolding formulas_in with_front
formulas_end front scope = rw append-nil refl

pub formulas_word : (front : List FormulaForm) (scope : Scope) (w : List ℕ) (f : Trees) → with_front front (formulas_in scope (word w f)) ≡ None
unfolding formulas_in with_front
formulas_word front scope w f = refl

pub formulas_list : (front : List FormulaForm) (scope : Scope) (k f : Trees) →
    with_front front (formulas_in scope (list k f)) ≡ with_item front (formula_in scope k) (formulas_in scope f)
unfolding formulas_in
formulas_list front scope k f = with_front-followed_by front (formula_in scope k) (formulas_in scope f)

pub ruleset formulas_steps = (front_none, formulas_end, formulas_word, formulas_list, item_none, item_some)

pub lone_no_list : (scope : Scope) (f : Trees) → first_list f ≡ None → lone_formula scope f ≡ None
unfolding first_list lone_formula
lone_no_list scope none h = refl
lone_no_list scope (word w f) h = refl
lone_no_list scope (list k f) h = cc

pub lone_refused : (scope : Scope) (k f : Trees) → formula_in scope k ≡ None → lone_formula scope (list k f) ≡ None
unfolding lone_formula ended
lone_refused scope k none h = h
lone_refused scope k (word w f) h = refl
lone_refused scope k (list j f) h = refl

pub lone_more : (scope : Scope) (k f : Trees) → end_of f ≡ None → lone_formula scope (list k f) ≡ None
unfolding lone_formula end_of ended
lone_more scope k none h = cc
lone_more scope k (word w f) h = refl
lone_more scope k (list j f) h = refl

pub lone_alone : (scope : Scope) (k f : Trees) → end_of f ≡ Some tt → lone_formula scope (list k f) ≡ formula_in scope k
unfolding lone_formula end_of ended
lone_alone scope k none e = refl
lone_alone scope k (word w f) e = cc
lone_alone scope k (list j f) e = cc

pub ruleset lone_steps = (lone_no_list, lone_refused, lone_more, lone_alone)

pub negated_no_list : (scope : Scope) (f : Trees) → first_list f ≡ None → negated_in scope f ≡ None
unfolding first_list negated_in
negated_no_list scope none h = refl
negated_no_list scope (word w f) h = refl
negated_no_list scope (list k f) h = cc

pub negated_refused : (scope : Scope) (k f : Trees) → negatable_in scope k ≡ None → negated_in scope (list k f) ≡ None
unfolding negated_in ended negatable_in
negated_refused scope k none h = h
negated_refused scope k (word w f) h = refl
negated_refused scope k (list j f) h = refl

pub negated_more : (scope : Scope) (k f : Trees) → end_of f ≡ None → negated_in scope (list k f) ≡ None
unfolding negated_in end_of ended
negated_more scope k none h = cc
negated_more scope k (word w f) h = refl
negated_more scope k (list j f) h = refl

pub negated_alone : (scope : Scope) (k f : Trees) → end_of f ≡ Some tt → negated_in scope (list k f) ≡ negatable_in scope k
unfolding negated_in end_of ended negatable_in
negated_alone scope k none e = refl
negated_alone scope k (word w f) e = cc
negated_alone scope k (list j f) e = cc

pub ruleset negated_steps = (negated_no_list, negated_refused, negated_more, negated_alone)

pub negatable_any : (scope : Scope) (f : Trees) → has_connectives scope.dialect ≡ true → negatable_in scope f ≡ formula_in scope f
unfolding negatable_in may_be_negated guard
negatable_any scope f h = rw h refl

pub negatable_none : (scope : Scope) → has_connectives scope.dialect ≡ false → negatable_in scope none ≡ None
unfolding negatable_in may_be_negated begins_literal guard
negatable_none scope h = rw h refl

guarded_none : {A : Type 0} (test : Bool) → guard {A = A} test None ≡ None
unfolding guard
guarded_none true = refl
guarded_none false = refl

pub negatable_list : (scope : Scope) (k f : Trees) → negatable_in scope (list k f) ≡ None
unfolding negatable_in formula_in
negatable_list scope k f = guarded_none {A = FormulaForm} (may_be_negated scope (list k f))

pub negatable_atom_some : (scope : Scope) (w : List ℕ) (f : Trees) (a : AtomForm) → has_connectives scope.dialect ≡ false → list_head scope w (begins_with_list f) ≡ head.Atom →
    atom_of (is_term scope.context) w f ≡ Some a → negatable_in scope (word w f) ≡ Some (atom_formula true a)
unfolding negatable_in may_be_negated begins_literal guard formula_in
negatable_atom_some scope w f a n h e = rw (n, h, e) refl

pub negatable_atom_none : (scope : Scope) (w : List ℕ) (f : Trees) → has_connectives scope.dialect ≡ false → list_head scope w (begins_with_list f) ≡ head.Atom →
    atom_of (is_term scope.context) w f ≡ None → negatable_in scope (word w f) ≡ None
unfolding negatable_in may_be_negated begins_literal guard formula_in
negatable_atom_none scope w f n h e = rw (n, h, e) refl

pub negatable_equality_some : (scope : Scope) (w : List ℕ) (f : Trees) (q : EqualityForm) → has_connectives scope.dialect ≡ false → list_head scope w (begins_with_list f) ≡ head.Equality →
    equality_of (is_term scope.context) f ≡ Some q → negatable_in scope (word w f) ≡ Some (equality_formula true q)
unfolding negatable_in may_be_negated begins_literal guard formula_in
negatable_equality_some scope w f q n h e = rw (n, h, e) refl

pub negatable_equality_none : (scope : Scope) (w : List ℕ) (f : Trees) → has_connectives scope.dialect ≡ false → list_head scope w (begins_with_list f) ≡ head.Equality →
    equality_of (is_term scope.context) f ≡ None → negatable_in scope (word w f) ≡ None
unfolding negatable_in may_be_negated begins_literal guard formula_in
negatable_equality_none scope w f n h e = rw (n, h, e) refl

-- no other word is before a literal
pub negatable_other : (scope : Scope) (w : List ℕ) (f : Trees) (found : ListHead) → has_connectives scope.dialect ≡ false → list_head scope w (begins_with_list f) ≡ found →
    is_literal_head found ≡ false → negatable_in scope (word w f) ≡ None
unfolding negatable_in may_be_negated begins_literal guard
negatable_other scope w f found n h e = rw (n, h, e) refl

pub ruleset negatable_steps = (
  atom_named,
  negatable_any,
  negatable_none,
  negatable_list,
  negatable_atom_some,
  negatable_atom_none,
  negatable_equality_some,
  negatable_equality_none,
  negatable_other,
)

-- two values are not both there without the second
pub no_second : {A B : Type 0} (first : Option A) (second : Option B) → second ≡ None → both first second ≡ None
unfolding both
no_second None second h = refl
no_second (Some x) second h = rw h refl

pub implied_no_list : (scope : Scope) (f : Trees) → first_list f ≡ None → implied_in scope f ≡ None
unfolding first_list implied_in
implied_no_list scope none h = refl
implied_no_list scope (word w f) h = refl
implied_no_list scope (list k f) h = cc

pub implied_no_first : (scope : Scope) (k f : Trees) → formula_in scope k ≡ None → implied_in scope (list k f) ≡ None
unfolding implied_in both
implied_no_first scope k f h = rw h refl

pub implied_no_second : (scope : Scope) (k f : Trees) → lone_formula scope f ≡ None → implied_in scope (list k f) ≡ None
unfolding implied_in
implied_no_second scope k f h = no_second (formula_in scope k) (lone_formula scope f) h

pub implied_read : (scope : Scope) (k f : Trees) (x : FormulaForm) (y : FormulaForm) → formula_in scope k ≡ Some x → lone_formula scope f ≡ Some y →
    implied_in scope (list k f) ≡ Some (x, y)
unfolding implied_in both
implied_read scope k f x y h e = rw (h, e) refl

pub ruleset implied_steps = (implied_no_list, implied_no_first, implied_no_second, implied_read)

pub bound_no_list : (scope : Scope) (f : Trees) → first_list f ≡ None → bound_in scope f ≡ None
unfolding first_list bound_in
bound_no_list scope none h = refl
bound_no_list scope (word w f) h = refl
bound_no_list scope (list k f) h = cc

pub bound_no_first : (scope : Scope) (k f : Trees) → typed_variables [] k ≡ None → bound_in scope (list k f) ≡ None
unfolding bound_in both
bound_no_first scope k f h = rw h refl

pub bound_no_second : (scope : Scope) (k f : Trees) → lone_formula (scope_at scope.dialect context.Condition) f ≡ None → bound_in scope (list k f) ≡ None
unfolding bound_in
bound_no_second scope k f h = no_second (typed_variables [] k) (lone_formula (scope_at scope.dialect context.Condition) f) h

pub bound_read : (scope : Scope) (k f : Trees) (x : List VariableGroup) (y : FormulaForm) → typed_variables [] k ≡ Some x → lone_formula (scope_at scope.dialect context.Condition) f ≡ Some y →
    bound_in scope (list k f) ≡ Some (x, y)
unfolding bound_in both
bound_read scope k f x y h e = rw (h, e) refl

pub ruleset bound_steps = (bound_no_list, bound_no_first, bound_no_second, bound_read)

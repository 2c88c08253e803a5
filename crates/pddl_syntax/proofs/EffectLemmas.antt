-- Effects, one equation for each case.

use Rattle.std.proofs.Common.{◌≡◌, ℕ, ◌++◌, Bool, true, false, List, [], ◌∷◌, Option, Some, None, refl}
use Rattle.std.proofs.lemmas.List.{append-nil}
use Rattle.std.specs.Option.{option_map}
use Rattle.pddl_syntax.specs.declared.heads.Scope.{Scope}
use Rattle.pddl_syntax.specs.declared.heads.Context.TheVariants as context
use Rattle.pddl_syntax.specs.declared.heads.ListHead.{ListHead}
use Rattle.pddl_syntax.specs.declared.heads.ListHead.TheVariants as head
use Rattle.pddl_syntax.specs.Heads.{is_term, list_head, scope_at}
use Rattle.pddl_syntax.specs.Optional.{both, followed_by, with_front}
use Rattle.pddl_syntax.specs.Trees.{Trees, none, word, list, begins_with_list}
use Rattle.pddl_syntax.specs.Syntax.{AtomForm, AmountForm, VariableGroup, FormulaForm, EffectForm, atom_effect, increase_effect, joint_effect, conditional_effect, universal_effect, no_effects, effects_of, ended, end_of, first_list, typed_variables, atom_of, increase_of, negated_atom_of, formula_in, effect_in, effects_in, lone_effect, conditional_in, bound_effect_in, headed_effect}
use Rattle.pddl_syntax.proofs.AtomLemmas.{atom_named}
use Rattle.pddl_syntax.proofs.FormulaLemmas.{no_second}
use Rattle.pddl_syntax.proofs.ListsOf.{front_none, item_none, item_some, with_front-followed_by, with_item}

pub effect_end : (scope : Scope) → effect_in scope none ≡ Some (joint_effect no_effects)
unfolding effect_in
effect_end scope = refl

pub effect_list : (scope : Scope) (k f : Trees) → effect_in scope (list k f) ≡ None
unfolding effect_in
effect_list scope k f = refl

pub effect_headed : (scope : Scope) (w : List ℕ) (f : Trees) → effect_in scope (word w f) ≡ headed_effect scope w f
unfolding headed_effect
effect_headed scope w f = refl

pub ruleset effect_steps = (effect_end, effect_list, effect_headed)

pub headed_atom_some : (scope : Scope) (w : List ℕ) (f : Trees) (a : AtomForm) → list_head scope w (begins_with_list f) ≡ head.Atom →
    atom_of (is_term scope.context) w f ≡ Some a → headed_effect scope w f ≡ Some (atom_effect true a)
unfolding headed_effect effect_in
headed_atom_some scope w f a h e = rw (h, e) refl

pub headed_atom_none : (scope : Scope) (w : List ℕ) (f : Trees) → list_head scope w (begins_with_list f) ≡ head.Atom → atom_of (is_term scope.context) w f ≡ None → headed_effect scope w f ≡ None
unfolding headed_effect effect_in
headed_atom_none scope w f h e = rw (h, e) refl

pub headed_not_some : (scope : Scope) (w : List ℕ) (f : Trees) (a : AtomForm) → list_head scope w (begins_with_list f) ≡ head.Not →
    negated_atom_of scope f ≡ Some a → headed_effect scope w f ≡ Some (atom_effect false a)
unfolding headed_effect effect_in
headed_not_some scope w f a h e = rw (h, e) refl

pub headed_not_none : (scope : Scope) (w : List ℕ) (f : Trees) → list_head scope w (begins_with_list f) ≡ head.Not → negated_atom_of scope f ≡ None → headed_effect scope w f ≡ None
unfolding headed_effect effect_in
headed_not_none scope w f h e = rw (h, e) refl

pub headed_increase_some : (scope : Scope) (w : List ℕ) (f : Trees) (by : AmountForm) → list_head scope w (begins_with_list f) ≡ head.Increase →
    increase_of (is_term scope.context) f ≡ Some by → headed_effect scope w f ≡ Some (increase_effect by)
unfolding headed_effect effect_in
headed_increase_some scope w f by h e = rw (h, e) refl

pub headed_increase_none : (scope : Scope) (w : List ℕ) (f : Trees) → list_head scope w (begins_with_list f) ≡ head.Increase → increase_of (is_term scope.context) f ≡ None → headed_effect scope w f ≡ None
unfolding headed_effect effect_in
headed_increase_none scope w f h e = rw (h, e) refl

pub headed_and_some : (scope : Scope) (w : List ℕ) (f : Trees) (es : List EffectForm) → list_head scope w (begins_with_list f) ≡ head.And →
    effects_in scope f ≡ Some es → headed_effect scope w f ≡ Some (joint_effect (effects_of es))
unfolding headed_effect effect_in
headed_and_some scope w f es h e = rw (h, e) refl

pub headed_and_none : (scope : Scope) (w : List ℕ) (f : Trees) → list_head scope w (begins_with_list f) ≡ head.And → effects_in scope f ≡ None → headed_effect scope w f ≡ None
unfolding headed_effect effect_in
headed_and_none scope w f h e = rw (h, e) refl

pub headed_when_some : (scope : Scope) (w : List ℕ) (f : Trees) (p : FormulaForm × EffectForm) → list_head scope w (begins_with_list f) ≡ head.When →
    conditional_in scope f ≡ Some p → headed_effect scope w f ≡ Some (conditional_effect p.0 p.1)
unfolding headed_effect effect_in
headed_when_some scope w f p h e = rw (h, e) refl

pub headed_when_none : (scope : Scope) (w : List ℕ) (f : Trees) → list_head scope w (begins_with_list f) ≡ head.When → conditional_in scope f ≡ None → headed_effect scope w f ≡ None
unfolding headed_effect effect_in
headed_when_none scope w f h e = rw (h, e) refl

pub headed_forall_some : (scope : Scope) (w : List ℕ) (f : Trees) (b : List VariableGroup × EffectForm) → list_head scope w (begins_with_list f) ≡ head.ForAll →
    bound_effect_in scope f ≡ Some b → headed_effect scope w f ≡ Some (universal_effect b.0 b.1)
unfolding headed_effect effect_in
headed_forall_some scope w f b h e = rw (h, e) refl

pub headed_forall_none : (scope : Scope) (w : List ℕ) (f : Trees) → list_head scope w (begins_with_list f) ≡ head.ForAll → bound_effect_in scope f ≡ None → headed_effect scope w f ≡ None
unfolding headed_effect effect_in
headed_forall_none scope w f h e = rw (h, e) refl

-- whether a word with this meaning heads an effect
abbrev pub is_effect_head : ListHead → Bool
is_effect_head head.Or = false
is_effect_head head.Imply = false
is_effect_head head.Exists = false
is_effect_head head.Equality = false
is_effect_head head.Value = false
is_effect_head head.Reserved = false
is_effect_head head.Other = false
is_effect_head found = true

pub headed_refused : (scope : Scope) (w : List ℕ) (f : Trees) (found : ListHead) → list_head scope w (begins_with_list f) ≡ found → is_effect_head found ≡ false → headed_effect scope w f ≡ None
unfolding headed_effect effect_in
headed_refused scope w f head.Or h e = rw h refl
headed_refused scope w f head.Imply h e = rw h refl
headed_refused scope w f head.Exists h e = rw h refl
headed_refused scope w f head.Equality h e = rw h refl
headed_refused scope w f head.Value h e = rw h refl
headed_refused scope w f head.Reserved h e = rw h refl
headed_refused scope w f head.Other h e = rw h refl
headed_refused scope w f found h e = cc

pub ruleset headed_steps = (
  atom_named,
  headed_atom_some,
  headed_atom_none,
  headed_not_some,
  headed_not_none,
  headed_increase_some,
  headed_increase_none,
  headed_and_some,
  headed_and_none,
  headed_when_some,
  headed_when_none,
  headed_forall_some,
  headed_forall_none,
  headed_refused,
)

pub effects_end : (front : List EffectForm) (scope : Scope) → with_front front (effects_in scope none) ≡ Some front
unfolding effects_in with_front
effects_end front scope = rw append-nil refl

pub effects_word : (front : List EffectForm) (scope : Scope) (w : List ℕ) (f : Trees) → with_front front (effects_in scope (word w f)) ≡ None
unfolding effects_in with_front
effects_word front scope w f = refl

pub effects_list : (front : List EffectForm) (scope : Scope) (k f : Trees) →
    with_front front (effects_in scope (list k f)) ≡ with_item front (effect_in scope k) (effects_in scope f)
unfolding effects_in
effects_list front scope k f = with_front-followed_by front (effect_in scope k) (effects_in scope f)

pub ruleset effects_steps = (front_none, effects_end, effects_word, effects_list, item_none, item_some)

pub lone_no_list : (scope : Scope) (f : Trees) → first_list f ≡ None → lone_effect scope f ≡ None
unfolding first_list lone_effect
lone_no_list scope none h = refl
lone_no_list scope (word w f) h = refl
lone_no_list scope (list k f) h = cc

pub lone_refused : (scope : Scope) (k f : Trees) → effect_in scope k ≡ None → lone_effect scope (list k f) ≡ None
unfolding lone_effect ended
lone_refused scope k none h = h
lone_refused scope k (word w f) h = refl
lone_refused scope k (list j f) h = refl

pub lone_more : (scope : Scope) (k f : Trees) → end_of f ≡ None → lone_effect scope (list k f) ≡ None
unfolding lone_effect end_of ended
lone_more scope k none h = cc
lone_more scope k (word w f) h = refl
lone_more scope k (list j f) h = refl

pub lone_alone : (scope : Scope) (k f : Trees) → end_of f ≡ Some tt → lone_effect scope (list k f) ≡ effect_in scope k
unfolding lone_effect end_of ended
lone_alone scope k none e = refl
lone_alone scope k (word w f) e = cc
lone_alone scope k (list j f) e = cc

pub ruleset lone_steps = (lone_no_list, lone_refused, lone_more, lone_alone)

pub conditional_no_list : (scope : Scope) (f : Trees) → first_list f ≡ None → conditional_in scope f ≡ None
unfolding first_list conditional_in
conditional_no_list scope none h = refl
conditional_no_list scope (word w f) h = refl
conditional_no_list scope (list k f) h = cc

pub conditional_no_first : (scope : Scope) (k f : Trees) → formula_in (scope_at scope.dialect context.Condition) k ≡ None → conditional_in scope (list k f) ≡ None
unfolding conditional_in both
conditional_no_first scope k f h = rw h refl

pub conditional_no_second : (scope : Scope) (k f : Trees) → lone_effect (scope_at scope.dialect context.InnerEffect) f ≡ None → conditional_in scope (list k f) ≡ None
unfolding conditional_in
conditional_no_second scope k f h = no_second (formula_in (scope_at scope.dialect context.Condition) k) (lone_effect (scope_at scope.dialect context.InnerEffect) f) h

pub conditional_read : (scope : Scope) (k f : Trees) (x : FormulaForm) (y : EffectForm) → formula_in (scope_at scope.dialect context.Condition) k ≡ Some x → lone_effect (scope_at scope.dialect context.InnerEffect) f ≡ Some y →
    conditional_in scope (list k f) ≡ Some (x, y)
unfolding conditional_in both
conditional_read scope k f x y h e = rw (h, e) refl

pub ruleset conditional_steps = (conditional_no_list, conditional_no_first, conditional_no_second, conditional_read)

pub bound_no_list : (scope : Scope) (f : Trees) → first_list f ≡ None → bound_effect_in scope f ≡ None
unfolding first_list bound_effect_in
bound_no_list scope none h = refl
bound_no_list scope (word w f) h = refl
bound_no_list scope (list k f) h = cc

pub bound_no_first : (scope : Scope) (k f : Trees) → typed_variables [] k ≡ None → bound_effect_in scope (list k f) ≡ None
unfolding bound_effect_in both
bound_no_first scope k f h = rw h refl

pub bound_no_second : (scope : Scope) (k f : Trees) → lone_effect (scope_at scope.dialect context.InnerEffect) f ≡ None → bound_effect_in scope (list k f) ≡ None
unfolding bound_effect_in
bound_no_second scope k f h = no_second (typed_variables [] k) (lone_effect (scope_at scope.dialect context.InnerEffect) f) h

pub bound_read : (scope : Scope) (k f : Trees) (x : List VariableGroup) (y : EffectForm) → typed_variables [] k ≡ Some x → lone_effect (scope_at scope.dialect context.InnerEffect) f ≡ Some y →
    bound_effect_in scope (list k f) ≡ Some (x, y)
unfolding bound_effect_in both
bound_read scope k f x y h e = rw (h, e) refl

pub ruleset bound_steps = (bound_no_list, bound_no_first, bound_no_second, bound_read)

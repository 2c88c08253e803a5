-- Atoms of static predicates stay as they are at the start, whatever steps are taken.

use Rattle.std.proofs.Common.{◌≡◌, ℕ, nat_eq, zero, suc, ◌+◌, Bool, true, false, not, cond, ◌&&◌, ◌||◌, List, [], ◌∷◌, ◌++◌, IsTrue, Option, Some, None, map, take, slice_get, refl, sym, ap, ◌∙◌, subst, arith}
use Rattle.std.specs.Prelude.{option_and_then}
use Rattle.std.proofs.lemmas.List.Folds.{list_any-append}
use Rattle.std.specs.Bool.{beq}
use Rattle.std.specs.Cmp.Lexicographic.{pointwise}
use Rattle.std.specs.List.{list_all, flat_map}
use Rattle.std.specs.Map.{values_of}
use Rattle.formulas.specs.Atom.{atom_eq}
use Rattle.formulas.specs.declared.atoms.Atom.{Atom}
use Rattle.formulas.specs.declared.terms.Pattern.{Pattern}
use Rattle.formulas.specs.Changes.{changes, all_changes}
use Rattle.formulas.specs.EffectTree.{EffectTree, change, joint, conditional, universal, EffectParts, no_effects, effect_part, effect_parts_of}
use Rattle.formulas.specs.Meaning.{atom_of, holds}
use Rattle.formulas.specs.Variables.{variable_types, extensions}
use Rattle.strips_task.specs.declared.actions.Action.{Action}
use Rattle.strips_task.specs.declared.steps.StepText.{StepText}
use Rattle.strips_task.specs.declared.tasks.TaskParts.{TaskParts}
use Rattle.strips_task.specs.Names.{number_named}
use Rattle.strips_judge.specs.Grounding.{ground}
use Rattle.strips_judge.specs.State.{State, is_in, objects_of}
use Rattle.strips_judge.specs.Statics.{KeepsStatics, action_spares, all_spare, is_of_another, is_static, spares}
use Rattle.strips_judge.specs.Step.{adds_by, after, after_by, changed_by, deletes_by, objects_named}
use Rattle.strips_judge.specs.Validity.{LeadTo}
use Rattle.strips_judge.proofs.Runs.{lead_none_same, lead_first}

-- the two halves of `and`
pub both_true : (a b : Bool) → IsTrue (a && b) → IsTrue a × IsTrue b
both_true true b h = (refl, h)
both_true false b h = cc

pub and_true : (a b : Bool) → IsTrue a → IsTrue b → IsTrue (a && b)
and_true true b h k = k
and_true false b h k = cc

not_true : (b : Bool) → IsTrue (not b) → b ≡ false
not_true true h = cc
not_true false h = refl

module _ (atom : Atom) where
  -- an atom with another predicate is another atom
  other_atom : (other : Atom) → nat_eq atom.pred other.pred ≡ false → atom_eq atom other ≡ false
  other_atom other e = ap (λ b. b && pointwise nat_eq atom.args other.args) e

  pub in_neither : (some others : List Atom) → is_in some atom ≡ false → is_in others atom ≡ false → is_in (some ++ others) atom ≡ false
  in_neither some others h k = list_any-append (atom_eq atom) some others ∙ (λ j. h j || k j)

  in_none : {X : Type 0} (found : X → List Atom) (xs : List X) → ((x : X) → is_in (found x) atom ≡ false) → is_in (flat_map found xs) atom ≡ false
  in_none found [] h = refl
  in_none found (x ∷ xs) h = in_neither (found x) (flat_map found xs) (h x) (in_none found xs h)

  in_ground : (objects : List ℕ) (patterns : List Pattern) → IsTrue (list_all (is_of_another atom.pred) patterns) → is_in (map (ground objects) patterns) atom ≡ false
  in_ground objects [] h = refl
  in_ground objects (pattern ∷ patterns) h =
      let parted = both_true (is_of_another atom.pred pattern) (list_all (is_of_another atom.pred) patterns) h in
      (λ j. other_atom (ground objects pattern) (not_true (nat_eq atom.pred pattern.pred) parted.0) j || in_ground objects patterns parted.1 j)

  module _ (objects_of : List ℕ → List ℕ) (state : Atom → Bool) (arguments : List ℕ) (truth : Bool) where
    in_one : (b : Bool) (other : Atom) → nat_eq atom.pred other.pred ≡ false → is_in (cond b (other ∷ []) []) atom ≡ false
    in_one true other e = ap (λ b. b || false) (other_atom other e)
    in_one false other e = refl

    in_cond : (b : Bool) (found : List Atom) → is_in found atom ≡ false → is_in (cond b found []) atom ≡ false
    in_cond true found h = h
    in_cond false found h = refl

    mutual
      -- an effect that spares the predicate of an atom does not change it
      pub changes_spare : (effect : EffectTree) (bound : List ℕ) → IsTrue (spares atom.pred effect) → is_in (changes objects_of state arguments truth effect bound) atom ≡ false
      changes_spare (change positive pattern) bound h = in_one (beq positive truth) (atom_of arguments bound pattern) (not_true (nat_eq atom.pred pattern.pred) h)
      changes_spare (joint parts) bound h = all_changes_spare parts bound h
      changes_spare (conditional condition effect) bound h =
          in_cond (holds objects_of state arguments condition bound) (changes objects_of state arguments truth effect bound) (changes_spare effect bound h)
      changes_spare (universal groups effect) bound h =
          in_none (λ extended. changes objects_of state arguments truth effect extended) (extensions objects_of (variable_types groups) bound) (λ extended. changes_spare effect extended h)

      all_changes_spare : (parts : EffectParts) (bound : List ℕ) → IsTrue (all_spare atom.pred parts) → is_in (all_changes objects_of state arguments truth parts bound) atom ≡ false
      all_changes_spare no_effects bound h = refl
      all_changes_spare (effect_part effect parts) bound h =
          let parted = both_true (spares atom.pred effect) (all_spare atom.pred parts) h in
          in_neither (changes objects_of state arguments truth effect bound) (all_changes objects_of state arguments truth parts bound)
          (changes_spare effect bound parted.0) (all_changes_spare parts bound parted.1)

  module _ (parts : TaskParts) (objects : List ℕ) (state : State) where
    effects_spare : (truth : Bool) (effects : List EffectTree) → IsTrue (list_all (spares atom.pred) effects) → is_in (changed_by parts objects state truth effects) atom ≡ false
    effects_spare truth [] h = refl
    effects_spare truth (effect ∷ effects) h =
        let parted = both_true (spares atom.pred effect) (list_all (spares atom.pred) effects) h in
        in_neither (changes (objects_of parts) state objects truth effect []) (changed_by parts objects state truth effects)
        (changes_spare (objects_of parts) state objects truth effect [] parted.0) (effects_spare truth effects parted.1)

    -- an action that spares its predicate does not change it
    action_keeps : (action : Action) → IsTrue (action_spares atom.pred action) → after_by parts objects state (Some action) atom ≡ state atom
    action_keeps action h =
        let first = both_true (list_all (is_of_another atom.pred) action.del) (list_all (is_of_another atom.pred) action.add && list_all (spares atom.pred) action.effects) h in
        let second = both_true (list_all (is_of_another atom.pred) action.add) (list_all (spares atom.pred) action.effects) first.1 in
        let deletes = deletes_by parts objects state (Some action) in
        let adds = adds_by parts objects state (Some action) in
        same (state atom) (is_in deletes atom) (is_in adds atom)
        (in_neither (map (ground objects) action.del) (changed_by parts objects state false action.effects) (in_ground objects action.del first.0) (effects_spare false action.effects second.1))
        (in_neither (map (ground objects) action.add) (changed_by parts objects state true action.effects) (in_ground objects action.add second.0) (effects_spare true action.effects second.1))
      where
        plain : (before : Bool) → ((before && true) || false) ≡ before
        plain true = refl
        plain false = refl

        same : (before deleted added : Bool) → deleted ≡ false → added ≡ false → ((before && not deleted) || added) ≡ before
        same before deleted added e f = (λ j. (before && not (e j)) || f j) ∙ plain before

-- the parts of `and`, which code has as a list
joint_spares : (pred : ℕ) (effects : List EffectTree) → list_all (spares pred) effects ≡ all_spare pred (effect_parts_of effects)
joint_spares pred [] = refl
joint_spares pred (effect ∷ effects) = ap (λ b. spares pred effect && b) (joint_spares pred effects)

pub joint_spares_is : (pred : ℕ) (whole : EffectTree) (effects these : List EffectTree) → these ≡ effects → whole ≡ joint (effect_parts_of effects) → IsTrue (list_all (spares pred) these)
    → IsTrue (spares pred whole)
joint_spares_is pred whole effects these same is h =
    subst (λ e. IsTrue (spares pred e)) (sym is) (subst (λ b. IsTrue b) (joint_spares pred effects) (subst (λ l. IsTrue (list_all (spares pred) l)) same h))

-- one of a list passes a test that all pass
pub passes_at : {X : Type 0} (p : X → Bool) (xs : List X) (i : ℕ) (x : X) → slice_get xs i ≡ Some x → IsTrue (list_all p xs) → IsTrue (p x)
passes_at p [] i x at h = cc
passes_at p (y ∷ ys) zero x at h = let same : y ≡ x = cc in subst (λ z. IsTrue (p z)) same (both_true (p y) (list_all p ys) h).0
passes_at p (y ∷ ys) (suc i) x at h = passes_at p ys i x at (both_true (p y) (list_all p ys) h).1

-- one more passes a test
pub all_pass_more : {X : Type 0} (p : X → Bool) (xs : List X) (i : ℕ) (x : X) → slice_get xs i ≡ Some x → IsTrue (list_all p (take i xs)) → IsTrue (p x) → IsTrue (list_all p (take (i + 1) xs))
all_pass_more p [] i x at h k = cc
all_pass_more p (y ∷ ys) zero x at h k =
    let same : y ≡ x = cc in
    subst (λ n. IsTrue (list_all p (take n (y ∷ ys)))) (let e : 1 ≡ 0 + 1 = omega arith in e) (and_true (p y) true (subst (λ z. IsTrue (p z)) (sym same) k) refl)
all_pass_more p (y ∷ ys) (suc i) x at h k =
    let parted = both_true (p y) (list_all p (take i ys)) h in
    subst (λ n. IsTrue (list_all p (take n (y ∷ ys)))) (let e : suc (i + 1) ≡ suc i + 1 = omega arith in e)
    (and_true (p y) (list_all p (take (i + 1) ys)) parted.0 (all_pass_more p ys i x at parted.1 k))

module _ (parts : TaskParts) where
  -- at the start
  pub start_keeps : KeepsStatics parts (is_in parts.init)
  start_keeps = λ atom h. refl

  by_action : (state : State) (objects : List ℕ) (atom : Atom) → IsTrue (is_static parts atom.pred) → (number : Option ℕ)
      → after_by parts objects state (option_and_then (slice_get (values_of parts.actions)) number) atom ≡ state atom
  by_action state objects atom h None = refl
  by_action state objects atom h (Some n) = by (slice_get (values_of parts.actions) n) refl
    where
      by : (o : Option Action) → slice_get (values_of parts.actions) n ≡ o → after_by parts objects state o atom ≡ state atom
      by None e = refl
      by (Some action) e = action_keeps atom parts objects state action (passes_at (action_spares atom.pred) (values_of parts.actions) n action e h)

  -- after a step
  pub after_keeps : (state : State) (step : StepText) → KeepsStatics parts state → KeepsStatics parts (after parts state step)
  after_keeps state step keeps = λ atom h.
      by_action state (objects_named parts step.args) atom h (number_named parts.actions step.action) ∙ keeps atom h

  lead_keeps : (steps : List StepText) (start end : State) → KeepsStatics parts start → LeadTo parts start steps end → KeepsStatics parts end
  lead_keeps [] start end keeps lead = subst (KeepsStatics parts) (lead_none_same parts start end lead) keeps
  lead_keeps (step ∷ steps) start end keeps lead =
      lead_keeps steps (after parts start step) end (after_keeps start step keeps) (lead_first parts start end step steps lead).1

  -- after any steps from the start
  pub run_keeps : (steps : List StepText) (end : State) → LeadTo parts (is_in parts.init) steps end → KeepsStatics parts end
  run_keeps steps end lead = lead_keeps steps (is_in parts.init) end start_keeps lead

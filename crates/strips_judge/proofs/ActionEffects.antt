-- The state after an action, by the changes that are made one after the other.

use Rattle.std.proofs.Common.{◌≡◌, ℕ, Some, Bool, true, false, not, ◌&&◌, ◌||◌, List, [], ◌∷◌, ◌++◌, refl, ap, sym, ◌∙◌, filter, cond, map, append-nil}
use Rattle.std.proofs.Math.Path.{fun_ext}
use Rattle.std.proofs.lemmas.List.Folds.{list_any-append}
use Rattle.formulas.specs.declared.atoms.Atom.{Atom}
use Rattle.formulas.specs.Atom.{atom_eq}
use Rattle.formulas.specs.AtomEquality.{atom_decides}
use Rattle.formulas.specs.EffectTree.{EffectTree}
use Rattle.strips_task.specs.declared.actions.Action.{Action}
use Rattle.strips_task.specs.declared.tasks.TaskParts.{TaskParts}
use Rattle.strips_judge.specs.Grounding.{ground}
use Rattle.strips_judge.specs.State.{State, is_in, without, with_all, after_effects}
use Rattle.strips_judge.specs.Step.{after_by, changed_by}

and_nots : (s a b : Bool) → ((s && not a) && not b) ≡ (s && not (a || b))
and_nots true true b = refl
and_nots true false b = refl
and_nots false true b = refl
and_nots false false b = refl

or_or : (s a b : Bool) → ((s || a) || b) ≡ (s || (a || b))
or_or true a b = refl
or_or false a b = refl

-- first these atoms are taken away, and then those
pub without_both : (state : State) (first second : List Atom) → without (without state first) second ≡ without state (first ++ second)
without_both state first second =
    fun_ext (λ atom. and_nots (state atom) (is_in first atom) (is_in second atom) ∙ ap (λ b. state atom && not b) (sym (list_any-append (atom_eq atom) first second)))

-- first these atoms are added, and then those
pub with_both : (state : State) (first second : List Atom) → with_all (with_all state first) second ≡ with_all state (first ++ second)
with_both state first second =
    fun_ext (λ atom. or_or (state atom) (is_in first atom) (is_in second atom) ∙ ap (λ b. state atom || b) (sym (list_any-append (atom_eq atom) first second)))

-- an atom that is true is among those of a list that are true if it is in the list
module _ (start : State) (atom : Atom) (holds : start atom ≡ true) where
  other_atom : (other : Atom) → start other ≡ false → (b : Bool) → atom_eq atom other ≡ b → b ≡ false
  other_atom other fails true e = sym holds ∙ ap start ((atom_decides atom other).0 e) ∙ fails
  other_atom other fails false e = refl

  one_kept : (other : Atom) (atoms : List Atom) → is_in (filter start atoms) atom ≡ is_in atoms atom → (b : Bool) → start other ≡ b
      → is_in (cond b (other ∷ filter start atoms) (filter start atoms)) atom ≡ (atom_eq atom other || is_in atoms atom)
  one_kept other atoms rest true e = ap (λ b. atom_eq atom other || b) rest
  one_kept other atoms rest false e = rest ∙ ap (λ b. b || is_in atoms atom) (sym (other_atom other e (atom_eq atom other) refl))

  kept_true : (atoms : List Atom) → is_in (filter start atoms) atom ≡ is_in atoms atom
  kept_true [] = refl
  kept_true (other ∷ atoms) = one_kept other atoms (kept_true atoms) (start other) refl

-- only atoms that were true at the start have to be taken away
pub without_true : (start : State) (first atoms : List Atom) → without (without start first) (filter start atoms) ≡ without (without start first) atoms
without_true start first atoms = fun_ext (λ atom. by atom (start atom) refl)
  where
    by : (atom : Atom) (b : Bool) → start atom ≡ b → (((start atom && not (is_in first atom)) && not (is_in (filter start atoms) atom)) ≡ ((start atom && not (is_in first atom)) && not (is_in atoms atom)))
    by atom true e = ap (λ b. (start atom && not (is_in first atom)) && not b) (kept_true start atom e atoms)
    by atom false e = ap (λ b. (b && not (is_in first atom)) && not (is_in (filter start atoms) atom)) e ∙ sym (ap (λ b. (b && not (is_in first atom)) && not (is_in atoms atom)) e)

-- without effects under `when` and `forall` there are no changes but the sure ones
pub sure_alone : (parts : TaskParts) (objects : List ℕ) (state : State) (truth : Bool) (effects : List EffectTree) (sure : List Atom) → effects ≡ []
    → sure ≡ sure ++ changed_by parts objects state truth effects
sure_alone parts objects state truth effects sure none = sym (append-nil sure) ∙ ap (λ l. sure ++ changed_by parts objects state truth l) (sym none)

module _ (parts : TaskParts) (objects : List ℕ) (state : State) (action : Action) where
  -- the sure deletes, those that were gathered, the sure adds, and those that were gathered lead to the state after the action
  pub after_gathered : (cleared removed added last : State) → cleared ≡ without state (map (ground objects) action.del)
      → removed ≡ without cleared (filter state (changed_by parts objects state false action.effects))
      → added ≡ with_all removed (map (ground objects) action.add) → last ≡ with_all added (changed_by parts objects state true action.effects)
      → last ≡ after_by parts objects state (Some action)
  after_gathered cleared removed added last one two three four =
      four ∙ ap (λ s. with_all s (changed_by parts objects state true action.effects)) (three ∙ ap (λ s. with_all s (map (ground objects) action.add)) before)
      ∙ with_both (without state (map (ground objects) action.del ++ changed_by parts objects state false action.effects)) (map (ground objects) action.add) (changed_by parts objects state true action.effects)
    where
      before : removed ≡ without state (map (ground objects) action.del ++ changed_by parts objects state false action.effects)
      before =
          two ∙ ap (λ s. without s (filter state (changed_by parts objects state false action.effects))) one
          ∙ without_true state (map (ground objects) action.del) (changed_by parts objects state false action.effects)
          ∙ without_both state (map (ground objects) action.del) (changed_by parts objects state false action.effects)

  -- without effects under `when` and `forall` the sure ones are all
  pub after_plain : action.effects ≡ [] → (removed last : State) → removed ≡ without state (map (ground objects) action.del) → last ≡ with_all removed (map (ground objects) action.add)
      → last ≡ after_by parts objects state (Some action)
  after_plain none removed last one two =
      two ∙ ap (λ s. with_all s (map (ground objects) action.add)) one
      ∙ (λ j. after_effects state (sure_alone parts objects state false action.effects (map (ground objects) action.del) none j)
      (sure_alone parts objects state true action.effects (map (ground objects) action.add) none j))

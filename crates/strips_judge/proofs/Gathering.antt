-- Gathering the changes of effects one after the other.

use Rattle.std.proofs.Common.{◌≡◌, ℕ, Result, Ok, Err, OnOk, ◌+◌, ◌-◌, ◌<◌, ◌≤◌, Bool, true, false, cond, List, [], ◌∷◌, ◌++◌, Some, None, All, refl, sym, ap, ◌∙◌, subst, filter, map, length, take, drop, get_or, slice_get, append-nil, append_assoc, length-append, arith}
use Rattle.std.proofs.Math.Seq.{take-append_seam}
use Rattle.std.proofs.lemmas.List.{take_all}
use Rattle.std.proofs.lemmas.List.Elements.{All-nil, All-cons, filter-append}
use Rattle.std.proofs.lemmas.Option.{get_or_from_slice_get}
use Rattle.std.specs.List.{flat_map}
use Rattle.formulas.specs.declared.atoms.Atom.{Atom}
use Rattle.formulas.specs.declared.variables.VariableGroup.{VariableGroup}
use Rattle.formulas.specs.EffectTree.{EffectTree, joint, universal, effect_parts_of}
use Rattle.formulas.specs.Variables.{variable_types, extensions}
use Rattle.formulas.specs.Tree.{conjunction, no_parts}
use Rattle.formulas.specs.Within.{IsEffectWithin, AreEffectsWithin}
use Rattle.strips_task.specs.AtomNumbers.{number_in}
use Rattle.strips_task.specs.declared.tasks.TaskParts.{TaskParts}
use Rattle.strips_judge.specs.NumberedState.{AreNumbers, KeepsNumbers}
use Rattle.strips_judge.specs.Fitting.{object_fits}
use Rattle.strips_judge.specs.Gathered.{Gathered, Found, nothing, only_added, only_deleted, and_then, AreGathered, GathersMore, effect_found, effects_found, choices_found}
use Rattle.strips_judge.specs.State.{State, objects_of}
use Rattle.strips_judge.specs.Step.{changed_by}
use Rattle.strips_judge.proofs.AtomNumbers.{numbers_kept, numbers_more}
use Rattle.strips_judge.proofs.Evaluations.{drop_at, drop_past, one_less_left}
use Rattle.strips_judge.proofs.StepLaws.{taken_more}

-- what is gathered is gathered of the same finds, however they are put together
found_as : (atoms : List Atom) (state : State) (found same : Found) (numbers : Gathered) → found false ≡ same false → found true ≡ same true
    → AreGathered atoms state found numbers → AreGathered atoms state same numbers
found_as atoms state found same numbers deleted added h =
    record {
      deleted = subst (λ l. AreNumbers atoms (filter state l) numbers.deleted) deleted h.deleted;
      added = subst (λ l. AreNumbers atoms l numbers.added) added h.added;
    }

-- gathering nothing, while atoms may get numbers
pub gathers_nothing : (state : State) (old new : List Atom) → KeepsNumbers old new → (numbers : Gathered) → GathersMore state old new numbers numbers nothing
gathers_nothing state old new keep numbers = λ found h.
    found_as new state found (and_then found nothing) numbers (sym (append-nil (found false))) (sym (append-nil (found true)))
    (record {
      deleted = numbers_kept old new keep (filter state (found false)) numbers.deleted h.deleted;
      added = numbers_kept old new keep (found true) numbers.added h.added;
    })

-- gathering first one thing and then another
pub gathers_both : (state : State) (first second third : List Atom) (before between after : Gathered) (found more : Found)
    → GathersMore state first second before between found → GathersMore state second third between after more → GathersMore state first third before after (and_then found more)
gathers_both state first second third before between after found more one two = λ all h.
    found_as third state (and_then (and_then all found) more) (and_then all (and_then found more)) after
    (append_assoc (all false) (found false) (more false)) (append_assoc (all true) (found true) (more true))
    (two (and_then all found) (one all h))

-- the same finds in other words
pub gathers_as : (state : State) (old new : List Atom) (before after : Gathered) (found same : Found) → ((truth : Bool) → found truth ≡ same truth)
    → GathersMore state old new before after found → GathersMore state old new before after same
gathers_as state old new before after found same is h = λ all so_far.
    found_as new state (and_then all found) (and_then all same) after (ap (λ l. all false ++ l) (is false)) (ap (λ l. all true ++ l) (is true)) (h all so_far)

module _ (state : State) (old new : List Atom) (keep : KeepsNumbers old new) (atom : Atom) (number : ℕ) (before after : Gathered) where
  -- an atom more becomes true
  pub gathers_added : number_in new atom ≡ Some number → after.deleted ≡ before.deleted → after.added ≡ before.added ++ number ∷ []
      → GathersMore state old new before after (only_added atom)
  gathers_added is same more = λ found h.
      record {
        deleted = subst (λ l. AreNumbers new (filter state l) after.deleted) (sym (append-nil (found false)))
            (subst (AreNumbers new (filter state (found false))) (sym same) (numbers_kept old new keep (filter state (found false)) before.deleted h.deleted));
        added = numbers_more old new keep (found true) (found true ++ atom ∷ []) before.added after.added atom number refl more h.added is;
      }

  -- an atom more becomes false
  pub gathers_deleted : state atom ≡ true → number_in new atom ≡ Some number → after.added ≡ before.added → after.deleted ≡ before.deleted ++ number ∷ []
      → GathersMore state old new before after (only_deleted atom)
  gathers_deleted holds is same more = λ found h.
      record {
        deleted = numbers_more old new keep (filter state (found false)) (filter state (found false ++ atom ∷ [])) before.deleted after.deleted atom number
            (filter-append state (found false) (atom ∷ []) ∙ ap (λ b. filter state (found false) ++ cond b (atom ∷ []) []) holds) more h.deleted is;
        added = subst (λ l. AreNumbers new l after.added) (sym (append-nil (found true)))
            (subst (AreNumbers new (found true)) (sym same) (numbers_kept old new keep (found true) before.added h.added));
      }

-- an atom that becomes false and is false already
pub gathers_false : (state : State) (old new : List Atom) → KeepsNumbers old new → (atom : Atom) (numbers : Gathered) → state atom ≡ false
    → GathersMore state old new numbers numbers (only_deleted atom)
gathers_false state old new keep atom numbers fails = λ found h.
    record {
      deleted = subst (λ l. AreNumbers new l numbers.deleted)
          (sym (filter-append state (found false) (atom ∷ []) ∙ ap (λ b. filter state (found false) ++ cond b (atom ∷ []) []) fails ∙ append-nil (filter state (found false))))
          (numbers_kept old new keep (filter state (found false)) numbers.deleted h.deleted);
      added = subst (λ l. AreNumbers new l numbers.added) (sym (append-nil (found true))) (numbers_kept old new keep (found true) numbers.added h.added);
    }

module _ {X Y : Type 0} (f : X → List Y) where
  pub flat_append : (xs others : List X) → flat_map f (xs ++ others) ≡ flat_map f xs ++ flat_map f others
  flat_append [] others = refl
  flat_append (x ∷ xs) others = ap (λ l. f x ++ l) (flat_append xs others) ∙ sym (append_assoc (f x) (flat_map f xs) (flat_map f others))

  -- what becomes of one item more
  pub flat_more : (before all : List X) (x : X) → all ≡ before ++ x ∷ [] → flat_map f before ++ f x ≡ flat_map f all
  flat_more before all x is = ap (λ l. flat_map f before ++ l) (sym (append-nil (f x))) ∙ sym (flat_append before (x ∷ [])) ∙ ap (flat_map f) (sym is)

  -- what becomes of those that are kept
  pub flat_kept : (keep : X → Bool) (xs : List X) → flat_map (λ x. cond (keep x) (f x) []) xs ≡ flat_map f (filter keep xs)
  flat_kept keep [] = refl
  flat_kept keep (x ∷ xs) = by (keep x) (flat_kept keep xs)
    where
      by : (k : Bool) → flat_map (λ y. cond (keep y) (f y) []) xs ≡ flat_map f (filter keep xs) → cond k (f x) [] ++ flat_map (λ y. cond (keep y) (f y) []) xs ≡ flat_map f (cond k (x ∷ filter keep xs) (filter keep xs))
      by true rest = ap (λ l. f x ++ l) rest
      by false rest = rest

  pub flat_flat : {Z : Type 0} (g : Z → List X) (zs : List Z) → flat_map f (flat_map g zs) ≡ flat_map (λ z. flat_map f (g z)) zs
  flat_flat g [] = refl
  flat_flat g (z ∷ zs) = flat_append (g z) (flat_map g zs) ∙ ap (λ l. flat_map f (g z) ++ l) (flat_flat g zs)

module _ (parts : TaskParts) (state : State) (arguments bound : List ℕ) where
  -- the parts of `and`, which code has as a list
  pub joint_found : (effects : List EffectTree) (truth : Bool) → effects_found parts state arguments bound effects truth ≡ effect_found parts state arguments bound (joint (effect_parts_of effects)) truth
  joint_found [] truth = refl
  joint_found (effect ∷ effects) truth = ap (λ l. effect_found parts state arguments bound effect truth ++ l) (joint_found effects truth)

  pub joint_is : (whole : EffectTree) (effects these : List EffectTree) → these ≡ effects → whole ≡ joint (effect_parts_of effects) → (truth : Bool)
      → effects_found parts state arguments bound these truth ≡ effect_found parts state arguments bound whole truth
  joint_is whole effects these same is truth =
      ap (λ l. effects_found parts state arguments bound l truth) same ∙ joint_found effects truth ∙ ap (λ e. effect_found parts state arguments bound e truth) (sym is)

  -- an effect under `forall` happens for all choices
  pub universal_is : (whole body this : EffectTree) (groups these : List VariableGroup) → whole ≡ universal groups body → this ≡ body → these ≡ groups → (truth : Bool)
      → choices_found parts state arguments this (variable_types these) bound truth ≡ effect_found parts state arguments bound whole truth
  universal_is whole body this groups these is same_body same truth =
      (λ j. choices_found parts state arguments (same_body j) (variable_types (same j)) bound truth) ∙ ap (λ e. effect_found parts state arguments bound e truth) (sym is)

  -- one effect more
  pub one_effect_more : (effects : List EffectTree) (i : ℕ) (effect : EffectTree) → i < length effects → effect ≡ get_or effects i effect → (truth : Bool)
      → effects_found parts state arguments bound (take i effects) truth ++ effect_found parts state arguments bound effect truth ≡ effects_found parts state arguments bound (take (i + 1) effects) truth
  one_effect_more effects i effect lt is truth =
      flat_more (λ e. effect_found parts state arguments bound e truth) (take i effects) (take (i + 1) effects) effect (taken_more effects i effect lt is)

-- the effects name the parameters and variables that they may name
pub effects_within : (params bound : ℕ) (effects : List EffectTree) → AreEffectsWithin params bound (effect_parts_of effects) → All (IsEffectWithin params bound) effects
effects_within params bound [] h = All-nil (IsEffectWithin params bound)
effects_within params bound (effect ∷ effects) h = All-cons (IsEffectWithin params bound) effect effects h.0 (effects_within params bound effects h.1)

module _ (params bound : ℕ) where
  pub joint_within : (whole : EffectTree) (effects these : List EffectTree) → these ≡ effects → whole ≡ joint (effect_parts_of effects) → IsEffectWithin params bound whole
      → All (IsEffectWithin params bound) these
  joint_within whole effects these same is h =
      subst (All (IsEffectWithin params bound)) (sym same) (effects_within params bound effects (subst (IsEffectWithin params bound) is h))

  -- an effect of a list
  pub item_within : (effects : List EffectTree) (i : ℕ) (effect : EffectTree) (now : ℕ) → i < length effects → effect ≡ get_or effects i effect → now ≡ bound
      → All (IsEffectWithin params bound) effects → IsEffectWithin params now effect
  item_within effects i effect now lt is same h = subst (λ n. IsEffectWithin params n effect) (sym same) (subst (IsEffectWithin params bound) (sym is) (h i effect lt))

-- a fact about a success in other words
pub ok_as : {T E P Q : Type 0} (outcome : Result T E) → (P → Q) → OnOk outcome P → OnOk outcome Q
ok_as (Ok value) f p = f p
ok_as (Err e) f p = tt

-- finds in the state and under the choice that there were at the start
pub gathers_at : (found : State → List ℕ → Found) (now start : State) (bound outer : List ℕ) (old new : List Atom) (before after : Gathered) → now ≡ start → bound ≡ outer
    → GathersMore now old new before after (found now bound) → GathersMore start old new before after (found start outer)
gathers_at found now start bound outer old new before after same is h =
    subst (λ l. GathersMore start old new before after (found start l)) is (subst (λ s. GathersMore s old new before after (found s bound)) same h)

-- one object more is bound
pub pushed_length : (outer bound pushed : List ℕ) (object : ℕ) → bound ≡ outer → pushed ≡ bound ++ object ∷ [] → length pushed ≡ length outer + 1
pushed_length outer bound pushed object same is = ap length is ∙ length-append bound (object ∷ []) ∙ ap (λ l. length l + 1) same

-- and then one less
pub popped : (outer inner left : List ℕ) (object count : ℕ) → count ≡ length inner → inner ≡ outer ++ object ∷ [] → left ≡ take (count - 1) inner → left ≡ outer
popped outer inner left object count all is rest =
    rest ∙ (λ j. take (all j - 1) (is j)) ∙ ap (λ l. take (length l - 1) (outer ++ object ∷ [])) is
    ∙ ap (λ n. take n (outer ++ object ∷ [])) (let e : length (outer ++ object ∷ []) - 1 ≡ length outer = omega (arith, length-append outer (object ∷ [])) in e)
    ∙ take-append_seam outer (object ∷ [])

module _ (parts : TaskParts) (state : State) (arguments : List ℕ) (effect : EffectTree) where
  -- without variables there is one choice
  pub no_choice : (variables : List (List ℕ)) (first : ℕ) (bound : List ℕ) → slice_get variables first ≡ None → (truth : Bool)
      → effect_found parts state arguments bound effect truth ≡ choices_found parts state arguments effect (drop first variables) bound truth
  no_choice variables first bound none truth =
      sym (append-nil (effect_found parts state arguments bound effect truth))
      ∙ ap (λ l. choices_found parts state arguments effect l bound truth) (sym (drop_past variables first none))

  module _ (variables : List (List ℕ)) (first : ℕ) (types bound : List ℕ) where
    -- what the effect changes for the choices with one object for the first variable
    abbrev pub with_object : Bool → ℕ → List Atom
    with_object truth object = choices_found parts state arguments effect (drop (first + 1) variables) (bound ++ object ∷ []) truth

    -- and what it changes for those with one of these objects, if it fits
    abbrev pub of_some : List ℕ → Found
    of_some these truth = flat_map (λ o. cond (object_fits parts types o) (with_object truth o) []) these

    module _ (candidates : List ℕ) where
      module _ (i object : ℕ) (lt : i < length candidates) (at : slice_get candidates i ≡ Some object) where
        one_more : (truth : Bool) → of_some (take i candidates) truth ++ cond (object_fits parts types object) (with_object truth object) [] ≡ of_some (take (i + 1) candidates) truth
        one_more truth =
            flat_more (λ o. cond (object_fits parts types o) (with_object truth o) []) (take i candidates) (take (i + 1) candidates) object
            (taken_more candidates i object lt (sym (get_or_from_slice_get candidates i object object at)))

        -- an object that fits
        pub one_fits : object_fits parts types object ≡ true → (truth : Bool) → and_then (of_some (take i candidates)) (λ t. with_object t object) truth ≡ of_some (take (i + 1) candidates) truth
        one_fits fits truth = ap (λ b. of_some (take i candidates) truth ++ cond b (with_object truth object) []) (sym fits) ∙ one_more truth

        -- one that does not
        pub one_unfit : object_fits parts types object ≡ false → (truth : Bool) → of_some (take i candidates) truth ≡ of_some (take (i + 1) candidates) truth
        one_unfit unfit truth =
            sym (append-nil (of_some (take i candidates) truth)) ∙ ap (λ b. of_some (take i candidates) truth ++ cond b (with_object truth object) []) (sym unfit) ∙ one_more truth

      -- all objects
      pub all_objects : slice_get variables first ≡ Some types → filter (object_fits parts types) candidates ≡ objects_of parts types → (i : ℕ) → length candidates ≤ i → (truth : Bool)
          → of_some (take i candidates) truth ≡ choices_found parts state arguments effect (drop first variables) bound truth
      all_objects at all i past truth =
          ap (λ l. of_some l truth) (take_all i candidates past)
          ∙ flat_kept (with_object truth) (object_fits parts types) candidates
          ∙ ap (flat_map (with_object truth)) all
          ∙ sym (flat_flat (λ extended. effect_found parts state arguments extended effect truth) (λ o. extensions (objects_of parts) (drop (first + 1) variables) (bound ++ o ∷ [])) (objects_of parts types))
          ∙ ap (λ l. choices_found parts state arguments effect l bound truth) (sym (drop_at variables first types at))

    -- with one variable more bound, one less is left
    pub effect_next_within : (params : ℕ) → slice_get variables first ≡ Some types → (now outer : ℕ) → now ≡ outer + 1 → IsEffectWithin params (outer + length (drop first variables)) effect
        → IsEffectWithin params (now + length (drop (first + 1) variables)) effect
    effect_next_within params at now outer more h =
        subst (λ n. IsEffectWithin params n effect)
        (let e : outer + length (drop first variables) ≡ now + length (drop (first + 1) variables) = omega (arith, more, one_less_left params outer variables first (conjunction no_parts) types at) in e) h

  pub effect_all_within : (params bound : ℕ) (variables : List (List ℕ)) (first : ℕ) → slice_get variables first ≡ None → IsEffectWithin params (bound + length (drop first variables)) effect → IsEffectWithin params bound effect
  effect_all_within params bound variables first none h =
      subst (λ n. IsEffectWithin params n effect) (let e : bound + length (drop first variables) ≡ bound = omega (arith, ap length (drop_past variables first none)) in e) h

-- all that effects change is gathered, if nothing was before
pub gathered_all : (parts : TaskParts) (state : State) (objects bound : List ℕ) (effects these : List EffectTree) (old new : List Atom) (before after : Gathered)
    → bound ≡ [] → these ≡ effects → before.deleted ≡ [] → before.added ≡ [] → GathersMore state old new before after (effects_found parts state objects bound these)
    → AreGathered new state (λ truth. changed_by parts objects state truth effects) after
gathered_all parts state objects bound effects these old new before after none same no_deletes no_adds h =
    found_as new state (and_then nothing (effects_found parts state objects bound these)) (λ truth. changed_by parts objects state truth effects) after
    (λ j. effects_found parts state objects (none j) (same j) false) (λ j. effects_found parts state objects (none j) (same j) true)
    (h nothing (record { deleted = ap (map Some) (sym no_deletes); added = ap (map Some) (sym no_adds) }))

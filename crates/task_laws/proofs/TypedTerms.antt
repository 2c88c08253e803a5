-- Terms with objects of the right types put in for variables fit where they fitted.

use Rattle.std.proofs.Common.{◌≡◌, ℕ, ◌+◌, ◌-◌, ◌<◌, Bool, true, false, cond, ◌&&◌, ◌||◌, nat_eq, nat_lt, List, [], ◌∷◌, Option, Some, None, length, map, slice_get, slice_index, option_map, zip, refl, ap, sym, ◌∙◌, subst, true≢false}
use Rattle.std.proofs.Math.Bool.{or-true}
use Rattle.std.proofs.lemmas.Bool.{ltb-true}
use Rattle.std.proofs.lemmas.List.{length-map}
use Rattle.std.proofs.lemmas.Option.{slice_get-get_or, slice_get_within}
use Rattle.std.specs.List.{list_all, list_any}
use Rattle.std.specs.Map.{values_of}
use Rattle.formulas.specs.declared.terms.Term.{Term}
use Rattle.formulas.specs.declared.terms.Term.TheVariants.{Param, Bound, Object}
use Rattle.formulas.specs.declared.terms.Pattern.{Pattern}
use Rattle.formulas.specs.Grounding.{term_with, pattern_with}
use Rattle.strips_task.specs.declared.tasks.TaskParts.{TaskParts}
use Rattle.strips_task.specs.Types.{ancestor, is_below, fits}
use Rattle.strips_task.specs.WellFormed.{IsWellFormed, term_types, is_fitting, are_fitting, is_pattern, is_object, is_known}
use Rattle.strips_task.proofs.AtomEquality.{both_hold}
use Rattle.strips_task.proofs.TypeTrees.{ancestor-add, below_from_within}
use Rattle.strips_task.proofs.WellFormedParts.{passes_at, is_below_decides}
use Rattle.strips_judge.proofs.Fits.{fits-one}
use Rattle.task_laws.proofs.Terms.{parameter_stays}
use Rattle.task_laws.proofs.TypedObjects.{are_typed, typed_at}

module _ (parts : TaskParts) (task : IsWellFormed parts) where
  -- a type is below all that is above a type above it
  module _ (type : ℕ) (known : type < length parts.parents) where
    below_through : (middle top : ℕ) → is_below parts.parents type middle ≡ true → is_below parts.parents middle top ≡ true → is_below parts.parents type top ≡ true
    unfolding is_below
    below_through middle top first second =
        let low = below_from_within parts.parents (length parts.parents) type middle first in
        let high = below_from_within parts.parents (length parts.parents) middle top second in
        (is_below_decides parts.parents task.types_form_a_tree type top known).1
        (low.0 + high.0, sym (ancestor-add parts.parents high.0 low.0 type) ∙ ap (ancestor parts.parents high.0) low.1 ∙ high.1)

    some_above : (middle : ℕ) (allowed : List ℕ) → is_below parts.parents type middle ≡ true → list_any (is_below parts.parents middle) allowed ≡ true → list_any (is_below parts.parents type) allowed ≡ true
    some_above middle [] first some = some
    some_above middle (top ∷ allowed) first some = by (is_below parts.parents middle top) refl (some_above middle allowed first)
      where
        by : (above : Bool) → is_below parts.parents middle top ≡ above
            → (list_any (is_below parts.parents middle) allowed ≡ true → list_any (is_below parts.parents type) allowed ≡ true)
            → (is_below parts.parents type top || list_any (is_below parts.parents type) allowed) ≡ true
        by true e rest = ap (λ b. b || list_any (is_below parts.parents type) allowed) (below_through middle top first e)
        by false e rest =
            ap (λ b. is_below parts.parents type top || b) (rest (sym (ap (λ b. b || list_any (is_below parts.parents middle) allowed) e) ∙ some))
            ∙ or-true (is_below parts.parents type top)

    some_through : (types allowed : List ℕ) → list_any (is_below parts.parents type) types ≡ true → list_all (λ middle. list_any (is_below parts.parents middle) allowed) types ≡ true
        → list_any (is_below parts.parents type) allowed ≡ true
    some_through [] allowed some all = absurd (true≢false (sym some))
    some_through (middle ∷ types) allowed some all = by (is_below parts.parents type middle) refl (some_through types allowed)
      where
        split : (list_any (is_below parts.parents middle) allowed ≡ true) × (list_all (λ other. list_any (is_below parts.parents other) allowed) types ≡ true)
        split = both_hold (list_any (is_below parts.parents middle) allowed) (list_all (λ other. list_any (is_below parts.parents other) allowed) types) all

        by : (below : Bool) → is_below parts.parents type middle ≡ below
            → (list_any (is_below parts.parents type) types ≡ true → list_all (λ other. list_any (is_below parts.parents other) allowed) types ≡ true → list_any (is_below parts.parents type) allowed ≡ true)
            → list_any (is_below parts.parents type) allowed ≡ true
        by true e rest = some_above middle allowed e split.0
        by false e rest = rest (sym (ap (λ b. b || list_any (is_below parts.parents type) types) e) ∙ some) split.1

    -- an object of this type fits what all variables of these types fit, if it fits a variable of these types
    fits_through : (types allowed : List ℕ) → fits parts.parents (type ∷ []) types ≡ true → fits parts.parents types allowed ≡ true → fits parts.parents (type ∷ []) allowed ≡ true
    unfolding fits
    fits_through types allowed first second =
        fits-one parts.parents allowed type ∙ some_through types allowed (sym (fits-one parts.parents types type) ∙ first) second

  -- the type of an object
  object_type : (object : ℕ) → nat_lt object (length parts.objects) ≡ true
      → (slice_get (values_of parts.objects) object ≡ Some (slice_index (values_of parts.objects) object)) × (slice_index (values_of parts.objects) object < length parts.parents)
  object_type object known =
      let within : object < length (values_of parts.objects) = subst (λ count. object < count) (sym (length-map parts.objects (λ entry. entry.1))) (ltb-true object (length parts.objects) known) in
      let found : slice_get (values_of parts.objects) object ≡ Some (slice_index (values_of parts.objects) object) = slice_get-get_or (values_of parts.objects) object 0 within in
      let type = slice_index (values_of parts.objects) object in
      (found, ltb-true type (length parts.parents) (passes_at (λ t. nat_lt t (length parts.parents)) (values_of parts.objects) object type task.objects_typed found))

  module _ (params bound : List (List ℕ)) (objects : List ℕ) (typed : are_typed parts bound objects ≡ true) where
    term_fits : (term : Term) (allowed : List ℕ) → is_fitting parts.parents (term_types parts.objects params bound term) allowed ≡ true
        → is_fitting parts.parents (term_types parts.objects params [] (term_with [] objects term)) allowed ≡ true
    unfolding term_types is_fitting
    term_fits (Param index) allowed fitting = ap (λ term. is_fitting parts.parents (term_types parts.objects params [] term) allowed) (parameter_stays objects index) ∙ fitting
    term_fits (Bound level) allowed fitting = by (slice_get bound level) refl
      where
        by : (found : Option (List ℕ)) → slice_get bound level ≡ found
            → is_fitting parts.parents (term_types parts.objects params [] (cond (nat_lt level (length objects)) (Object (slice_index objects level)) (Bound (level - length objects)))) allowed ≡ true
        by None e = absurd (true≢false (sym fitting ∙ ap (λ types. is_fitting parts.parents types allowed) e))
        by (Some types) e =
            let (within, is_object, fitted) = typed_at parts bound objects level typed (slice_get_within bound level types e) in
            let object = slice_index objects level in
            let own = object_type object is_object in
            ap (λ b. is_fitting parts.parents (term_types parts.objects params [] (cond b (Object object) (Bound (level - length objects)))) allowed) within
            ∙ ap (λ type. is_fitting parts.parents (option_map (λ t. t ∷ []) type) allowed) own.0
            ∙ fits_through (slice_index (values_of parts.objects) object) own.1 types allowed (fitted types e) (sym (ap (λ all. is_fitting parts.parents all allowed) e) ∙ fitting)
    term_fits (Object object) allowed fitting = fitting

    terms_fit : (terms : List Term) (allowed : List (List ℕ)) → list_all (λ p. is_fitting parts.parents p.0 p.1) (zip (map (term_types parts.objects params bound) terms) allowed) ≡ true
        → list_all (λ p. is_fitting parts.parents p.0 p.1) (zip (map (term_types parts.objects params []) (map (term_with [] objects) terms)) allowed) ≡ true
    terms_fit [] allowed fitting = fitting
    terms_fit (term ∷ terms) [] fitting = fitting
    terms_fit (term ∷ terms) (types ∷ allowed) fitting =
        let both = both_hold (is_fitting parts.parents (term_types parts.objects params bound term) types) (list_all (λ p. is_fitting parts.parents p.0 p.1) (zip (map (term_types parts.objects params bound) terms) allowed)) fitting in
        λ j. term_fits term types both.0 j && terms_fit terms allowed both.1 j

    same_length : (terms : List Term) → length (map (term_types parts.objects params []) (map (term_with [] objects) terms)) ≡ length (map (term_types parts.objects params bound) terms)
    same_length terms =
        length-map (map (term_with [] objects) terms) (term_types parts.objects params []) ∙ length-map terms (term_with [] objects) ∙ sym (length-map terms (term_types parts.objects params bound))

    pub pattern_fits : (pattern : Pattern) → is_pattern parts params bound pattern ≡ true → is_pattern parts params [] (pattern_with [] objects pattern) ≡ true
    unfolding is_pattern are_fitting
    pattern_fits pattern fitting = by (slice_get (values_of parts.preds) pattern.pred) fitting
      where
        by : (allowed : Option (List (List ℕ))) → are_fitting parts.parents (map (term_types parts.objects params bound) pattern.terms) allowed ≡ true
            → are_fitting parts.parents (map (term_types parts.objects params []) (map (term_with [] objects) pattern.terms)) allowed ≡ true
        by None h = h
        by (Some allowed) h =
            let both = both_hold (nat_eq (length (map (term_types parts.objects params bound) pattern.terms)) (length allowed)) (list_all (λ p. is_fitting parts.parents p.0 p.1) (zip (map (term_types parts.objects params bound) pattern.terms) allowed)) h in
            (λ j. nat_eq (same_length pattern.terms j) (length allowed) && terms_fit pattern.terms allowed both.1 j) ∙ ap (λ b. b && true) both.0

    pub side_fits : (term : Term) → is_known parts params bound term ≡ true → is_known parts params [] (term_with [] objects term) ≡ true
    unfolding is_known is_object
    side_fits (Param index) known = ap (is_known parts params []) (parameter_stays objects index) ∙ known
    side_fits (Bound level) known =
        let (within, is_object, fitted) = typed_at parts bound objects level typed (ltb-true level (length bound) known) in
        ap (λ b. is_known parts params [] (cond b (Object (slice_index objects level)) (Bound (level - length objects)))) within ∙ is_object
    side_fits (Object object) known = known

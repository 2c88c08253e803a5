-- What a smaller language reads, a larger one reads alike.

use Rattle.std.proofs.Common.{◌≡◌, ◌∙◌, ℕ, Bool, true, false, ◌&&◌, ◌||◌, if◌then◌else◌, not, List, [], ◌∷◌, Option, Some, None, ◌⊎◌, inl, inr, ⊎_elim, unwrap_or, refl, sym, ap, subst}
use Rattle.std.proofs.lemmas.Bool.{or_cases}
use Rattle.std.specs.Option.{option_map, option_and_then}
use Rattle.pddl_syntax.specs.declared.dialect.Dialect.{Dialect}
use Rattle.pddl_syntax.specs.declared.dialect.Dialect.TheVariants.{Strips, Ipc, Adl}
use Rattle.pddl_syntax.specs.declared.heads.Context.{Context}
use Rattle.pddl_syntax.specs.declared.heads.Context.TheVariants as context
use Rattle.pddl_syntax.specs.declared.heads.FormulaHead.{FormulaHead}
use Rattle.pddl_syntax.specs.declared.heads.FormulaHead.TheVariants as formula
use Rattle.pddl_syntax.specs.declared.heads.ListHead.{ListHead}
use Rattle.pddl_syntax.specs.declared.heads.ListHead.TheVariants as head
use Rattle.pddl_syntax.specs.declared.heads.ActionPart.{ActionPart}
use Rattle.pddl_syntax.specs.declared.heads.ActionPart.TheVariants as part
use Rattle.pddl_syntax.specs.declared.heads.DomainSection.{DomainSection}
use Rattle.pddl_syntax.specs.declared.heads.DomainSection.TheVariants as section
use Rattle.pddl_syntax.specs.declared.heads.ProblemSection.{ProblemSection}
use Rattle.pddl_syntax.specs.declared.heads.ProblemSection.TheVariants as problem
use Rattle.pddl_words.specs.Words.{is_name}
use Rattle.pddl_words.specs.Kinds.{is_same_word}
use Rattle.pddl_syntax.specs.Heads.{is_term, scope_at, has_changes, has_connectives, formula_head, equals_head, change_head, connective_head, name_head, reserved_head, head_by, list_head, is_atom_head, is_literal_head, domain_section, action_part, problem_section}
use Rattle.pddl_syntax.specs.Keywords.{is_change, equals_word, domain_word, problem_word, define_word, requirements_keyword, types_keyword, constants_keyword, predicates_keyword, action_keyword}
use Rattle.pddl_syntax.specs.Dialects.{AreDomainsKept, AreDomainsKeptInAdl, AreProblemsKept, AreProblemsKeptInAdl}
use Rattle.pddl_syntax.specs.Optional.{both, guard, followed_by}
use Rattle.pddl_syntax.specs.Trees.{Trees, none, word, list, begins_with_list}
use Rattle.pddl_syntax.specs.Syntax.{AtomForm, InitialForm, FormulaForm, atom_formula, EffectForm, DomainForm, DomainSections, ActionParts, ProblemSections, FormulaReadings, formula_by, EffectReadings, effect_by, atom_effect, initial_atom, ended, keywords_of, typed_names, typed_variables, predicate_in, words_of, atom_of, equality_of, increase_of, action_form, negated_atom_in, negated_atom_of, initial_by, init_item_in, initial_in, lists_of, begins_literal, may_be_negated, formula_in, formulas_in, lone_formula, negated_in, implied_in, bound_in, effect_in, effects_in, lone_effect, conditional_in, bound_effect_in, is_part_given, part_by, part_named, parts_of, no_parts, action_of, with_precondition, with_effect, with_types, with_constants, with_predicates, with_action, with_init, with_goal, no_domain_sections, is_domain_section_given, domain_section_by, domain_section_headed, domain_section_in, domain_sections_of, header_of, domain_form, domain_by, domain_body, domain_in, domain_syntax, behind_word, goal_of, no_problem_sections, is_problem_section_given, problem_section_by, problem_section_headed, problem_section_in, problem_sections_of, problem_by, problem_body, problem_in, problem_syntax}

-- what the first gives, the second gives
abbrev pub Keeps : {A : Type 0} → Option A → Option A → Type 0
Keeps {A} a b = (x : A) → a ≡ Some x → b ≡ Some x

keeps_map : {A B : Type 0} (f : A → B) (a b : Option A) → Keeps a b → Keeps (option_map f a) (option_map f b)
keeps_map f None b k x h = cc
keeps_map f (Some y) b k x h = ap (option_map f) (k y refl) ∙ h

keeps_then : {A B : Type 0} (f g : A → Option B) (a b : Option A) → ((y : A) → Keeps (f y) (g y)) → Keeps a b → Keeps (option_and_then f a) (option_and_then g b)
keeps_then f g None b each k x h = cc
keeps_then f g (Some y) b each k x h = ap (option_and_then g) (k y refl) ∙ each y x h

keeps_followed : {A : Type 0} (a b : Option A) (c d : Option (List A)) → Keeps a b → Keeps c d → Keeps (followed_by a c) (followed_by b d)
unfolding followed_by
keeps_followed None b c d first more x h = cc
keeps_followed (Some y) b c d first more x h = ap (λ o. followed_by o d) (first y refl) ∙ keeps_map (λ ys. y ∷ ys) c d more x h

keeps_guard : {A : Type 0} (test : Bool) (a b : Option A) → Keeps a b → Keeps (guard test a) (guard test b)
unfolding guard
keeps_guard true a b k x h = k x h
keeps_guard false a b k x h = h

keeps_ended : {A : Type 0} (f : Trees) (a b : Option A) → Keeps a b → Keeps (ended f a) (ended f b)
unfolding ended
keeps_ended none a b k x h = k x h
keeps_ended (word w f) a b k x h = h
keeps_ended (list i f) a b k x h = h

keeps_both : {A B : Type 0} (a b : Option A) (c d : Option B) → Keeps a b → Keeps c d → Keeps (both a c) (both b d)
unfolding both
keeps_both None b c d first second x h = cc
keeps_both (Some y) b c d first second x h = ap (λ o. both o d) (first y refl) ∙ keeps_map (λ z. (y, z)) c d second x h

keeps_itself : {A : Type 0} (a : Option A) → Keeps a a
keeps_itself a x h = h

keeps_nothing : {A : Type 0} (a b : Option A) → a ≡ None → Keeps a b
keeps_nothing a b e x h = cc

keeps_else : {A : Type 0} (test : Bool) (value a b : Option A) → Keeps a b → Keeps (if test then value else a) (if test then value else b)
keeps_else true value a b k x h = h
keeps_else false value a b k x h = k x h

-- a guard that gives a value held
guard_passed : {A : Type 0} (test : Bool) (value : Option A) (x : A) → guard test value ≡ Some x → (test ≡ true) × (value ≡ Some x)
unfolding guard
guard_passed true value x h = (refl, h)
guard_passed false value x h = cc

guarded_none : {A : Type 0} (test : Bool) → guard {A = A} test None ≡ None
unfolding guard
guarded_none true = refl
guarded_none false = refl

or_right : (first second : Bool) → second ≡ true → (first || second) ≡ true
or_right true second h = refl
or_right false second h = h

-- no atom has a list where its terms begin
no_atom : (test : List ℕ → Bool) (w : List ℕ) (f : Trees) → begins_with_list f ≡ true → atom_of test w f ≡ None
unfolding begins_with_list atom_of words_of
no_atom test w none e = cc
no_atom test w (word v f) e = cc
no_atom test w (list k f) e = refl

-- what a word heads before these trees, in the smaller and in the larger language: the same, or nothing in the smaller, or there an atom that is none
abbrev Alike : Trees → ListHead → ListHead → Type 0
Alike f small large = (small ≡ large) ⊎ ((small ≡ head.Reserved) ⊎ ((small ≡ head.Atom) × (begins_with_list f ≡ true)))

-- so are the words of two languages
abbrev HeadsAlike : Dialect → Dialect → Type 0
HeadsAlike small large = (p : Context) (w : List ℕ) (f : Trees) →
    Alike f (list_head (scope_at small p) w (begins_with_list f)) (list_head (scope_at large p) w (begins_with_list f))

-- what is read in the smaller language is kept, if what is read after the same head is
by_alike : {A : Type 0} (f : Trees) (small large : ListHead) (a b : ListHead → Option A) → Alike f small large →
    ((found : ListHead) → Keeps (a found) (b found)) → a head.Reserved ≡ None → (begins_with_list f ≡ true → a head.Atom ≡ None) → Keeps (a small) (b large)
by_alike f small large a b alike same reserved atom =
    ⊎_elim
    (λ (e : small ≡ large). subst (λ (found : ListHead). Keeps (a small) (b found)) e (same small))
    (λ (other : (small ≡ head.Reserved) ⊎ ((small ≡ head.Atom) × (begins_with_list f ≡ true))).
    ⊎_elim
    (λ (e : small ≡ head.Reserved). keeps_nothing (a small) (b large) (ap a e ∙ reserved))
    (λ (e : (small ≡ head.Atom) × (begins_with_list f ≡ true)). keeps_nothing (a small) (b large) (ap a e.0 ∙ atom e.1))
    other)
    alike

-- what is read after the first word of a formula is kept
abbrev AreReadingsKept : FormulaReadings → FormulaReadings → Type 0
AreReadingsKept a b = Keeps a.atom b.atom × Keeps a.equality b.equality × Keeps a.negated b.negated × Keeps a.several b.several × Keeps a.implied b.implied × Keeps a.bound b.bound

keeps_formula_by : (found : ListHead) (a b : FormulaReadings) → AreReadingsKept a b → Keeps (formula_by found a) (formula_by found b)
keeps_formula_by head.Atom a b k x h = keeps_map _ a.atom b.atom k.0 x h
keeps_formula_by head.Equality a b k x h = keeps_map _ a.equality b.equality k.1 x h
keeps_formula_by head.Not a b k x h = keeps_map _ a.negated b.negated k.2 x h
keeps_formula_by head.And a b k x h = keeps_map _ a.several b.several k.3 x h
keeps_formula_by head.Or a b k x h = keeps_map _ a.several b.several k.3 x h
keeps_formula_by head.Imply a b k x h = keeps_map _ a.implied b.implied k.4 x h
keeps_formula_by head.Exists a b k x h = keeps_map _ a.bound b.bound k.5 x h
keeps_formula_by head.ForAll a b k x h = keeps_map _ a.bound b.bound k.5 x h
keeps_formula_by head.When a b k x h = cc
keeps_formula_by head.Value a b k x h = cc
keeps_formula_by head.Increase a b k x h = cc
keeps_formula_by head.Reserved a b k x h = cc
keeps_formula_by head.Other a b k x h = cc

-- what is read after the first word of an effect is kept
abbrev AreEffectsKept : EffectReadings → EffectReadings → Type 0
AreEffectsKept a b = Keeps a.atom b.atom × Keeps a.negated b.negated × Keeps a.raised b.raised × Keeps a.several b.several × Keeps a.conditional b.conditional × Keeps a.bound b.bound

keeps_effect_by : (found : ListHead) (a b : EffectReadings) → AreEffectsKept a b → Keeps (effect_by found a) (effect_by found b)
keeps_effect_by head.Atom a b k x h = keeps_map _ a.atom b.atom k.0 x h
keeps_effect_by head.Not a b k x h = keeps_map _ a.negated b.negated k.1 x h
keeps_effect_by head.Increase a b k x h = keeps_map _ a.raised b.raised k.2 x h
keeps_effect_by head.And a b k x h = keeps_map _ a.several b.several k.3 x h
keeps_effect_by head.When a b k x h = keeps_map _ a.conditional b.conditional k.4 x h
keeps_effect_by head.ForAll a b k x h = keeps_map _ a.bound b.bound k.5 x h
keeps_effect_by head.Or a b k x h = cc
keeps_effect_by head.Imply a b k x h = cc
keeps_effect_by head.Exists a b k x h = cc
keeps_effect_by head.Equality a b k x h = cc
keeps_effect_by head.Value a b k x h = cc
keeps_effect_by head.Reserved a b k x h = cc
keeps_effect_by head.Other a b k x h = cc

-- what is kept from a smaller language in a larger one, if their words head alike, the larger has connectives where the smaller has, and keywords head the same
-- sections
module _ (small large : Dialect) (alike : HeadsAlike small large) (connect : has_connectives small ≡ true → has_connectives large ≡ true)
    (headings : (w : List ℕ) → Keeps (domain_section small w) (domain_section large w)) where
  negated_kept : (f : Trees) (small large : ListHead) (atom : Option AtomForm) → Alike f small large → (begins_with_list f ≡ true → atom ≡ None) →
      Keeps (guard (is_atom_head small) atom) (guard (is_atom_head large) atom)
  unfolding guard
  negated_kept f small large atom alike lacks =
      by_alike f small large (λ found. guard (is_atom_head found) atom) (λ found. guard (is_atom_head found) atom) alike
      (λ found. keeps_itself (guard (is_atom_head found) atom)) refl lacks

  keeps_negated_in : (p : Context) (f : Trees) → Keeps (negated_atom_in (scope_at small p) f) (negated_atom_in (scope_at large p) f)
  unfolding negated_atom_in
  keeps_negated_in p none x h = cc
  keeps_negated_in p (word w f) x h = negated_kept f _ _ (atom_of (is_term p) w f) (alike p w f) (no_atom (is_term p) w f) x h
  keeps_negated_in p (list k f) x h = cc

  keeps_negated_atom : (p : Context) (f : Trees) → Keeps (negated_atom_of (scope_at small p) f) (negated_atom_of (scope_at large p) f)
  unfolding negated_atom_of
  keeps_negated_atom p none x h = cc
  keeps_negated_atom p (word w f) x h = cc
  keeps_negated_atom p (list k f) x h = keeps_ended f (negated_atom_in (scope_at small p) k) (negated_atom_in (scope_at large p) k) (keeps_negated_in p k) x h

  keeps_initial_by : (found : ListHead) (w : List ℕ) (f : Trees) → Keeps (initial_by found (scope_at small context.Initial) w f) (initial_by found (scope_at large context.Initial) w f)
  keeps_initial_by head.Atom w f x h = h
  keeps_initial_by head.Not w f x h =
      keeps_map (initial_atom false) (negated_atom_of (scope_at small context.Initial) f) (negated_atom_of (scope_at large context.Initial) f) (keeps_negated_atom context.Initial f) x h
  keeps_initial_by head.Value w f x h = h
  keeps_initial_by head.And w f x h = cc
  keeps_initial_by head.Or w f x h = cc
  keeps_initial_by head.Imply w f x h = cc
  keeps_initial_by head.Exists w f x h = cc
  keeps_initial_by head.ForAll w f x h = cc
  keeps_initial_by head.When w f x h = cc
  keeps_initial_by head.Equality w f x h = cc
  keeps_initial_by head.Increase w f x h = cc
  keeps_initial_by head.Reserved w f x h = cc
  keeps_initial_by head.Other w f x h = cc

  keeps_item : (k : Trees) → Keeps (init_item_in small k) (init_item_in large k)
  unfolding init_item_in
  keeps_item none x h = cc
  keeps_item (word w f) x h =
      by_alike f _ _ (λ found. initial_by found (scope_at small context.Initial) w f) (λ found. initial_by found (scope_at large context.Initial) w f)
      (alike context.Initial w f) (λ found. keeps_initial_by found w f) refl (λ e. ap (option_map (initial_atom true)) (no_atom (is_term context.Initial) w f e)) x h
  keeps_item (list k f) x h = cc

  keeps_items : (f : Trees) → Keeps (lists_of (init_item_in small) f) (lists_of (init_item_in large) f)
  unfolding lists_of
  keeps_items none x h = h
  keeps_items (word w f) x h = cc
  keeps_items (list k f) x h =
      keeps_followed (init_item_in small k) (init_item_in large k) (lists_of (init_item_in small) f) (lists_of (init_item_in large) f) (keeps_item k) (keeps_items f) x h

  keeps_initial : (f : Trees) → Keeps (initial_in small f) (initial_in large f)
  unfolding initial_in
  keeps_initial f = keeps_items f

  -- the first word of a formula of the smaller language that is an atom or an equality heads one in the larger
  literal_kept : (p : Context) (k : Trees) (x : FormulaForm) → formula_in (scope_at small p) k ≡ Some x → begins_literal (scope_at small p) k ≡ true →
      begins_literal (scope_at large p) k ≡ true
  unfolding begins_literal formula_in
  literal_kept p none x h e = cc
  literal_kept p (word w f) x h e =
      ⊎_elim
      (λ (same : list_head (scope_at small p) w (begins_with_list f) ≡ list_head (scope_at large p) w (begins_with_list f)). ap is_literal_head (sym same) ∙ e)
      (λ (other : (list_head (scope_at small p) w (begins_with_list f) ≡ head.Reserved) ⊎ ((list_head (scope_at small p) w (begins_with_list f) ≡ head.Atom) × (begins_with_list f ≡ true))).
      ⊎_elim
      (λ (reserved : list_head (scope_at small p) w (begins_with_list f) ≡ head.Reserved). absurd (let no : false ≡ true = ap is_literal_head (sym reserved) ∙ e in cc))
      (λ (atom : (list_head (scope_at small p) w (begins_with_list f) ≡ head.Atom) × (begins_with_list f ≡ true)).
      absurd (unread (atom_of (is_term p) w f) _ (no_atom (is_term p) w f atom.1) atom.0 h))
      other)
      (alike p w f)
    where
      unread : (atom : Option AtomForm) (found : ListHead) → atom ≡ None → found ≡ head.Atom → formula_by found (record {
        atom = atom;
        equality = equality_of (is_term p) f;
        negated = negated_in (scope_at small p) f;
        several = formulas_in (scope_at small p) f;
        implied = implied_in (scope_at small p) f;
        bound = bound_in (scope_at small p) f;
      }) ≡ Some x → ⊥
      unread atom found lacks is read =
          let none_read : formula_by head.Atom (record {
            atom = None;
            equality = equality_of (is_term p) f;
            negated = negated_in (scope_at small p) f;
            several = formulas_in (scope_at small p) f;
            implied = implied_in (scope_at small p) f;
            bound = bound_in (scope_at small p) f;
          }) ≡ Some x = rw (is, lacks) at read in cc
  literal_kept p (list k f) x h e = cc

  may_kept : (p : Context) (k : Trees) (x : FormulaForm) → formula_in (scope_at small p) k ≡ Some x → may_be_negated (scope_at small p) k ≡ true →
      may_be_negated (scope_at large p) k ≡ true
  unfolding may_be_negated
  may_kept p k x h e =
      ⊎_elim
      (λ (has : has_connectives small ≡ true). ap (λ (test : Bool). test || begins_literal (scope_at large p) k) (connect has))
      (λ (begins : begins_literal (scope_at small p) k ≡ true). or_right (has_connectives large) _ (literal_kept p k x h begins))
      (or_cases (has_connectives small) (begins_literal (scope_at small p) k) e)

  keeps_negatable : (p : Context) (k : Trees) → Keeps (formula_in (scope_at small p) k) (formula_in (scope_at large p) k) →
      Keeps (guard (may_be_negated (scope_at small p) k) (formula_in (scope_at small p) k)) (guard (may_be_negated (scope_at large p) k) (formula_in (scope_at large p) k))
  unfolding guard
  keeps_negatable p k keeps x h =
      let passed = guard_passed (may_be_negated (scope_at small p) k) (formula_in (scope_at small p) k) x h in
      rw (may_kept p k x passed.1 passed.0) (keeps x passed.1)

  -- of trees: what they are read as, in each of the ways in which a formula has parts
  abbrev AllKept : Context → Trees → Type 0
  AllKept p f = Keeps (formula_in (scope_at small p) f) (formula_in (scope_at large p) f)
      × Keeps (formulas_in (scope_at small p) f) (formulas_in (scope_at large p) f)
      × Keeps (lone_formula (scope_at small p) f) (lone_formula (scope_at large p) f)
      × Keeps (negated_in (scope_at small p) f) (negated_in (scope_at large p) f)
      × Keeps (implied_in (scope_at small p) f) (implied_in (scope_at large p) f)
      × Keeps (bound_in (scope_at small p) f) (bound_in (scope_at large p) f)

  -- what is read after the first word of a formula
  abbrev readings_of : Dialect → Context → List ℕ → Trees → FormulaReadings
  readings_of dialect p w f = record {
    atom = atom_of (is_term p) w f;
    equality = equality_of (is_term p) f;
    negated = negated_in (scope_at dialect p) f;
    several = formulas_in (scope_at dialect p) f;
    implied = implied_in (scope_at dialect p) f;
    bound = bound_in (scope_at dialect p) f;
  }

  keeps_headed : (p : Context) (w : List ℕ) (f : Trees) → AllKept p f → Keeps (formula_in (scope_at small p) (word w f)) (formula_in (scope_at large p) (word w f))
  unfolding formula_in
  keeps_headed p w f kept =
      by_alike f _ _ (λ found. formula_by found (readings_of small p w f)) (λ found. formula_by found (readings_of large p w f)) (alike p w f)
      (λ found. keeps_formula_by found (readings_of small p w f) (readings_of large p w f)
      (keeps_itself (atom_of (is_term p) w f), keeps_itself (equality_of (is_term p) f), kept.3, kept.1, kept.4, kept.5))
      refl (λ e. ap (option_map (atom_formula true)) (no_atom (is_term p) w f e))

  keeps_formulas : (p : Context) (f : Trees) → AllKept p f
  unfolding formula_in formulas_in lone_formula negated_in implied_in bound_in
  keeps_formulas p none = ((λ x h. h), (λ x h. h), (λ x h. cc), (λ x h. cc), (λ x h. cc), (λ x h. cc))
  keeps_formulas p (word w f) = (keeps_headed p w f (keeps_formulas p f), (λ x h. cc), (λ x h. cc), (λ x h. cc), (λ x h. cc), (λ x h. cc))
  keeps_formulas p (list k f) = (
    (λ x h. cc),
    keeps_followed (formula_in (scope_at small p) k) (formula_in (scope_at large p) k) (formulas_in (scope_at small p) f) (formulas_in (scope_at large p) f)
        (keeps_formulas p k).0 (keeps_formulas p f).1,
    keeps_ended f (formula_in (scope_at small p) k) (formula_in (scope_at large p) k) (keeps_formulas p k).0,
    keeps_ended f (guard (may_be_negated (scope_at small p) k) (formula_in (scope_at small p) k)) (guard (may_be_negated (scope_at large p) k) (formula_in (scope_at large p) k))
        (keeps_negatable p k (keeps_formulas p k).0),
    keeps_both (formula_in (scope_at small p) k) (formula_in (scope_at large p) k) (lone_formula (scope_at small p) f) (lone_formula (scope_at large p) f)
        (keeps_formulas p k).0 (keeps_formulas p f).2,
    keeps_both (typed_variables [] k) (typed_variables [] k) (lone_formula (scope_at small context.Condition) f) (lone_formula (scope_at large context.Condition) f)
        (keeps_itself (typed_variables [] k)) (keeps_formulas context.Condition f).2,
  )

  keeps_formula : (p : Context) (f : Trees) → Keeps (formula_in (scope_at small p) f) (formula_in (scope_at large p) f)
  keeps_formula p f = (keeps_formulas p f).0

  -- of trees: what they are read as, in each of the ways in which an effect has parts
  abbrev AllEffectsKept : Context → Trees → Type 0
  AllEffectsKept p f = Keeps (effect_in (scope_at small p) f) (effect_in (scope_at large p) f)
      × Keeps (effects_in (scope_at small p) f) (effects_in (scope_at large p) f)
      × Keeps (lone_effect (scope_at small p) f) (lone_effect (scope_at large p) f)
      × Keeps (conditional_in (scope_at small p) f) (conditional_in (scope_at large p) f)
      × Keeps (bound_effect_in (scope_at small p) f) (bound_effect_in (scope_at large p) f)

  -- what is read after the first word of an effect
  abbrev effect_readings_of : Dialect → Context → List ℕ → Trees → EffectReadings
  effect_readings_of dialect p w f = record {
    atom = atom_of (is_term p) w f;
    negated = negated_atom_of (scope_at dialect p) f;
    raised = increase_of (is_term p) f;
    several = effects_in (scope_at dialect p) f;
    conditional = conditional_in (scope_at dialect p) f;
    bound = bound_effect_in (scope_at dialect p) f;
  }

  keeps_headed_effect : (p : Context) (w : List ℕ) (f : Trees) → AllEffectsKept p f → Keeps (effect_in (scope_at small p) (word w f)) (effect_in (scope_at large p) (word w f))
  unfolding effect_in
  keeps_headed_effect p w f kept =
      by_alike f _ _ (λ found. effect_by found (effect_readings_of small p w f)) (λ found. effect_by found (effect_readings_of large p w f)) (alike p w f)
      (λ found. keeps_effect_by found (effect_readings_of small p w f) (effect_readings_of large p w f)
      (keeps_itself (atom_of (is_term p) w f), keeps_negated_atom p f, keeps_itself (increase_of (is_term p) f), kept.1, kept.3, kept.4))
      refl (λ e. ap (option_map (atom_effect true)) (no_atom (is_term p) w f e))

  keeps_effects : (p : Context) (f : Trees) → AllEffectsKept p f
  unfolding effect_in effects_in lone_effect conditional_in bound_effect_in
  keeps_effects p none = ((λ x h. h), (λ x h. h), (λ x h. cc), (λ x h. cc), (λ x h. cc))
  keeps_effects p (word w f) = (keeps_headed_effect p w f (keeps_effects p f), (λ x h. cc), (λ x h. cc), (λ x h. cc), (λ x h. cc))
  keeps_effects p (list k f) = (
    (λ x h. cc),
    keeps_followed (effect_in (scope_at small p) k) (effect_in (scope_at large p) k) (effects_in (scope_at small p) f) (effects_in (scope_at large p) f)
        (keeps_effects p k).0 (keeps_effects p f).1,
    keeps_ended f (effect_in (scope_at small p) k) (effect_in (scope_at large p) k) (keeps_effects p k).0,
    keeps_both (formula_in (scope_at small context.Condition) k) (formula_in (scope_at large context.Condition) k)
        (lone_effect (scope_at small context.InnerEffect) f) (lone_effect (scope_at large context.InnerEffect) f)
        (keeps_formula context.Condition k) (keeps_effects context.InnerEffect f).2,
    keeps_both (typed_variables [] k) (typed_variables [] k) (lone_effect (scope_at small context.InnerEffect) f) (lone_effect (scope_at large context.InnerEffect) f)
        (keeps_itself (typed_variables [] k)) (keeps_effects context.InnerEffect f).2,
  )

  keeps_effect : (p : Context) (f : Trees) → Keeps (effect_in (scope_at small p) f) (effect_in (scope_at large p) f)
  keeps_effect p f = (keeps_effects p f).0

  keeps_goal : (f : Trees) → Keeps (goal_of small f) (goal_of large f)
  unfolding goal_of
  keeps_goal f = (keeps_formulas context.Goal f).2

  keeps_part : (named : ActionPart) (given : ActionParts) (f : Trees) → Keeps (part_by small named given f) (part_by large named given f)
  unfolding part_by
  keeps_part part.Parameters given f x h = h
  keeps_part part.Precondition given f x h =
      keeps_map (with_precondition given) (formula_in (scope_at small context.Condition) f) (formula_in (scope_at large context.Condition) f) (keeps_formula context.Condition f) x h
  keeps_part part.Effect given f x h =
      keeps_map (with_effect given) (effect_in (scope_at small context.Effect) f) (effect_in (scope_at large context.Effect) f) (keeps_effect context.Effect f) x h

  keeps_part_named : (named : Option ActionPart) (given : ActionParts) (f : Trees) → Keeps (part_named small named given f) (part_named large named given f)
  unfolding part_named
  keeps_part_named None given f x h = h
  keeps_part_named (Some named) given f x h =
      keeps_guard (not (is_part_given named given)) (part_by small named given f) (part_by large named given f) (keeps_part named given f) x h

  keeps_parts : (given : ActionParts) (f : Trees) → Keeps (parts_of small given f) (parts_of large given f)
  unfolding parts_of
  keeps_parts given none x h = h
  keeps_parts given (word w none) x h = cc
  keeps_parts given (word w (word v f)) x h = cc
  keeps_parts given (word w (list k f)) x h =
      keeps_then (λ more. parts_of small more f) (λ more. parts_of large more f) (part_named small (action_part w) given k) (part_named large (action_part w) given k)
      (λ more. keeps_parts more f) (keeps_part_named (action_part w) given k) x h
  keeps_parts given (list k f) x h = cc

  keeps_action : (f : Trees) → Keeps (action_of small f) (action_of large f)
  unfolding action_of
  keeps_action none x h = cc
  keeps_action (word w f) x h =
      keeps_guard (is_name w) (option_map (action_form w) (parts_of small no_parts f)) (option_map (action_form w) (parts_of large no_parts f))
      (keeps_map (action_form w) (parts_of small no_parts f) (parts_of large no_parts f) (keeps_parts no_parts f)) x h
  keeps_action (list k f) x h = cc

  keeps_section_by : (headed : DomainSection) (given : DomainSections) (f : Trees) → Keeps (domain_section_by small headed given f) (domain_section_by large headed given f)
  unfolding domain_section_by
  keeps_section_by section.Requirements given f x h = h
  keeps_section_by section.Types given f x h = h
  keeps_section_by section.Constants given f x h = h
  keeps_section_by section.Predicates given f x h = h
  keeps_section_by section.Functions given f x h = h
  keeps_section_by section.Action given f x h = keeps_map (with_action given) (action_of small f) (action_of large f) (keeps_action f) x h

  keeps_domain_headed : (given : DomainSections) (f : Trees) (one other : Option DomainSection) → Keeps one other →
      Keeps (domain_section_headed small one given f) (domain_section_headed large other given f)
  unfolding domain_section_headed
  keeps_domain_headed given f None other k x h = cc
  keeps_domain_headed given f (Some headed) other k x h =
      ap (λ o. domain_section_headed large o given f) (k headed refl)
      ∙ keeps_guard (not (is_domain_section_given headed given)) (domain_section_by small headed given f) (domain_section_by large headed given f) (keeps_section_by headed given f) x h

  keeps_section : (given : DomainSections) (f : Trees) → Keeps (domain_section_in small given f) (domain_section_in large given f)
  unfolding domain_section_in
  keeps_section given none x h = cc
  keeps_section given (word w f) x h = keeps_domain_headed given f (domain_section small w) (domain_section large w) (headings w) x h
  keeps_section given (list k f) x h = cc

  keeps_sections : (given : DomainSections) (f : Trees) → Keeps (domain_sections_of small given f) (domain_sections_of large given f)
  unfolding domain_sections_of
  keeps_sections given none x h = h
  keeps_sections given (word w f) x h = cc
  keeps_sections given (list k f) x h =
      keeps_then (λ more. domain_sections_of small more f) (λ more. domain_sections_of large more f) (domain_section_in small given k) (domain_section_in large given k)
      (λ more. keeps_sections more f) (keeps_section given k) x h

  keeps_domain_by : (name : Option (List ℕ)) (a b : Option DomainSections) → Keeps a b → Keeps (domain_by name a) (domain_by name b)
  unfolding domain_by
  keeps_domain_by None a b k x h = h
  keeps_domain_by (Some name) a b k x h = keeps_map (domain_form name) a b k x h

  keeps_domain_body : (f : Trees) → Keeps (domain_body small f) (domain_body large f)
  unfolding domain_body
  keeps_domain_body none x h = cc
  keeps_domain_body (word w f) x h = cc
  keeps_domain_body (list k f) x h =
      keeps_domain_by (header_of domain_word k) (domain_sections_of small no_domain_sections f) (domain_sections_of large no_domain_sections f)
      (keeps_sections no_domain_sections f) x h

  keeps_domain_in : (f : Trees) → Keeps (domain_in small f) (domain_in large f)
  unfolding domain_in
  keeps_domain_in f x h =
      keeps_then (domain_body small) (domain_body large) (behind_word define_word f) (behind_word define_word f) keeps_domain_body (λ y e. e) x h

  keeps_domain : (f : Trees) → Keeps (domain_syntax small f) (domain_syntax large f)
  unfolding domain_syntax
  keeps_domain none x h = cc
  keeps_domain (word w f) x h = cc
  keeps_domain (list k f) x h = keeps_ended f (domain_in small k) (domain_in large k) (keeps_domain_in k) x h

  keeps_problem_section_by : (headed : ProblemSection) (given : ProblemSections) (f : Trees) → Keeps (problem_section_by small headed given f) (problem_section_by large headed given f)
  unfolding problem_section_by
  keeps_problem_section_by problem.Domain given f x h = h
  keeps_problem_section_by problem.Requirements given f x h = h
  keeps_problem_section_by problem.Objects given f x h = h
  keeps_problem_section_by problem.Init given f x h =
      keeps_map (with_init given) (initial_in small f) (initial_in large f) (keeps_initial f) x h
  keeps_problem_section_by problem.Goal given f x h = keeps_map (with_goal given) (goal_of small f) (goal_of large f) (keeps_goal f) x h
  keeps_problem_section_by problem.Metric given f x h = h
  keeps_problem_section_by problem.Length given f x h = h

  keeps_problem_headed : (headed : Option ProblemSection) (given : ProblemSections) (f : Trees) →
      Keeps (problem_section_headed small headed given f) (problem_section_headed large headed given f)
  unfolding problem_section_headed
  keeps_problem_headed None given f x h = h
  keeps_problem_headed (Some headed) given f x h =
      keeps_guard (not (is_problem_section_given headed given)) (problem_section_by small headed given f) (problem_section_by large headed given f)
      (keeps_problem_section_by headed given f) x h

  keeps_problem_section : (given : ProblemSections) (f : Trees) → Keeps (problem_section_in small given f) (problem_section_in large given f)
  unfolding problem_section_in
  keeps_problem_section given none x h = cc
  keeps_problem_section given (word w f) x h = keeps_problem_headed (problem_section w) given f x h
  keeps_problem_section given (list k f) x h = cc

  keeps_problem_sections : (given : ProblemSections) (f : Trees) → Keeps (problem_sections_of small given f) (problem_sections_of large given f)
  unfolding problem_sections_of
  keeps_problem_sections given none x h = h
  keeps_problem_sections given (word w f) x h = cc
  keeps_problem_sections given (list k f) x h =
      keeps_then (λ more. problem_sections_of small more f) (λ more. problem_sections_of large more f) (problem_section_in small given k) (problem_section_in large given k)
      (λ more. keeps_problem_sections more f) (keeps_problem_section given k) x h

  keeps_problem_by : (name : Option (List ℕ)) (a b : Option ProblemSections) → Keeps a b → Keeps (problem_by name a) (problem_by name b)
  unfolding problem_by
  keeps_problem_by None a b k x h = h
  keeps_problem_by (Some name) None b k x h = cc
  keeps_problem_by (Some name) (Some given) b k x h = ap (problem_by (Some name)) (k given refl) ∙ h

  keeps_problem_body : (f : Trees) → Keeps (problem_body small f) (problem_body large f)
  unfolding problem_body
  keeps_problem_body none x h = cc
  keeps_problem_body (word w f) x h = cc
  keeps_problem_body (list k f) x h =
      keeps_problem_by (header_of problem_word k) (problem_sections_of small no_problem_sections f) (problem_sections_of large no_problem_sections f)
      (keeps_problem_sections no_problem_sections f) x h

  keeps_problem_in : (f : Trees) → Keeps (problem_in small f) (problem_in large f)
  unfolding problem_in
  keeps_problem_in f x h =
      keeps_then (problem_body small) (problem_body large) (behind_word define_word f) (behind_word define_word f) keeps_problem_body (λ y e. e) x h

  keeps_problem : (f : Trees) → Keeps (problem_syntax small f) (problem_syntax large f)
  unfolding problem_syntax
  keeps_problem none x h = cc
  keeps_problem (word w f) x h = cc
  keeps_problem (list k f) x h = keeps_ended f (problem_in small k) (problem_in large k) (keeps_problem_in k) x h

-- a reserved word heads nothing in the smallest language
none_reserved : (p : Context) (w : List ℕ) (opens : Bool) → reserved_head (scope_at Strips p) w opens ≡ head.Reserved
none_reserved p w opens = by (is_same_word w equals_word)
  where
    by : (equals : Bool) → (if equals then head.Reserved else head.Reserved) ≡ head.Reserved
    by true = refl
    by false = refl

-- before no list a name names a predicate, also where numbers can be changed
named_alike : (p : Context) (w : List ℕ) → name_head (scope_at Ipc p) w false ≡ head.Atom
named_alike p w = by (has_changes p) (is_change w) (change_head p w)
  where
    by : (changes change : Bool) (found : ListHead) → (if (true && changes) && (change && false) then found else head.Atom) ≡ head.Atom
    by true true found = refl
    by true false found = refl
    by false change found = refl

strips_head : (found : FormulaHead) (p : Context) (w : List ℕ) (f : Trees) (opens : Bool) → begins_with_list f ≡ opens →
    Alike f (head_by found (scope_at Strips p) w opens) (head_by found (scope_at Ipc p) w opens)
strips_head formula.And p w f opens e = inl refl
strips_head formula.Not p w f opens e = inl refl
strips_head formula.Reserved p w f opens e = inr (inl (none_reserved p w opens))
strips_head formula.Name p w f true e = inr (inr (refl, e))
strips_head formula.Name p w f false e = inl (sym (named_alike p w))
strips_head formula.Other p w f opens e = inl refl

strips_alike : HeadsAlike Strips Ipc
unfolding list_head
strips_alike p w f = strips_head (formula_head w) p w f (begins_with_list f) refl

strips_headings : (w : List ℕ) → Keeps (domain_section Strips w) (domain_section Ipc w)
unfolding domain_section
strips_headings w =
    keeps_else (is_same_word w requirements_keyword) _ _ _ (
    keeps_else (is_same_word w types_keyword) _ _ _ (
    keeps_else (is_same_word w constants_keyword) _ _ _ (
    keeps_else (is_same_word w predicates_keyword) _ _ _ (
    keeps_else (is_same_word w action_keyword) _ _ _ (λ x h. cc)))))

strips_connect : has_connectives Strips ≡ true → has_connectives Ipc ≡ true
strips_connect h = h

ipc_head : (found : FormulaHead) (p : Context) (w : List ℕ) (f : Trees) (opens : Bool) →
    Alike f (head_by found (scope_at Ipc p) w opens) (head_by found (scope_at Adl p) w opens)
ipc_head formula.And p w f opens = inl refl
ipc_head formula.Not p w f opens = inl refl
ipc_head formula.Reserved p w f opens = by (is_same_word w equals_word)
  where
    by : (equals : Bool) → Alike f (if equals then equals_head p opens else head.Reserved) (if equals then equals_head p opens else connective_head p w)
    by true = inl refl
    by false = inr (inl refl)
ipc_head formula.Name p w f opens = inl refl
ipc_head formula.Other p w f opens = inl refl

ipc_alike : HeadsAlike Ipc Adl
unfolding list_head
ipc_alike p w f = ipc_head (formula_head w) p w f (begins_with_list f)

ipc_headings : (w : List ℕ) → Keeps (domain_section Ipc w) (domain_section Adl w)
unfolding domain_section
ipc_headings w x h = h

ipc_connect : has_connectives Ipc ≡ true → has_connectives Adl ≡ true
ipc_connect h = refl

-- a domain of the smaller language has no functions: no section gives any
mapped : {A B : Type 0} (P : B → Type 0) (f : A → B) (o : Option A) (x : B) → ((y : A) → P (f y)) → option_map f o ≡ Some x → P x
mapped P f None x all h = cc
mapped P f (Some y) x all h = let e : f y ≡ x = cc in subst P e (all y)

guarded : {A : Type 0} (test : Bool) (o : Option A) (x : A) → guard test o ≡ Some x → o ≡ Some x
unfolding guard
guarded true o x h = h
guarded false o x h = cc

-- no keyword heads a section of functions in the smaller language
no_functions_headed : (w : List ℕ) → domain_section Strips w ≡ Some section.Functions → ⊥
unfolding domain_section
no_functions_headed w h =
    by (is_same_word w requirements_keyword) (is_same_word w types_keyword) (is_same_word w constants_keyword) (is_same_word w predicates_keyword)
    (is_same_word w action_keyword) h
  where
    by : (r t c p a : Bool) →
        (if r then Some section.Requirements else (if t then Some section.Types else (if c then Some section.Constants else (if p then Some section.Predicates
        else (if a then Some section.Action else None))))) ≡ Some section.Functions → ⊥
    by true t c p a h = cc
    by false true c p a h = cc
    by false false true p a h = cc
    by false false false true a h = cc
    by false false false false true h = cc
    by false false false false false h = cc

section_by_none : (headed : DomainSection) (given x : DomainSections) (f : Trees) → (headed ≡ section.Functions → ⊥) → given.functions ≡ None →
    domain_section_by Strips headed given f ≡ Some x → x.functions ≡ None
unfolding domain_section_by
section_by_none section.Requirements given x f other lacks h = mapped (λ s. s.functions ≡ None) _ (keywords_of f) x (λ y. lacks) h
section_by_none section.Types given x f other lacks h = mapped (λ s. s.functions ≡ None) (with_types given) (typed_names [] f) x (λ y. lacks) h
section_by_none section.Constants given x f other lacks h = mapped (λ s. s.functions ≡ None) (with_constants given) (typed_names [] f) x (λ y. lacks) h
section_by_none section.Predicates given x f other lacks h = mapped (λ s. s.functions ≡ None) (with_predicates given) (lists_of predicate_in f) x (λ y. lacks) h
section_by_none section.Functions given x f other lacks h = absurd (other refl)
section_by_none section.Action given x f other lacks h = mapped (λ s. s.functions ≡ None) (with_action given) (action_of Strips f) x (λ y. lacks) h

headed_none : (headed : Option DomainSection) (given x : DomainSections) (f : Trees) → (headed ≡ Some section.Functions → ⊥) → given.functions ≡ None →
    domain_section_headed Strips headed given f ≡ Some x → x.functions ≡ None
unfolding domain_section_headed
headed_none None given x f other lacks h = cc
headed_none (Some headed) given x f other lacks h =
    section_by_none headed given x f (λ e. other (ap Some e)) lacks
    (guarded (not (is_domain_section_given headed given)) (domain_section_by Strips headed given f) x h)

section_none : (given x : DomainSections) (f : Trees) → given.functions ≡ None → domain_section_in Strips given f ≡ Some x → x.functions ≡ None
unfolding domain_section_in
section_none given x none lacks h = cc
section_none given x (word w f) lacks h = headed_none (domain_section Strips w) given x f (no_functions_headed w) lacks h
section_none given x (list k f) lacks h = cc

sections_none : (given x : DomainSections) (f : Trees) → given.functions ≡ None → domain_sections_of Strips given f ≡ Some x → x.functions ≡ None
unfolding domain_sections_of
sections_none given x none lacks h = let e : given ≡ x = cc in subst (λ s. s.functions ≡ None) e lacks
sections_none given x (word w f) lacks h = cc
sections_none given x (list k f) lacks h =
    by (domain_section_in Strips given k) (λ more. section_none given more k lacks) (λ more. sections_none more x f) h
  where
    by : (read : Option DomainSections) → ((more : DomainSections) → read ≡ Some more → more.functions ≡ None) →
        ((more : DomainSections) → more.functions ≡ None → domain_sections_of Strips more f ≡ Some x → x.functions ≡ None) →
        option_and_then (λ more. domain_sections_of Strips more f) read ≡ Some x → x.functions ≡ None
    by None each behind h = cc
    by (Some more) each behind h = behind more (each more refl) h

form_none : (name : Option (List ℕ)) (read : Option DomainSections) (x : DomainForm) → ((given : DomainSections) → read ≡ Some given → given.functions ≡ None) →
    domain_by name read ≡ Some x → x.functions ≡ []
unfolding domain_by domain_form
form_none None read x lacks h = cc
form_none (Some name) None x lacks h = cc
form_none (Some name) (Some given) x lacks h =
    let e : domain_form name given ≡ x = cc in
    subst (λ d. d.functions ≡ []) e (ap (λ o. unwrap_or o []) (lacks given refl))

body_none : (f : Trees) (x : DomainForm) → domain_body Strips f ≡ Some x → x.functions ≡ []
unfolding domain_body no_domain_sections
body_none none x h = cc
body_none (word w f) x h = cc
body_none (list k f) x h =
    form_none (header_of domain_word k) (domain_sections_of Strips no_domain_sections f) x (λ given e. sections_none no_domain_sections given f refl e) h

domain_none : (f : Trees) (x : DomainForm) → domain_syntax Strips f ≡ Some x → x.functions ≡ []
unfolding domain_syntax domain_in ended
domain_none none x h = cc
domain_none (word w f) x h = cc
domain_none (list k none) x h = by (behind_word define_word k) h
  where
    by : (behind : Option Trees) → option_and_then (domain_body Strips) behind ≡ Some x → x.functions ≡ []
    by None h = cc
    by (Some f) h = body_none f x h
domain_none (list k (word w f)) x h = cc
domain_none (list k (list j f)) x h = cc

pub domains_kept : AreDomainsKept
domains_kept f domain h = (keeps_domain Strips Ipc strips_alike strips_connect strips_headings f domain h, domain_none f domain h)

pub problems_kept : AreProblemsKept
problems_kept f problem h = keeps_problem Strips Ipc strips_alike strips_connect strips_headings f problem h

pub domains_kept_in_adl : AreDomainsKeptInAdl
domains_kept_in_adl f domain h = keeps_domain Ipc Adl ipc_alike ipc_connect ipc_headings f domain h

pub problems_kept_in_adl : AreProblemsKeptInAdl
problems_kept_in_adl f problem h = keeps_problem Ipc Adl ipc_alike ipc_connect ipc_headings f problem h

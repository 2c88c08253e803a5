-- How initial atoms and values are looked up one by one, and what comes of all of them.

use Rattle.std.proofs.Common.{◌≡◌, ℕ, true, false, List, [], ◌∷◌, Option, Some, None, inl, inr, refl, ap, sym, ◌∙◌}
use Rattle.std.specs.Option.{option_map, option_and_then}
use Rattle.pddl_syntax.specs.Initial.{HasTakenAll, given_all}
use Rattle.pddl_syntax.specs.Optional.{through}
use Rattle.pddl_syntax.specs.Syntax.{InitialForm, NameGroup, ProblemForm}
use Rattle.pddl_reader.specs.declared.resolution.initial.InitialState.{InitialState}
use Rattle.pddl_reader.specs.declared.resolution.initial.Lookup.{Lookup}
use Rattle.pddl_reader.specs.declared.resolution.initial.Lookup.TheVariants.{Waiting, Looking, Refused}
use Rattle.pddl_reader.specs.Domain.{DomainValue}
use Rattle.pddl_reader.specs.Lookups.{looking_over, looking_with, lookup_begun, lookup_given, whole_lookup, has_begun, looked_up}
use Rattle.pddl_reader.specs.Problem.{domain_extended, initial_of, no_initial, problem_of, problem_within, task_with, vocabulary_in, with_initial}

pub over_none : (domain : Option DomainValue) → domain ≡ None → looking_over domain ≡ Refused tt
unfolding looking_over
over_none domain h = rw h refl

pub over_some : (domain : Option DomainValue) (more : DomainValue) → domain ≡ Some more → looking_over domain ≡ Looking more no_initial
unfolding looking_over
over_some domain more h = rw h refl

pub begun_waiting : (domain : DomainValue) (size : ℕ) (groups : List NameGroup) → lookup_begun (Waiting domain size) groups ≡ looking_over (domain_extended domain groups)
unfolding lookup_begun
begun_waiting domain size groups = refl

pub begun_looking : (domain : DomainValue) (initial : InitialState) (groups : List NameGroup) → lookup_begun (Looking domain initial) groups ≡ Looking domain initial
unfolding lookup_begun
begun_looking domain initial groups = refl

pub begun_refused : (u : Unit {0}) (groups : List NameGroup) → lookup_begun (Refused u) groups ≡ Refused u
unfolding lookup_begun
begun_refused u groups = refl

pub given_waiting : (domain : DomainValue) (size : ℕ) (item : InitialForm) → lookup_given (Waiting domain size) item ≡ Waiting domain size
unfolding lookup_given
given_waiting domain size item = refl

pub given_none : (domain : DomainValue) (initial : InitialState) (item : InitialForm) → with_initial (vocabulary_in domain) initial item ≡ None →
    lookup_given (Looking domain initial) item ≡ Refused tt
unfolding lookup_given looking_with
given_none domain initial item h = rw h refl

pub given_some : (domain : DomainValue) (initial more : InitialState) (item : InitialForm) → with_initial (vocabulary_in domain) initial item ≡ Some more →
    lookup_given (Looking domain initial) item ≡ Looking domain more
unfolding lookup_given looking_with
given_some domain initial more item h = rw h refl

pub given_refused : (u : Unit {0}) (item : InitialForm) → lookup_given (Refused u) item ≡ Refused u
unfolding lookup_given
given_refused u item = refl

pub waits : (domain : DomainValue) (size : ℕ) → has_begun (Waiting domain size) ≡ false
unfolding has_begun
waits domain size = refl

pub looks : (domain : DomainValue) (initial : InitialState) → has_begun (Looking domain initial) ≡ true
unfolding has_begun
looks domain initial = refl

pub refuses : (u : Unit {0}) → has_begun (Refused u) ≡ true
unfolding has_begun
refuses u = refl

pub looked_looking : (domain : DomainValue) (initial : InitialState) → looked_up (Looking domain initial) ≡ Some (domain, initial)
unfolding looked_up
looked_looking domain initial = refl

pub looked_refused : (u : Unit {0}) → looked_up (Refused u) ≡ None
unfolding looked_up
looked_refused u = refl

pub ruleset lookup_steps = (
  over_none,
  over_some,
  begun_waiting,
  begun_looking,
  begun_refused,
  given_waiting,
  given_none,
  given_some,
  given_refused,
  waits,
  looks,
  refuses,
  looked_looking,
  looked_refused,
)

-- a domain beside what is given initially
abbrev beside : DomainValue → InitialState → DomainValue × InitialState
beside domain initial = (domain, initial)

refused_all : (u : Unit {0}) (items : List InitialForm) → given_all lookup_given (Refused u) items ≡ Refused u
unfolding lookup_given
refused_all u [] = refl
refused_all u (item ∷ items) = refused_all u items

looking_all : (domain : DomainValue) (initial : InitialState) (items : List InitialForm) →
    looked_up (given_all lookup_given (Looking domain initial) items) ≡ option_map (beside domain) (through (with_initial (vocabulary_in domain)) initial items)
unfolding lookup_given looking_with looked_up through
looking_all domain initial [] = refl
looking_all domain initial (item ∷ items) = by (with_initial (vocabulary_in domain) initial item) (λ s. looking_all domain s items)
  where
    by : (next : Option InitialState) →
        ((s : InitialState) → looked_up (given_all lookup_given (Looking domain s) items) ≡ option_map (beside domain) (through (with_initial (vocabulary_in domain)) s items)) →
        looked_up (given_all lookup_given (looking_with domain next) items)
        ≡ option_map (beside domain) (option_and_then (λ s. through (with_initial (vocabulary_in domain)) s items) next)
    by None rest = ap looked_up (refused_all tt items)
    by (Some s) rest = rest s

looking_begun : (domain : DomainValue) (initial : InitialState) (items : List InitialForm) → has_begun (given_all lookup_given (Looking domain initial) items) ≡ true
unfolding lookup_given looking_with has_begun
looking_begun domain initial [] = refl
looking_begun domain initial (item ∷ items) = by (with_initial (vocabulary_in domain) initial item) (λ s. looking_begun domain s items)
  where
    by : (next : Option InitialState) → ((s : InitialState) → has_begun (given_all lookup_given (Looking domain s) items) ≡ true) →
        has_begun (given_all lookup_given (looking_with domain next) items) ≡ true
    by None rest = ap has_begun (refused_all tt items)
    by (Some s) rest = rest s

-- a look-up that has the objects still has them after any items
pub begun_stays : (lookup : Lookup) (items : List InitialForm) → has_begun lookup ≡ true → has_begun (given_all lookup_given lookup items) ≡ true
unfolding has_begun
begun_stays (Waiting domain size) items h = cc
begun_stays (Looking domain initial) items h = looking_begun domain initial items
begun_stays (Refused u) items h = ap has_begun (refused_all u items)

-- with objects, a look-up has begun
pub begun_so : (lookup : Lookup) (groups : List NameGroup) → has_begun (lookup_begun lookup groups) ≡ true
unfolding has_begun lookup_begun looking_over
begun_so (Waiting domain size) groups = by (domain_extended domain groups)
  where
    by : (found : Option DomainValue) → has_begun (looking_over found) ≡ true
    by None = refl
    by (Some more) = refl
begun_so (Looking domain initial) groups = refl
begun_so (Refused u) groups = refl

module _ (domain : DomainValue) (size : ℕ) (problem : ProblemForm) where
  whole_begun : has_begun (whole_lookup domain size problem) ≡ true
  whole_begun = begun_stays (lookup_begun (Waiting domain size) problem.objects) problem.init (begun_so (Waiting domain size) problem.objects)

  -- a look-up that has begun has taken all
  pub all_given : (lookup : Lookup) → HasTakenAll lookup_begun lookup_given (Waiting domain size) lookup problem → has_begun lookup ≡ true → lookup ≡ whole_lookup domain size problem
  all_given lookup (inl same) h = let clash : false ≡ true = sym (waits domain size) ∙ sym (ap has_begun same) ∙ h in cc
  all_given lookup (inr whole) h = whole

  -- and one that has not has taken nothing
  none_given : (lookup : Lookup) → HasTakenAll lookup_begun lookup_given (Waiting domain size) lookup problem → has_begun lookup ≡ false → lookup ≡ Waiting domain size
  none_given lookup (inl same) h = same
  none_given lookup (inr whole) h = let clash : true ≡ false = sym whole_begun ∙ sym (ap has_begun whole) ∙ h in cc

  -- when the objects, and then the items, are taken, all is
  pub all_taken : (lookup begun after : Lookup) (groups : List NameGroup) (items : List InitialForm) →
      HasTakenAll lookup_begun lookup_given (Waiting domain size) lookup problem → has_begun lookup ≡ false → begun ≡ lookup_begun lookup groups →
      groups ≡ problem.objects → items ≡ problem.init → after ≡ given_all lookup_given begun items → after ≡ whole_lookup domain size problem
  all_taken lookup begun after groups items taken h b o i a = rw (a, b, none_given lookup taken h, o, i) refl

  unfoldable looked_in : Option DomainValue → Option (DomainValue × InitialState)
  looked_in None = None
  looked_in (Some more) = option_map (beside more) (initial_of (vocabulary_in more) problem.init)

  whole_looked : looked_up (whole_lookup domain size problem) ≡ looked_in (domain_extended domain problem.objects)
  unfolding lookup_begun looking_over looked_up looked_in initial_of
  whole_looked = by (domain_extended domain problem.objects)
    where
      by : (found : Option DomainValue) → looked_up (given_all lookup_given (looking_over found) problem.init) ≡ looked_in found
      by None = ap looked_up (refused_all tt problem.init)
      by (Some more) = looking_all more no_initial problem.init

  -- what is found is the domain with the objects, and what is given initially
  pub whole_found : (more : DomainValue) (initial : InitialState) → looked_up (whole_lookup domain size problem) ≡ Some (more, initial) →
      (domain_extended domain problem.objects ≡ Some more) × (initial_of (vocabulary_in more) problem.init ≡ Some initial)
  unfolding looked_in
  whole_found more initial h = by (domain_extended domain problem.objects) (sym whole_looked ∙ h)
    where
      by_initial : (found : DomainValue) (state : Option InitialState) → initial_of (vocabulary_in found) problem.init ≡ state →
          option_map (beside found) state ≡ Some (more, initial) → (Some found ≡ Some more) × (initial_of (vocabulary_in more) problem.init ≡ Some initial)
      by_initial found None is e = cc
      by_initial found (Some s) is e =
          let same : beside found s ≡ beside more initial = cc in
          let d : found ≡ more = ap (λ (p : DomainValue × InitialState). p.0) same in
          let i : s ≡ initial = ap (λ (p : DomainValue × InitialState). p.1) same in
          (ap Some d, ap (λ (v : DomainValue). initial_of (vocabulary_in v) problem.init) (sym d) ∙ is ∙ ap Some i)

      by : (found : Option DomainValue) → looked_in found ≡ Some (more, initial) → (found ≡ Some more) × (initial_of (vocabulary_in more) problem.init ≡ Some initial)
      by None e = cc
      by (Some found) e = by_initial found (initial_of (vocabulary_in found) problem.init) refl e

  -- where nothing is found, the problem stands for no task
  pub whole_refused : looked_up (whole_lookup domain size problem) ≡ None → problem_of domain problem ≡ None
  unfolding looked_in problem_of problem_within task_with
  whole_refused h = by (domain_extended domain problem.objects) (sym whole_looked ∙ h)
    where
      by_initial : (found : DomainValue) (state : Option InitialState) → initial_of (vocabulary_in found) problem.init ≡ state →
          option_map (beside found) state ≡ None → problem_within problem (Some found) ≡ None
      by_initial found None is e = rw is refl
      by_initial found (Some s) is e = cc

      by : (found : Option DomainValue) → looked_in found ≡ None → problem_within problem found ≡ None
      by None e = refl
      by (Some found) e = by_initial found (initial_of (vocabulary_in found) problem.init) refl e

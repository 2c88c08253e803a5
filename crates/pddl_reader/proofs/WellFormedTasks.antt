-- A task that the syntax of a problem stands for beside a domain is well formed.

use Rattle.std.proofs.Common.{◌≡◌, ℕ, ◌++◌, Bool, true, false, List, [], ◌∷◌, Option, Some, None, refl, subst}
use Rattle.std.proofs.lemmas.List.Folds.{list_all-append}
use Rattle.std.specs.List.{list_all}
use Rattle.std.specs.Option.{option_map}
use Rattle.formulas.specs.declared.atoms.Atom.{Atom}
use Rattle.formulas.specs.Tree.{Tree}
use Rattle.strips_task.specs.declared.tasks.TaskParts.{TaskParts}
use Rattle.strips_task.specs.WellFormed.{IsWellFormed, term_types, is_pattern, is_object, is_known, is_formula, is_effect, is_atom, is_action}
use Rattle.pddl_reader.specs.declared.resolution.initial.InitialState.{InitialState}
use Rattle.pddl_reader.specs.Conditions.{conditions_of}
use Rattle.pddl_reader.specs.Declarations.{Known, ground_of}
use Rattle.pddl_reader.specs.Domain.{DomainValue}
use Rattle.pddl_reader.specs.DomainTables.{IsDomain}
use Rattle.pddl_reader.specs.Functions.{with_value_of}
use Rattle.pddl_reader.specs.Problem.{vocabulary_in, no_initial, with_atom, given_atoms, given_values, with_initial, initial_of, task_named}
use Rattle.pddl_syntax.specs.Syntax.{FormulaForm, InitialForm, initial_atom, initial_value}
use Rattle.pddl_reader.proofs.FittingAtoms.{known_of, vocabulary_of, atom_fits}
use Rattle.pddl_reader.proofs.WellFormedDomains.{conditions_fit, outermost_scope}
use Rattle.pddl_reader.specs.Scopes.{outermost}
use Rattle.pddl_reader.specs.Variables.{no_variables}
use Rattle.pddl_reader.proofs.Through.{through_keeps}

-- the initial atoms fit
abbrev AreAtoms : TaskParts → InitialState → Type 0
AreAtoms task initial = list_all (is_atom task) initial.atoms ≡ true

atom_behind : (task : TaskParts) (atoms more : List Atom) (positive : Bool) (atom : Option Atom) → ((a : Atom) → atom ≡ Some a → is_atom task a ≡ true) →
    list_all (is_atom task) atoms ≡ true → with_atom atoms positive atom ≡ Some more → list_all (is_atom task) more ≡ true
unfolding with_atom
atom_behind task atoms more positive None fits all h = cc
atom_behind task atoms more true (Some a) fits all h =
    let P : List Atom → Type 0 = λ xs. list_all (is_atom task) xs ≡ true in
    let e : atoms ++ a ∷ [] ≡ more = cc in
    subst P e (rw (list_all-append (is_atom task) atoms (a ∷ []), all, fits a refl) refl)
atom_behind task atoms more false (Some a) fits all h =
    let P : List Atom → Type 0 = λ xs. list_all (is_atom task) xs ≡ true in
    let e : atoms ≡ more = cc in
    subst P e all

with_atoms : (task : TaskParts) (initial more : InitialState) (atoms : Option (List Atom)) →
    ((xs : List Atom) → atoms ≡ Some xs → list_all (is_atom task) xs ≡ true) → option_map (given_atoms initial) atoms ≡ Some more → AreAtoms task more
with_atoms task initial more None fits h = cc
with_atoms task initial more (Some xs) fits h =
    let P : InitialState → Type 0 = λ i. AreAtoms task i in
    let e : given_atoms initial xs ≡ more = cc in
    subst P e (fits xs refl)

with_values : (task : TaskParts) (initial more : InitialState) (values : Option (List (Atom × ℕ))) → AreAtoms task initial →
    option_map (given_values initial) values ≡ Some more → AreAtoms task more
with_values task initial more None all h = cc
with_values task initial more (Some values) all h =
    let P : InitialState → Type 0 = λ i. AreAtoms task i in
    let e : given_values initial values ≡ more = cc in
    subst P e all

item_fits : (task : TaskParts) (functions : Known) (initial : InitialState) (item : InitialForm) (more : InitialState) → AreAtoms task initial →
    with_initial (vocabulary_of task functions) initial item ≡ Some more → AreAtoms task more
unfolding with_initial
item_fits task functions initial (initial_atom positive atom) more all h =
    with_atoms task initial more (with_atom initial.atoms positive (ground_of (known_of task) atom))
    (λ xs e. atom_behind task initial.atoms xs positive (ground_of (known_of task) atom) (atom_fits task atom) all e) h
item_fits task functions initial (initial_value value) more all h =
    with_values task initial more (with_value_of functions initial.values value) all h

initial_fit : (task : TaskParts) (functions : Known) (items : List InitialForm) (initial : InitialState) →
    initial_of (vocabulary_of task functions) items ≡ Some initial → AreAtoms task initial
unfolding initial_of
initial_fit task functions items initial h =
    through_keeps (λ i. AreAtoms task i) (with_initial (vocabulary_of task functions)) (item_fits task functions) no_initial items initial refl h

-- what fits in a task of the domain fits whatever the problem gives
pub task_well_formed : (domain : DomainValue) (problem : List ℕ) (initial : List InitialForm) (form : FormulaForm) (init : InitialState) (goal : List Tree) →
    IsDomain domain → initial_of (vocabulary_in domain) initial ≡ Some init →
    conditions_of domain.types (vocabulary_in domain).atoms (outermost no_variables) form ≡ Some goal → IsWellFormed (task_named domain problem init.atoms goal)
unfolding is_action is_formula is_effect is_known is_object is_pattern term_types
task_well_formed domain problem initial form init goal d i g = record {
  types_form_a_tree = d.fits.types_form_a_tree;
  types_named = d.fits.types_named;
  few_types = d.fits.few_types;
  few_objects = d.fits.few_objects;
  few_predicates = d.fits.few_predicates;
  few_actions = d.fits.few_actions;
  objects_distinct = d.fits.objects_distinct;
  predicates_distinct = d.fits.predicates_distinct;
  actions_distinct = d.fits.actions_distinct;
  objects_typed = d.fits.objects_typed;
  predicates_typed = d.fits.predicates_typed;
  actions_fit = d.fits.actions_fit;
  initial_atoms_fit = initial_fit (task_named domain problem init.atoms goal) (vocabulary_in domain).functions initial init i;
  goal_fits = conditions_fit (task_named domain problem init.atoms goal) domain.types d.types_named (outermost no_variables) (outermost_scope no_variables refl) form goal g;
}

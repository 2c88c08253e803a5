-- What the initial atoms and values of a problem give, one equation for each case.

use Rattle.std.proofs.Common.{◌≡◌, ℕ, ◌++◌, Bool, true, false, List, [], ◌∷◌, Option, Some, None, Result, Ok, Err, IfOk, IsTrue, refl}
use Rattle.formulas.specs.declared.atoms.Atom.{Atom}
use Rattle.strips_task.specs.declared.values.Given.TheVariants.{First, Again, Another}
use Rattle.strips_task.specs.Values.{value_of, given_over, with_value}
use Rattle.pddl_syntax.specs.declared.fault.ReadFault.{ReadFault}
use Rattle.pddl_syntax.specs.Optional.{guard}
use Rattle.pddl_syntax.specs.Reading.{Puts}
use Rattle.pddl_syntax.specs.Syntax.{AtomForm, ValueForm, initial_atom, initial_value}
use Rattle.pddl_reader.specs.declared.resolution.initial.InitialState.{InitialState}
use Rattle.pddl_reader.specs.Declarations.{Known, ground_of}
use Rattle.pddl_reader.specs.Functions.{Vocabulary, is_not_another, value_given, with_value_of}
use Rattle.pddl_reader.specs.Problem.{with_atom, given_atoms, given_values, with_initial}

pub atom_unknown : (atoms : List Atom) (positive : Bool) (atom : Option Atom) → atom ≡ None → with_atom atoms positive atom ≡ None
unfolding with_atom
atom_unknown atoms positive atom h = rw h refl

pub atom_positive : (atoms : List Atom) (positive : Bool) (atom : Option Atom) (a : Atom) → atom ≡ Some a → positive ≡ true →
    with_atom atoms positive atom ≡ Some (atoms ++ a ∷ [])
unfolding with_atom
atom_positive atoms positive atom a h e = rw (h, e) refl

pub atom_negated : (atoms : List Atom) (positive : Bool) (atom : Option Atom) (a : Atom) → atom ≡ Some a → positive ≡ false →
    with_atom atoms positive atom ≡ Some atoms
unfolding with_atom
atom_negated atoms positive atom a h e = rw (h, e) refl

pub ruleset atom_steps = (atom_unknown, atom_positive, atom_negated)

pub value_unknown : (known : Known) (values : List (Atom × ℕ)) (form : ValueForm) → ground_of known form.function ≡ None → with_value_of known values form ≡ None
unfolding with_value_of value_given
value_unknown known values form h = rw h refl

pub value_first : (known : Known) (values : List (Atom × ℕ)) (form : ValueForm) (function : Atom) → ground_of known form.function ≡ Some function →
    given_over (value_of values function) form.value ≡ First → with_value_of known values form ≡ Some (with_value values function form.value)
unfolding with_value_of value_given guard is_not_another
value_first known values form function h e = rw (h, e) refl

pub value_again : (known : Known) (values : List (Atom × ℕ)) (form : ValueForm) (function : Atom) → ground_of known form.function ≡ Some function →
    given_over (value_of values function) form.value ≡ Again → with_value_of known values form ≡ Some (with_value values function form.value)
unfolding with_value_of value_given guard is_not_another
value_again known values form function h e = rw (h, e) refl

pub value_another : (known : Known) (values : List (Atom × ℕ)) (form : ValueForm) (function : Atom) → ground_of known form.function ≡ Some function →
    given_over (value_of values function) form.value ≡ Another → with_value_of known values form ≡ None
unfolding with_value_of value_given guard is_not_another
value_another known values form function h e = rw (h, e) refl

pub ruleset value_steps = (value_unknown, value_first, value_again, value_another)

no_atom : (v : Vocabulary) (initial : InitialState) (positive : Bool) (atom : AtomForm) →
    with_atom initial.atoms positive (ground_of v.atoms atom) ≡ None → with_initial v initial (initial_atom positive atom) ≡ None
unfolding with_initial
no_atom v initial positive atom h = rw h refl

one_atom : (v : Vocabulary) (initial : InitialState) (positive : Bool) (atom : AtomForm) (atoms : List Atom) →
    with_atom initial.atoms positive (ground_of v.atoms atom) ≡ Some atoms → with_initial v initial (initial_atom positive atom) ≡ Some (given_atoms initial atoms)
unfolding with_initial
one_atom v initial positive atom atoms h = rw h refl

no_value : (v : Vocabulary) (initial : InitialState) (value : ValueForm) → with_value_of v.functions initial.values value ≡ None →
    with_initial v initial (initial_value value) ≡ None
unfolding with_initial
no_value v initial value h = rw h refl

one_value : (v : Vocabulary) (initial : InitialState) (value : ValueForm) (values : List (Atom × ℕ)) →
    with_value_of v.functions initial.values value ≡ Some values → with_initial v initial (initial_value value) ≡ Some (given_values initial values)
unfolding with_initial
one_value v initial value values h = rw h refl

pub atom_put : (v : Vocabulary) (initial : InitialState) (positive : Bool) (atom : AtomForm) (answer : Result (Unit {0}) ReadFault) (atoms : List Atom) →
    Puts answer (with_atom initial.atoms positive (ground_of v.atoms atom)) atoms →
    Puts answer (with_initial v initial (initial_atom positive atom)) (given_atoms initial atoms)
atom_put v initial positive atom (Ok _) atoms h = one_atom v initial positive atom atoms h
atom_put v initial positive atom (Err e) atoms h = (h.0, λ k. no_atom v initial positive atom (h.1 k))

pub value_put : (v : Vocabulary) (initial : InitialState) (value : ValueForm) (answer : Result (Unit {0}) ReadFault) (values : List (Atom × ℕ)) →
    Puts answer (with_value_of v.functions initial.values value) values →
    Puts answer (with_initial v initial (initial_value value)) (given_values initial values)
value_put v initial value (Ok _) values h = one_value v initial value values h
value_put v initial value (Err e) values h = (h.0, λ k. no_value v initial value (h.1 k))

pub row_put : {E : Type 0} (v : Vocabulary) (initial : InitialState) (form : AtomForm) (answer : Result Bool E) (atoms : List Atom) →
    IfOk answer (λ is_put. IsTrue is_put → with_atom initial.atoms true (ground_of v.atoms form) ≡ Some atoms) →
    IfOk answer (λ is_put. IsTrue is_put → with_initial v initial (initial_atom true form) ≡ Some (given_atoms initial atoms))
row_put v initial form (Ok is_put) atoms h = λ k. one_atom v initial true form atoms (h k)
row_put v initial form (Err e) atoms h = h

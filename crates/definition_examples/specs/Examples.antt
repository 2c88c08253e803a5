-- What the definitions answer to small texts: from the bytes of a domain, a problem and a file of plans to the bytes of the report.

use Rattle.std.specs.Prelude.{◌≡◌, ℕ, List, [], ◌∷◌, ◌++◌, Some, None, codes}
use Rattle.pddl_syntax.specs.declared.dialect.Dialect.{Dialect}
use Rattle.pddl_syntax.specs.declared.dialect.Dialect.TheVariants.{Strips, Ipc, Adl}
use Rattle.judge_engine.specs.Answer.{answer_in}

-- in a dialect, this is the report on a domain, a problem and one file of plans, which is called `plan`
abbrev pub Reports : Dialect → List ℕ → List ℕ → List ℕ → List ℕ → Type 0
Reports dialect domain problem plans lines = answer_in dialect domain problem (record { name = codes "plan"; bytes = plans } ∷ []) ≡ Some lines

-- in a dialect, a domain and a problem have no report
abbrev pub IsRefused : Dialect → List ℕ → List ℕ → Type 0
IsRefused dialect domain problem = answer_in dialect domain problem [] ≡ None

-- a lamp that is lit once
abbrev pub lamp : List ℕ
lamp = codes "(define (domain lamp) (:predicates (dark) (lit)) (:action light :parameters () :precondition (dark) :effect (and (lit) (not (dark)))))"

-- the lamp is dark, and is to be lit
abbrev pub dark : List ℕ
dark = codes "(define (problem lamp-1) (:domain lamp) (:init (dark)) (:goal (lit)))"

-- an action that deletes and adds the same atom
abbrev pub twice : List ℕ
twice = codes "(define (domain twice) (:predicates (p)) (:action a :parameters () :precondition (p) :effect (and (p) (not (p)))))"

-- the atom is true, and is to stay true
abbrev pub once : List ℕ
once = codes "(define (problem twice-1) (:domain twice) (:init (p)) (:goal (p)))"

-- a goal with a negated atom
abbrev pub unlit : List ℕ
unlit = codes "(define (problem lamp-2) (:domain lamp) (:init (dark)) (:goal (and (not (dark)) (lit) (not (lit)))))"

-- types in a ring
abbrev pub ring : List ℕ
ring = codes "(define (domain ring) (:types a - b b - a) (:predicates (p)))"

-- a problem for types in a ring
abbrev pub of_ring : List ℕ
of_ring = codes "(define (problem ring-1) (:domain ring) (:init) (:goal (p)))"

-- an argument that may be of two types, for a variable that may be of some types
abbrev pub either_for : List ℕ → List ℕ
either_for types =
    codes "(define (domain pens) (:types ink lead wax) (:predicates (dry ?x - (either ink lead))) (:action use :parameters (?x - (either "
    ++ types ++ codes ")) :precondition () :effect (dry ?x)))"

-- a pen of each type
abbrev pub pens : List ℕ
pens = codes "(define (problem pens-1) (:domain pens) (:objects a - ink b - lead c - wax) (:init) (:goal (dry b)))"

-- roads whose lengths are costs, one of which has no value
abbrev pub roads : List ℕ
roads = codes "(define (domain roads) (:predicates (at ?x)) (:functions (road ?x ?y) (total-cost)) (:action go :parameters (?x ?y) :precondition (and (at ?x) (not (= ?x ?y))) :effect (and (not (at ?x)) (at ?y) (increase (total-cost) (road ?x ?y)))))"

-- a trip from x to z
abbrev pub trip : List ℕ
trip = codes "(define (problem trip) (:domain roads) (:objects x y z) (:init (at x) (= (road x y) 2) (= (road y z) 0.25)) (:goal (at z)) (:metric minimize (total-cost)))"

-- conditional effects of a step: one needs what another deletes, and an atom is deleted and added
abbrev pub turn : List ℕ
turn = codes "(define (domain turn) (:predicates (p) (q) (r)) (:action a :parameters () :precondition () :effect (and (when (p) (not (p))) (when (p) (q)) (when (p) (not (r))) (when (not (q)) (r)))))"

-- what the step leads to, however often it is taken
abbrev pub turned : List ℕ
turned = codes "(define (problem turn-1) (:domain turn) (:init (p)) (:goal (and (not (p)) (q) (r))))"

-- quantifiers over a type with two objects and over one without
abbrev pub crates : List ℕ
crates = codes "(define (domain crates) (:types box none) (:predicates (full ?x) (ready)) (:action fill :parameters (?x - box) :precondition () :effect (full ?x)) (:action check :parameters () :precondition (and (forall (?x - box) (full ?x)) (forall (?x - none) (full ?x)) (not (exists (?x - none) (full ?x)))) :effect (ready)))"

-- two boxes, one of them full
abbrev pub boxes : List ℕ
boxes = codes "(define (problem crates-1) (:domain crates) (:objects a b - box) (:init (full a)) (:goal (ready)))"

-- what is answered
pub record AreExamples : Type 0 where
  pub a_valid_plan : Reports Strips lamp dark (codes "(light)\n")
      (codes "domain lamp problem lamp-1\nplan 1 valid 1\nplan plans 1 valid 1 best 1\n")
  pub a_step_that_is_not_applicable : Reports Strips lamp dark (codes "(light)\n(light)\n")
      (codes "domain lamp problem lamp-1\nplan 1 fails at 2 (light): missing (dark)\nplan plans 1 valid 0 best -\n")
  pub a_plan_without_steps : Reports Strips lamp dark []
      (codes "domain lamp problem lamp-1\nplan 1 goal missing (lit)\nplan plans 1 valid 0 best -\n")
  pub two_plans_in_one_file : Reports Strips lamp dark (codes "; first\n(LIGHT)\n---\n(dim)\n")
      (codes "domain lamp problem lamp-1\nplan 1 valid 1\nplan 2 fails at 1 (dim): unknown action\nplan plans 2 valid 1 best 1\n")
  pub an_atom_deleted_and_added_is_true : Reports Strips twice once (codes "(a)(a)")
      (codes "domain twice problem twice-1\nplan 1 valid 2\nplan plans 1 valid 1 best 2\n")
  pub an_unmet_negated_goal : Reports Strips lamp unlit (codes "(light)\n---\n")
      (codes "domain lamp problem lamp-2\nplan 1 goal missing (not (lit))\nplan 2 goal missing (not (dark)) (lit)\nplan plans 2 valid 0 best -\n")
  pub a_stamp_that_falls : Reports Strips lamp dark (codes "10: (light)\n9: (light)\n---\n9: (light)\n10: (light)\n")
      (codes "domain lamp problem lamp-1\nplan 1 unreadable line 2\nplan 2 fails at 2 (light): missing (dark)\nplan plans 2 valid 0 best -\n")
  pub types_in_a_ring : IsRefused Strips ring of_ring
  pub either_on_both_sides : Reports Strips (either_for (codes "lead ink")) pens (codes "(use b)\n---\n(use c)\n")
      (codes "domain pens problem pens-1\nplan 1 valid 1\nplan 2 fails at 1 (use c): c has the wrong type\nplan plans 2 valid 1 best 1\n")
  pub either_with_a_type_too_many : IsRefused Strips (either_for (codes "lead wax")) pens
  pub costs_and_a_cost_without_a_value : Reports Ipc roads trip (codes "(go x y)(go y z)\n---\n(go x z)\n---\n(go x x)\n")
      (codes "domain roads problem trip\nplan 1 valid 2 cost 2.25\nplan 2 valid 1 cost -\nplan 3 fails at 1 (go x x): missing (not (= x x))\nplan plans 3 valid 2 best 1 cost 2.25\n")
  pub conditions_of_effects_are_about_the_state_before : Reports Adl turn turned (codes "(a)\n---\n(a)\n(a)\n")
      (codes "domain turn problem turn-1\nplan 1 valid 1\nplan 2 valid 2\nplan plans 2 valid 2 best 1\n")
  pub quantifiers : Reports Adl crates boxes (codes "(fill b)\n(check)\n---\n(check)\n")
      (codes "domain crates problem crates-1\nplan 1 valid 2\nplan 2 fails at 1 (check): missing (forall (?x - box) (full ?x))\nplan plans 2 valid 1 best 2\n")
  pub a_piece_of_another_dialect : IsRefused Ipc crates boxes

-- The task that a domain and the syntax of a problem stand for (PDDL 2.1, Fox and Long 2003, section 2).

use Rattle.std.specs.Prelude.{ℕ, Bool, true, false, List, [], ◌∷◌, ◌++◌, Option, Some, None}
use Rattle.std.specs.Option.{option_map}
use Rattle.pddl_words.specs.Words.{folded}
use Rattle.formulas.specs.declared.atoms.Atom.{Atom}
use Rattle.formulas.specs.Tree.{Tree}
use Rattle.strips_task.specs.declared.tasks.TaskParts.{TaskParts}
use Rattle.strips_task.specs.declared.costs.CostedTask.{CostedTask}
use Rattle.pddl_reader.specs.Scopes.{outermost}
use Rattle.pddl_reader.specs.Variables.{no_variables}
use Rattle.pddl_syntax.specs.Optional.{through}
use Rattle.pddl_reader.specs.declared.resolution.initial.InitialState.{InitialState}
use Rattle.pddl_reader.specs.Conditions.{conditions_of}
use Rattle.pddl_reader.specs.Declarations.{ground_of}
use Rattle.pddl_reader.specs.Domain.{DomainValue, type_table}
use Rattle.pddl_reader.specs.Functions.{Vocabulary, vocabulary, costs_of, with_value_of}
use Rattle.pddl_reader.specs.Objects.{Objects, objects_from}
use Rattle.pddl_syntax.specs.Syntax.{InitialForm, initial_atom, initial_value, NameGroup, ProblemForm}

-- nothing is given initially
abbrev pub no_initial : InitialState
no_initial = record { atoms = []; values = [] }

-- the initial atoms with one more, if there is one; a negated one adds nothing
unfoldable pub with_atom : List Atom → Bool → Option Atom → Option (List Atom)
with_atom atoms positive None = None
with_atom atoms true (Some atom) = Some (atoms ++ atom ∷ [])
with_atom atoms false (Some atom) = Some atoms

-- what is given initially, with these atoms
abbrev pub given_atoms : InitialState → List Atom → InitialState
given_atoms initial atoms = record initial { atoms = atoms }

-- what is given initially, with these values of functions
abbrev pub given_values : InitialState → List (Atom × ℕ) → InitialState
given_values initial values = record initial { values = values }

-- what is given initially, with one more item: an atom, or the value of a function
unfoldable pub with_initial : Vocabulary → InitialState → InitialForm → Option InitialState
with_initial vocabulary initial (initial_atom positive atom) =
    option_map (given_atoms initial) (with_atom initial.atoms positive (ground_of vocabulary.atoms atom))
with_initial vocabulary initial (initial_value value) = option_map (given_values initial) (with_value_of vocabulary.functions initial.values value)

-- what the initial atoms and values give, in text order
unfoldable pub initial_of : Vocabulary → List InitialForm → Option InitialState
initial_of vocabulary items = through (with_initial vocabulary) no_initial items

-- a task of the domain, with the folded name of the problem
abbrev pub task_named : DomainValue → List ℕ → List Atom → List Tree → TaskParts
task_named domain problem init goal = record {
  domain = domain.name;
  problem = problem;
  types = type_table domain.types;
  parents = domain.parents;
  objects = domain.objects;
  preds = domain.predicates;
  actions = domain.actions;
  init = init;
  goal = goal;
}

-- a task of the domain
abbrev pub task_value : DomainValue → List ℕ → List Atom → List Tree → TaskParts
task_value domain problem init goal = task_named domain (folded problem) init goal

-- a task of the domain, and what it says about costs
abbrev pub costed_value : DomainValue → List ℕ → InitialState → List Tree → CostedTask
costed_value domain problem initial goal = record {
  task = task_value domain problem initial.atoms goal;
  costs = costs_of domain.functions domain.increases initial.values;
}

-- the task with what is given initially and this goal
unfoldable pub task_with : DomainValue → List ℕ → Option InitialState → Option (List Tree) → Option CostedTask
task_with domain problem None goal = None
task_with domain problem (Some initial) goal = option_map (costed_value domain problem initial) goal

-- the domain with other objects
abbrev pub domain_over : DomainValue → Objects → DomainValue
domain_over domain objects = record domain { objects = objects }

-- the domain with the objects of a problem after its constants
unfoldable pub domain_extended : DomainValue → List NameGroup → Option DomainValue
domain_extended domain groups = option_map (domain_over domain) (objects_from domain.types domain.objects groups)

-- what the initial atoms, the values and the goal of a problem may name
abbrev pub vocabulary_in : DomainValue → Vocabulary
vocabulary_in domain = vocabulary domain.parents domain.objects domain.predicates domain.functions

-- the task of a problem and a domain that already has the problem's objects
unfoldable pub problem_within : ProblemForm → Option DomainValue → Option CostedTask
problem_within problem None = None
problem_within problem (Some domain) =
    task_with domain problem.name (initial_of (vocabulary_in domain) problem.init)
    (conditions_of domain.types (vocabulary_in domain).atoms (outermost no_variables) problem.goal)

-- the task that the syntax stands for, if its objects are declared correctly and all names that it uses are declared
unfoldable pub problem_of : DomainValue → ProblemForm → Option CostedTask
problem_of domain problem = problem_within problem (domain_extended domain problem.objects)

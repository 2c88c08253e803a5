-- How the initial atoms and values of a problem are looked up, one by one.

use Rattle.std.specs.Prelude.{ℕ, Bool, true, false, Option, Some, None, List}
use Rattle.pddl_syntax.specs.Initial.{given_all}
use Rattle.pddl_syntax.specs.Syntax.{InitialForm, NameGroup, ProblemForm}
use Rattle.pddl_reader.specs.declared.resolution.initial.InitialState.{InitialState}
use Rattle.pddl_reader.specs.declared.resolution.initial.Lookup.{Lookup}
use Rattle.pddl_reader.specs.declared.resolution.initial.Lookup.TheVariants.{Waiting, Looking, Refused}
use Rattle.pddl_reader.specs.Domain.{DomainValue}
use Rattle.pddl_reader.specs.Problem.{domain_extended, no_initial, vocabulary_in, with_initial}

-- a look-up that begins over a domain with objects, if they are declared correctly
unfoldable pub looking_over : Option DomainValue → Lookup
looking_over None = Refused tt
looking_over (Some domain) = Looking domain no_initial

-- a look-up with this given initially, if it is declared correctly
unfoldable pub looking_with : DomainValue → Option InitialState → Lookup
looking_with domain None = Refused tt
looking_with domain (Some initial) = Looking domain initial

-- a look-up that begins with objects
unfoldable pub lookup_begun : Lookup → List NameGroup → Lookup
lookup_begun (Waiting domain size) groups = looking_over (domain_extended domain groups)
lookup_begun lookup groups = lookup

-- a look-up that is given an item more
unfoldable pub lookup_given : Lookup → InitialForm → Lookup
lookup_given (Looking domain initial) item = looking_with domain (with_initial (vocabulary_in domain) initial item)
lookup_given lookup item = lookup

-- a look-up of all that a problem gives; its size matters to no answer
abbrev pub whole_lookup : DomainValue → ℕ → ProblemForm → Lookup
whole_lookup domain size problem = given_all lookup_given (lookup_begun (Waiting domain size) problem.objects) problem.init

-- whether a look-up has the objects
unfoldable pub has_begun : Lookup → Bool
has_begun (Waiting domain size) = false
has_begun lookup = true

-- the domain with the objects, and what is given initially, if all of it is declared correctly
unfoldable pub looked_up : Lookup → Option (DomainValue × InitialState)
looked_up (Looking domain initial) = Some (domain, initial)
looked_up lookup = None

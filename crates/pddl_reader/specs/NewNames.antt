-- Names under which more may be declared.

use Rattle.std.specs.Prelude.{ℕ, Bool, true, false, ◌≡◌, List, Result, Ok, Err}
use Rattle.pddl_syntax.specs.declared.fault.ReadFault.{ReadFault}
use Rattle.pddl_syntax.specs.Reading.{Refuses}

-- gives the name, if it passes the test
abbrev pub GivesNew : Result (List ℕ) ReadFault → List ℕ → Bool → Type 0
GivesNew (Ok name) expected test = (name ≡ expected) × (test ≡ true)
GivesNew (Err e) expected test = Refuses e (test ≡ false)

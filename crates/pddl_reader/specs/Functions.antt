-- The functions of a domain, and the amounts and values that use them (PDDL 2.1, Fox and Long 2003, section 3). `total-cost` is the
-- function that effects may increase under the requirement `:action-costs` of the planning competitions; the limits are this validator's choice.

use Rattle.std.specs.Prelude.{ℕ, Bool, true, false, nat_lt, is_some, List, [], ◌∷◌, ◌++◌, length, Option, Some, None}
use Rattle.std.specs.Option.{option_map}
use Rattle.formulas.specs.declared.terms.Pattern.{Pattern}
use Rattle.formulas.specs.declared.atoms.Atom.{Atom}
use Rattle.strips_task.specs.Names.{number_named}
use Rattle.strips_task.specs.declared.amounts.Amount.{Amount}
use Rattle.strips_task.specs.declared.amounts.Amount.TheVariants.{Number, Function}
use Rattle.strips_task.specs.declared.costs.Costs.{Costs}
use Rattle.strips_task.specs.declared.values.Given.{Given}
use Rattle.strips_task.specs.declared.values.Given.TheVariants.{First, Again, Another}
use Rattle.strips_task.specs.Values.{value_of, given_over, with_value}
use Rattle.pddl_syntax.specs.Keywords.{total_cost_word}
use Rattle.pddl_syntax.specs.Optional.{guard}
use Rattle.pddl_syntax.specs.Syntax.{AmountForm, number_amount, function_amount, ValueForm}
use Rattle.pddl_reader.specs.Declarations.{Known, Predicates, pattern_of, ground_of}
use Rattle.pddl_reader.specs.Objects.{Objects}
use Rattle.pddl_reader.specs.Scopes.{Scope}

-- what effects, and initial atoms and values, may name: what atoms may, and functions, which are looked up like predicates
pub record Vocabulary : Type 0 where
  pub atoms : Known
  pub functions : Known

-- the vocabulary of these tables
abbrev pub vocabulary : List ℕ → Objects → Predicates → Predicates → Vocabulary
vocabulary parents objects predicates functions = record {
  atoms = record { parents = parents; objects = objects; predicates = predicates };
  functions = record { parents = parents; objects = objects; predicates = functions };
}

-- the number of `total-cost`, if it is declared
unfoldable pub total_cost_number : Predicates → Option ℕ
total_cost_number functions = number_named functions total_cost_word

-- whether plans have costs: `total-cost` is declared
unfoldable pub counts_costs : Predicates → Bool
counts_costs functions = is_some (total_cost_number functions)

-- the value of a function of parameters and constants, as an amount
abbrev pub amount_by : Pattern → Amount
amount_by function = Function function.pred function.terms

-- the amount that an increase names
unfoldable pub amount_meant : Known → Scope → AmountForm → Option Amount
amount_meant functions scope (number_amount number) = Some (Number number)
amount_meant functions scope (function_amount function) = option_map amount_by (pattern_of functions scope function)

-- the amounts with one more, if there is one
unfoldable pub amount_behind : List Amount → Option Amount → Option (List Amount)
amount_behind amounts None = None
amount_behind amounts (Some amount) = Some (amounts ++ amount ∷ [])

-- how many increases of the total cost an action may have
abbrev pub most_increases : ℕ
most_increases = 32

-- the increases of an action with one more, if `total-cost` is declared and there are fewer increases than the limit
unfoldable pub with_increase : Vocabulary → Scope → List Amount → AmountForm → Option (List Amount)
with_increase vocabulary scope increases amount =
    guard (nat_lt (length increases) most_increases)
    (guard (counts_costs vocabulary.functions.predicates) (amount_behind increases (amount_meant vocabulary.functions scope amount)))

-- whether a function has no other value yet
unfoldable pub is_not_another : Given → Bool
is_not_another First = true
is_not_another Again = true
is_not_another Another = false

-- the values with one for this ground function, if there is one and it has no value yet or the same one
unfoldable pub value_given : List (Atom × ℕ) → ℕ → Option Atom → Option (List (Atom × ℕ))
value_given values value None = None
value_given values value (Some function) = guard (is_not_another (given_over (value_of values function) value)) (Some (with_value values function value))

-- the values with one that is given initially
unfoldable pub with_value_of : Known → List (Atom × ℕ) → ValueForm → Option (List (Atom × ℕ))
with_value_of functions values form = value_given values form.value (ground_of functions form.function)

-- the costs of a task: what each action adds, the values of functions, and the number of `total-cost`
abbrev pub costs_with : List (List Amount) → List (Atom × ℕ) → ℕ → Costs
costs_with increases values number = record { total_cost = number; increases = increases; values = values }

-- what a task says about costs, if `total-cost` is declared
unfoldable pub costs_of : Predicates → List (List Amount) → List (Atom × ℕ) → Option Costs
costs_of functions increases values = option_map (costs_with increases values) (total_cost_number functions)

-- The limit of bindings: how many choices of objects the quantifiers of one action, or of the goal, may ask for together (this validator's choice).

use Rattle.std.specs.Prelude.{ℕ, ◌+◌, ◌*◌, ◌^◌, ◌-◌, min, nat_lt, List, [], ◌∷◌, ◌++◌, length, map, fold, if◌then◌else◌, Option, None, Some, Result, Ok, Err}
use Rattle.std.specs.List.{flat_map}
use Rattle.std.specs.Map.{values_of}
use Rattle.std.specs.Option.{option_map, option_or}
use Rattle.formulas.specs.declared.variables.VariableGroup.{VariableGroup}
use Rattle.formulas.specs.EffectTree.{EffectTree, change, joint, conditional, universal, EffectParts, no_effects, effect_part}
use Rattle.formulas.specs.Tree.{Tree, atom, equality, negation, conjunction, disjunction, implication, exists, for_all, Parts, no_parts, part}
use Rattle.formulas.specs.Variables.{variable_types}
use Rattle.strips_task.specs.declared.actions.Action.{Action}
use Rattle.strips_task.specs.declared.tasks.TaskParts.{TaskParts}
use Rattle.task_reader.specs.declared.bindings.Tally.{Tally}
use Rattle.task_reader.specs.declared.excess.Excess.{Excess}
use Rattle.task_reader.specs.declared.excess.Whose.{Whose}
use Rattle.task_reader.specs.declared.excess.Whose.TheVariants.{Action as OfAction, Goal as OfGoal}
use Rattle.task_reader.specs.Objects.{object_count}

-- the limit: as many as the largest text has bytes, so an action stands for no more than could be written out
abbrev pub most_bindings : ℕ
most_bindings = 16777216

-- a quantifier: how many bindings the quantifiers around it have, and how many objects each of its variables may stand for
pub record Quantifier : Type 0 where
  pub around : ℕ
  pub choices : List ℕ

-- a number times each of these
abbrev pub times : ℕ → List ℕ → ℕ
times around choices = fold (λ product count. product * count) around choices

-- the bindings of a quantifier: the product of how many objects each of its variables may stand for and of those of the quantifiers around it
abbrev pub bindings : Quantifier → ℕ
bindings quantifier = times quantifier.around quantifier.choices

module _ (task : TaskParts) where
  -- how many objects each of these variables may stand for
  abbrev pub choices_for : List VariableGroup → List ℕ
  choices_for groups = map (object_count task) (variable_types groups)

  -- a quantifier with these variables, inside quantifiers with so many bindings
  abbrev pub quantifier_of : ℕ → List VariableGroup → Quantifier
  quantifier_of around groups = record { around = around; choices = choices_for groups }

  abbrev mutual
    -- the quantifiers of a formula, an outer one before those inside it. Those around it have so many bindings
    pub quantifiers : ℕ → Tree → List Quantifier
    quantifiers around (atom positive pattern) = []
    quantifiers around (equality positive left right) = []
    quantifiers around (negation tree) = quantifiers around tree
    quantifiers around (conjunction parts) = part_quantifiers around parts
    quantifiers around (disjunction parts) = part_quantifiers around parts
    quantifiers around (implication premise conclusion) = quantifiers around premise ++ quantifiers around conclusion
    quantifiers around (exists groups body) = quantifier_of around groups ∷ quantifiers (bindings (quantifier_of around groups)) body
    quantifiers around (for_all groups body) = quantifier_of around groups ∷ quantifiers (bindings (quantifier_of around groups)) body

    -- the same for several formulas
    pub part_quantifiers : ℕ → Parts → List Quantifier
    part_quantifiers around no_parts = []
    part_quantifiers around (part tree parts) = quantifiers around tree ++ part_quantifiers around parts

  abbrev mutual
    -- the quantifiers of an effect, those of a condition before those of what depends on it
    pub effect_quantifiers : ℕ → EffectTree → List Quantifier
    effect_quantifiers around (change positive pattern) = []
    effect_quantifiers around (joint parts) = effect_part_quantifiers around parts
    effect_quantifiers around (conditional condition effect) = quantifiers around condition ++ effect_quantifiers around effect
    effect_quantifiers around (universal groups effect) = quantifier_of around groups ∷ effect_quantifiers (bindings (quantifier_of around groups)) effect

    -- the same for several effects
    pub effect_part_quantifiers : ℕ → EffectParts → List Quantifier
    effect_part_quantifiers around no_effects = []
    effect_part_quantifiers around (effect_part effect parts) = effect_quantifiers around effect ++ effect_part_quantifiers around parts

  -- the quantifiers of several conditions or effects, which no quantifier is around
  abbrev pub all_quantifiers : List Tree → List Quantifier
  all_quantifiers trees = flat_map (quantifiers 1) trees

  -- the quantifiers of an action: those of its precondition, and then those of its effects
  abbrev pub action_quantifiers : Action → List Quantifier
  action_quantifiers action = all_quantifiers action.pre ++ flat_map (effect_quantifiers 1) action.effects

-- how many bindings a quantifier adds to the sum: one without variables adds none
unfoldable pub added : ℕ → List ℕ → ℕ
added around [] = 0
added around (count ∷ counts) = times around (count ∷ counts)

-- the index of a quantifier's first variable with which its bindings, and those counted before it, are above the limit
unfoldable pub first_past : ℕ → ℕ → List ℕ → ℕ
first_past counted product [] = 0
first_past counted product (count ∷ counts) =
    if nat_lt most_bindings (counted + product * count) then 0 else first_past counted (product * count) counts + 1

-- indexes are counted as far as 64 bits reach, which is further than memory does
unfoldable pub in_64_bits : ℕ → ℕ
in_64_bits index = min index (2 ^ 64 - 1)

-- what is counted with one more quantifier, or the index of the variable with which the limit is passed
unfoldable pub with_quantifier : Tally → Quantifier → Result Tally ℕ
with_quantifier tally quantifier =
    if nat_lt most_bindings (tally.bindings + added quantifier.around quantifier.choices)
    then Err (in_64_bits (tally.variables + first_past tally.bindings quantifier.around quantifier.choices))
    else Ok (record {
      bindings = tally.bindings + added quantifier.around quantifier.choices;
      variables = in_64_bits (tally.variables + length quantifier.choices);
    })

-- the next step, unless the limit is passed already
unfoldable pub unless_past : Result Tally ℕ → (Tally → Result Tally ℕ) → Result Tally ℕ
unless_past (Ok tally) next = next tally
unless_past (Err variable) next = Err variable

-- what is counted with these quantifiers, or the index of the variable with which the first that passes the limit does
abbrev pub with_quantifiers : Tally → List Quantifier → Result Tally ℕ
with_quantifiers tally [] = Ok tally
with_quantifiers tally (quantifier ∷ quantifiers) = unless_past (with_quantifier tally quantifier) (λ next. with_quantifiers next quantifiers)

-- before any quantifier
abbrev pub nothing_counted : Tally
nothing_counted = record { bindings = 0; variables = 0 }

-- the index of the variable with which the limit is passed, if it is
unfoldable pub past : Result Tally ℕ → Option ℕ
past (Ok tally) = None
past (Err variable) = Some variable

-- the index, among all quantified variables, of the variable with which these quantifiers pass the limit, if they do
unfoldable pub variable_past : List Quantifier → Option ℕ
variable_past quantifiers = past (with_quantifiers nothing_counted quantifiers)

-- a variable of an action or of the goal
unfoldable pub excess_in : Whose → ℕ → Excess
excess_in whose variable = record { whose = whose; variable = variable }

module _ (task : TaskParts) where
  -- the first of these actions that passes the limit. They are numbered from a number on
  abbrev pub excess_from : ℕ → List Action → Option Excess
  excess_from number [] = None
  excess_from number (action ∷ actions) =
      option_or (option_map (excess_in (OfAction number)) (variable_past (action_quantifiers task action))) (excess_from (number + 1) actions)

  -- the variable with which the goal passes the limit
  unfoldable pub goal_excess : Option Excess
  goal_excess = option_map (excess_in OfGoal) (variable_past (all_quantifiers task task.goal))

  -- the first action that passes the limit, in the order of the text, or else the goal if it does, and with which variable
  unfoldable pub excess : Option Excess
  excess = option_or (excess_from 0 (values_of task.actions)) goal_excess

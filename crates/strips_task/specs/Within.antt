-- The numbers inside an action are those of its parameters.

use Rattle.std.specs.Prelude.{ℕ, ◌<◌, ◌≤◌, All, length}
use Rattle.formulas.specs.Within.{IsPatternWithin, IsWithin, IsEffectWithin}
use Rattle.strips_task.specs.declared.actions.Action.{Action}

-- an action has at most 32 parameters, of types that exist, and its formulas, patterns and effects use no others, and no variables but those of their own quantifiers
pub record IsActionWithin (types : ℕ) (action : Action) : Type 0 where
  pub few_params : length action.params ≤ 32
  pub params_known : All (All (λ type. type < types)) action.params
  pub pre_within : All (IsWithin (length action.params) 0) action.pre
  pub add_within : All (IsPatternWithin (length action.params) 0) action.add
  pub del_within : All (IsPatternWithin (length action.params) 0) action.del
  pub effects_within : All (IsEffectWithin (length action.params) 0) action.effects

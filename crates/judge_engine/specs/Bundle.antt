-- A planner's file.

use Rattle.std.specs.Prelude.{ℕ, List}

-- the planner's name, and the bytes of its file
pub record BundleValue : Type 0 where
  pub name : List ℕ
  pub bytes : List ℕ

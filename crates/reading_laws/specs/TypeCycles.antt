-- Types that form no tree have a cycle (PDDL 2.1, Fox and Long 2003, section 2: types form a tree below `object`).

use Rattle.std.specs.Prelude.{◌≡◌, ◌≢◌, ◌<◌, ◌⊎◌, All, ℕ, suc, List, length, slice_index}
use Rattle.strips_task.specs.Types.{IsTypeTree, ancestor}

-- a type other than `object` is above itself, one or more parents up
abbrev pub HasCycle : List ℕ → Type 0
HasCycle parents = (type : ℕ) × (steps : ℕ) × (type ≢ 0) × (type < length parents) × (ancestor parents (suc steps) type ≡ type)

-- if `object` is its own parent and every parent is a type, the parents form a tree or have a cycle
abbrev pub IsTreeOrCycle : Type 0
IsTreeOrCycle = (parents : List ℕ) → 0 < length parents → slice_index parents 0 ≡ 0 → All (λ parent. parent < length parents) parents →
    IsTypeTree parents ⊎ HasCycle parents

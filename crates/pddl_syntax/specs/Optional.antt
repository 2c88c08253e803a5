-- Values that may be missing, put together.

use Rattle.std.specs.Prelude.{Bool, List, [], ◌∷◌, ◌++◌, Option, Some, None, if◌then◌else◌}
use Rattle.std.specs.Option.{option_map, option_and_then}

-- the value if the test holds, and otherwise none
unfoldable pub guard : {A : Type 0} → Bool → Option A → Option A
guard test value = (if test then value else None)

-- a value followed by others, if all of them exist
unfoldable pub followed_by : {A : Type 0} → Option A → Option (List A) → Option (List A)
followed_by None others = None
followed_by (Some x) others = option_map (λ xs. x ∷ xs) others

-- two values, if both exist
unfoldable pub both : {A B : Type 0} → Option A → Option B → Option (A × B)
both None second = None
both (Some x) second = option_map (λ y. (x, y)) second

-- the values of a given list, followed by others, if those exist
unfoldable pub with_front : {A : Type 0} → List A → Option (List A) → Option (List A)
with_front front None = None
with_front front (Some others) = Some (front ++ others)

-- a state taken through a list, item by item, if each step is allowed
unfoldable pub through : {S X : Type 0} → (S → X → Option S) → S → List X → Option S
through step state [] = Some state
through step state (x ∷ xs) = option_and_then (λ next. through step next xs) (step state x)

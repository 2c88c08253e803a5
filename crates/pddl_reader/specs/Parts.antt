-- The parts and sections that are given.

use Rattle.std.specs.Prelude.{List, [], Option, Some, None}
use Rattle.std.specs.Global.{Vec}

-- what a part or a section holds: nothing if it is not given
unfoldable pub part_items : {A : Type 0} → Option (Vec A) → List A
part_items None = []
part_items (Some part) = part.items

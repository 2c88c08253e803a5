-- Lists of the objects of types.

use Rattle.std.specs.Prelude.{◌≡◌, ℕ, List, [], ◌∷◌, Some, slice_get}
use Rattle.std.specs.List.{range_with_len}
use Rattle.strips_task.specs.declared.tasks.TaskParts.{TaskParts}
use Rattle.strips_judge.specs.declared.candidates.Candidates.{Candidates}
use Rattle.strips_judge.specs.declared.candidates.Candidates.TheVariants.{Every, Listed}
use Rattle.strips_judge.specs.State.{objects_of}

-- the objects among which a variable's are looked for
abbrev pub candidates_of : Candidates → List ℕ
candidates_of (Every count) = range_with_len 0 count
candidates_of (Listed list) = list.now

-- the list with the number of a type has the objects that a variable of this type may stand for
abbrev pub AreLists : TaskParts → List (List ℕ) → Type 0
AreLists parts lists = (number : ℕ) (list : List ℕ) → slice_get lists number ≡ Some list → list ≡ objects_of parts (number ∷ [])

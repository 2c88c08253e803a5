-- Types that are above themselves: what the readers look for if the types of a domain form no tree.

use Rattle.std.specs.Prelude.{ℕ, Bool, false, ◌&&◌, nat_lt, List, slice_index, Option, Some, None}
use Rattle.std.specs.List.{list_any}
use Rattle.pddl_words.specs.Words.{folded}
use Rattle.strips_task.specs.Names.{number_named}
use Rattle.strips_task.specs.Types.{is_below}
use Rattle.pddl_syntax.specs.declared.dialect.Dialect.{Dialect}
use Rattle.pddl_syntax.specs.Syntax.{NameGroup}
use Rattle.pddl_reader.specs.TypeOrder.{TypeNames, counts_as_parent}

-- whether a type other than `object` is above its own parent, so that a chain of parents returns to it
unfoldable pub is_under_itself : List ℕ → ℕ → Bool
is_under_itself parents type = nat_lt 0 type && is_below parents (slice_index parents type) type

-- whether a type is above itself, if there is such a type
unfoldable pub numbers_cycle : List ℕ → Option ℕ → Bool
numbers_cycle parents None = false
numbers_cycle parents (Some type) = is_under_itself parents type

-- whether a word names a type under itself
unfoldable pub names_cycle : TypeNames → List ℕ → List ℕ → Bool
names_cycle names parents word = numbers_cycle parents (number_named names (folded word))

-- whether a group declares a type under itself
unfoldable pub declares_cycle : Dialect → TypeNames → List ℕ → NameGroup → Bool
declares_cycle dialect names parents group = counts_as_parent dialect (folded group.type) && list_any (names_cycle names parents) group.names

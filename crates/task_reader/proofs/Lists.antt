-- Lists from an index on.

use Rattle.std.proofs.Common.{◌≡◌, ℕ, zero, suc, ◌+◌, ◌<◌, List, [], ◌∷◌, ◌++◌, refl, sym, ap, ◌∙◌, length, map, drop, get_or, slice_get, Some, arith, drop-cons, add-one, length-append}
use Rattle.std.proofs.lemmas.List.{length-map}
use Rattle.formulas.specs.declared.variables.VariableGroup.{VariableGroup}
use Rattle.formulas.specs.Variables.{variable_types}
use Rattle.task_reader.specs.Capped.{repeated}

-- the item with an index, and those after it
pub left : {X : Type 0} (xs : List X) (i : ℕ) (x : X) → i < length xs → x ≡ get_or xs i x → drop i xs ≡ x ∷ drop (i + 1) xs
left xs i x lt is = drop-cons xs i x lt ∙ (λ j. sym is j ∷ drop (sym (add-one i) j) xs)

-- the same for an item that was looked up
pub left_at : {X : Type 0} (xs : List X) (i : ℕ) (x : X) → slice_get xs i ≡ Some x → drop i xs ≡ x ∷ drop (i + 1) xs
left_at {X} xs i x at = from xs i x at ∙ ap (λ n. x ∷ drop n xs) (let e : suc i ≡ i + 1 = omega arith in e)
  where
    from : (xs : List X) (i : ℕ) (x : X) → slice_get xs i ≡ Some x → drop i xs ≡ x ∷ drop (suc i) xs
    from [] i x at = cc
    from (y ∷ ys) zero x at = let same : y ≡ x = cc in ap (λ z. z ∷ ys) same
    from (y ∷ ys) (suc i) x at = from ys i x at

-- the same value for each of several items
pub map_same : {X Y : Type 0} (y : Y) (f : Y → ℕ) (xs : List X) → map f (map (λ x. y) xs) ≡ repeated (length xs) (f y)
map_same y f [] = refl
map_same y f (x ∷ xs) = ap (λ ns. f y ∷ ns) (map_same y f xs)

-- the variables of a group, and then those of the others
pub types_next : (groups : List VariableGroup) (i : ℕ) (group : VariableGroup) → i < length groups → group ≡ get_or groups i group
    → variable_types (drop i groups) ≡ map (λ name. group.types) group.names ++ variable_types (drop (i + 1) groups)
types_next groups i group lt is = ap variable_types (left groups i group lt is)

-- how many variables these are
pub variables_next : (groups : List VariableGroup) (i : ℕ) (group : VariableGroup) → i < length groups → group ≡ get_or groups i group
    → length (variable_types (drop i groups)) ≡ length group.names + length (variable_types (drop (i + 1) groups))
variables_next groups i group lt is =
    ap length (types_next groups i group lt is) ∙ length-append (map (λ name. group.types) group.names) (variable_types (drop (i + 1) groups))
    ∙ ap (λ n. n + length (variable_types (drop (i + 1) groups))) (length-map group.names (λ name. group.types))

-- a group without names adds no variable
pub nothing_here : (groups : List VariableGroup) (i : ℕ) (group : VariableGroup) → i < length groups → group ≡ get_or groups i group → group.names ≡ []
    → variable_types (drop (i + 1) groups) ≡ variable_types (drop i groups)
nothing_here groups i group lt is none =
    sym (types_next groups i group lt is ∙ ap (λ (names : List (List ℕ)). map (λ name. group.types) names ++ variable_types (drop (i + 1) groups)) none)

-- a group with names does
pub some_here : (groups : List VariableGroup) (i : ℕ) (group : VariableGroup) → i < length groups → group ≡ get_or groups i group → variable_types (drop i groups) ≡ [] → group.names ≡ []
some_here groups i group lt is none = names_of group.names (sym (types_next groups i group lt is) ∙ none)
  where
    names_of : (names : List (List ℕ)) → map (λ name. group.types) names ++ variable_types (drop (i + 1) groups) ≡ [] → names ≡ []
    names_of [] e = refl
    names_of (name ∷ names) e = cc

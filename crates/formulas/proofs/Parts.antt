-- Definitions by recursion on a formula, for the parts of `and` and `or`, which code has as a list.

use Rattle.std.proofs.Common.{◌≡◌, ℕ, Bool, ◌&&◌, ◌||◌, List, [], ◌∷◌, ◌++◌, map, refl, sym, ap, ◌∙◌, append_assoc}
use Rattle.std.specs.Cmp.Lexicographic.{pointwise}
use Rattle.std.specs.List.{flat_map, list_all, list_any}
use Rattle.std.specs.Hash as fed
use Rattle.formulas.specs.declared.atoms.Atom.{Atom}
use Rattle.formulas.specs.Equality.{tree_eq, parts_eq}
use Rattle.formulas.specs.Grounding.{with_objects, all_with_objects}
use Rattle.formulas.specs.Hashing.{tree_fed, parts_fed}
use Rattle.formulas.specs.Meaning.{holds, all_hold, some_holds}
use Rattle.formulas.specs.Tree.{Tree, parts_of, part}

pub grounded_parts : (objects bound : List ℕ) (trees : List Tree) → all_with_objects objects bound (parts_of trees) ≡ parts_of (map (with_objects objects bound) trees)
grounded_parts objects bound [] = refl
grounded_parts objects bound (tree ∷ trees) = ap (part (with_objects objects bound tree)) (grounded_parts objects bound trees)

pub compared_parts : (trees others : List Tree) → parts_eq (parts_of trees) (parts_of others) ≡ pointwise tree_eq trees others
compared_parts [] [] = refl
compared_parts [] (other ∷ others) = refl
compared_parts (tree ∷ trees) [] = refl
compared_parts (tree ∷ trees) (other ∷ others) = ap (λ same. tree_eq tree other && same) (compared_parts trees others)

pub fed_parts : (trees : List Tree) → parts_fed (parts_of trees) ≡ flat_map tree_fed trees ++ fed.u8 9
fed_parts [] = refl
fed_parts (tree ∷ trees) = ap (λ others. tree_fed tree ++ others) (fed_parts trees) ∙ sym (append_assoc (tree_fed tree) (flat_map tree_fed trees) (fed.u8 9))

module _ (objects_of : List ℕ → List ℕ) (state : Atom → Bool) (arguments bound : List ℕ) where
  abbrev pub is : Tree → Bool
  is tree = holds objects_of state arguments tree bound

  pub all_parts : (trees : List Tree) → all_hold objects_of state arguments (parts_of trees) bound ≡ list_all is trees
  all_parts [] = refl
  all_parts (tree ∷ trees) = ap (λ others. is tree && others) (all_parts trees)

  pub some_part : (trees : List Tree) → some_holds objects_of state arguments (parts_of trees) bound ≡ list_any is trees
  some_part [] = refl
  some_part (tree ∷ trees) = ap (λ others. is tree || others) (some_part trees)

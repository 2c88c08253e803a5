-- What a list of formulas feeds a hasher.

use Rattle.std.proofs.Common.{◌≡◌, ℕ, ◌≤◌, List, [], ◌∷◌, take, length, sym, ap, ◌∙◌}
use Rattle.std.proofs.lemmas.List.{take_all}
use Rattle.std.specs.Hash as fed
use Rattle.std.specs.Hash.{fed_then, fed_along}
use Rattle.std.specs.List.{flat_map, fold}
use Rattle.formulas.specs.Hashing.{tree_fed, parts_fed}
use Rattle.formulas.specs.Tree.{Tree, parts_of}
use Rattle.formulas.proofs.Parts.{fed_parts}

-- all formulas of a list, and then the end of the list
pub fed_list : {S : Type 0} (write : S → List ℕ → S) (start before after : S) (trees : List Tree) (count : ℕ) → length trees ≤ count
    → before ≡ fold write start (flat_map tree_fed (take count trees)) → after ≡ write before (9 ∷ []) → after ≡ fold write start (parts_fed (parts_of trees))
fed_list write start before after trees count all so_far end =
    fed_along write start after (sym (fed_parts trees))
    (fed_then write start before after (flat_map tree_fed trees) (fed.u8 9) (so_far ∙ ap (λ list. fold write start (flat_map tree_fed list)) (take_all count trees all)) end)

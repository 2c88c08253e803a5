-- Whether all of some names are plain, name by name.

use Rattle.std.proofs.Common.{◌≡◌, ℕ, ◌+◌, ◌<◌, ◌&&◌, true, false, List, [], ◌∷◌, Bor, length, map, take, get_or, ap, sym, ◌∙◌}
use Rattle.std.specs.List.{list_all}
use Rattle.std.proofs.lemmas.List.{map-append, take_more}
use Rattle.std.proofs.lemmas.List.Folds.{list_all-append, list_all-map, list_all_at}
use Rattle.command_line.specs.Options.{is_plain}

-- one more plain name
pub plain_more : (names : List (Bor (List ℕ))) (i : ℕ) (d : Bor (List ℕ)) → i < length names → list_all is_plain (map (λ n. n.now) (take i names)) ≡ true
    → is_plain (get_or names i d).now ≡ true → list_all is_plain (map (λ n. n.now) (take (i + 1) names)) ≡ true
plain_more names i d within so_far plain =
    let name = get_or names i d in
    let named = ap (map (λ (n : Bor (List ℕ)). n.now)) (take_more names i d within) ∙ map-append (λ (n : Bor (List ℕ)). n.now) (take i names) (name ∷ []) in
    ap (list_all is_plain) named ∙ list_all-append is_plain (map (λ n. n.now) (take i names)) (name.now ∷ [])
    ∙ ap (λ b. b && list_all is_plain (name.now ∷ [])) so_far ∙ ap (λ b. b && true) plain

-- a name that is not plain
pub other_found : (names : List (Bor (List ℕ))) (i : ℕ) (d : Bor (List ℕ)) → i < length names → is_plain (get_or names i d).now ≡ false
    → false ≡ list_all is_plain (map (λ n. n.now) names)
other_found names i d within other = sym (list_all-map is_plain (λ n. n.now) names ∙ list_all_at (λ n. is_plain n.now) names i d within other)

pub ruleset plain_names = (plain_more, other_found)

-- The texts of files, one after another.

use Rattle.std.proofs.Common.{◌≡◌, ℕ, ◌+◌, ◌<◌, List, [], ◌∷◌, ◌++◌, Bor, length, map, take, get_or, ap, sym, ◌∙◌, subst}
use Rattle.std.proofs.lemmas.List.{map-append, take_more}
use Rattle.std.proofs.lemmas.List.Elements.{AllZip-push}
use Rattle.commands.specs.Run.{AreTexts}
use Rattle.judge_engine.specs.Inlet.{file_named}

-- a text that is pushed is that of the next file
pub text_pushed : (MayHold : List ℕ → List ℕ → Type 0) (names : List (Bor (List ℕ))) (i : ℕ) (d : Bor (List ℕ)) (texts more : List (List ℕ)) (text : List ℕ)
    → i < length names → AreTexts MayHold (map (λ n. n.now) (take i names)) texts → MayHold (file_named (get_or names i d).now) text
    → more ≡ texts ++ text ∷ [] → AreTexts MayHold (map (λ n. n.now) (take (i + 1) names)) more
text_pushed MayHold names i d texts more text within so_far holds pushed =
    let name = get_or names i d in
    let named = ap (map (λ (n : Bor (List ℕ)). n.now)) (take_more names i d within) ∙ map-append (λ (n : Bor (List ℕ)). n.now) (take i names) (name ∷ []) in
    subst (λ ns. AreTexts MayHold ns more) (sym named)
    (subst (λ ts. AreTexts MayHold (map (λ n. n.now) (take i names) ++ name.now ∷ []) ts) (sym pushed)
    (AllZip-push (λ n t. MayHold (file_named n) t) (map (λ n. n.now) (take i names)) texts name.now text so_far holds))

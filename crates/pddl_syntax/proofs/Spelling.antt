-- Tokens spell one list of trees at most.

use Rattle.std.proofs.Common.{◌≡◌, List, [], ◌∷◌, Some, refl, sym, ap, ◌∙◌}
use Rattle.std.proofs.lemmas.Option.{same_Some}
use Rattle.pddl_tokens.specs.declared.spans.TokenKind.TheVariants.{Right}
use Rattle.pddl_tokens.specs.Tokens.{Piece, token}
use Rattle.pddl_syntax.specs.Trees.{Trees, none, word, list, SpelledBefore, AreTreesUnique}
use Rattle.pddl_syntax.specs.Levels.{Levels, levels, before_right}

-- one list of trees behind another
append : Trees → Trees → Trees
append none more = more
append (word w f) more = word w (append f more)
append (list k f) more = list k (append f more)

append-none : (f : Trees) → append f none ≡ f
unfolding append
append-none none = refl
append-none (word w f) = ap (λ g. word w g) (append-none f)
append-none (list k f) = ap (λ g. list k g) (append-none f)

-- trees that are spelled stand on the levels that follow them
levels_spelled : (f : Trees) (ps rest : List Piece) (s : Levels) → SpelledBefore f ps rest → levels rest ≡ Some s →
    levels ps ≡ Some (record { top = append f s.top; below = s.below })
unfolding levels append
levels_spelled none ps rest s spelled h = rw spelled h
levels_spelled (word w f) ps rest s (span, more, is, others) h = rw (is, levels_spelled f more rest s others h) refl
levels_spelled (list k f) ps rest s (left, right, opening, closing, more, after, is, inside, others) h =
    let behind : Levels = record { top = append f s.top; below = s.below } in
    let out : levels (token Right right closing ∷ after) ≡ Some (before_right behind) = rw (levels_spelled f after rest s others h) refl in
    rw (is, levels_spelled k more (token Right right closing ∷ after) (before_right behind) inside out, append-none k) refl

pub trees_unique : AreTreesUnique
unfolding levels
trees_unique tokens one other so thus =
    let end : Levels = record { top = none; below = [] } in
    let a = levels_spelled one tokens [] end so refl in
    let b = levels_spelled other tokens [] end thus refl in
    let tops : append one none ≡ append other none = ap (λ (l : Levels). l.top) (same_Some _ _ (sym a ∙ b)) in
    sym (append-none one) ∙ tops ∙ append-none other

-- A formula with no objects put in is the same formula.

use Rattle.std.proofs.Common.{◌≡◌, ℕ, ◌-◌, false, cond, nat_lt, List, [], ◌∷◌, map, refl, ap, ◌∙◌, arith}
use Rattle.std.proofs.lemmas.Bool.Decides.{nat_tests}
use Rattle.formulas.specs.declared.terms.Term.{Term}
use Rattle.formulas.specs.declared.terms.Term.TheVariants.{Param, Bound, Object}
use Rattle.formulas.specs.declared.terms.Pattern.{Pattern}
use Rattle.formulas.specs.Grounding.{term_with, pattern_with, with_objects, all_with_objects}
use Rattle.formulas.specs.Tree.{Tree, atom, equality, negation, conjunction, disjunction, implication, exists, for_all, Parts, no_parts, part}

none_below : (index : ℕ) → nat_lt index 0 ≡ false
none_below index = grind (arith, nat_tests)

term_stays : (term : Term) → term_with [] [] term ≡ term
term_stays (Param index) = ap (λ known. cond known (Object 0) (Param index)) (none_below index)
term_stays (Bound level) =
    let less : level - 0 ≡ level = omega arith in
    ap (λ known. cond known (Object 0) (Bound (level - 0))) (none_below level) ∙ ap Bound less
term_stays (Object object) = refl

terms_stay : (terms : List Term) → map (term_with [] []) terms ≡ terms
terms_stay [] = refl
terms_stay (term ∷ terms) = λ j. term_stays term j ∷ terms_stay terms j

pattern_stays : (pattern : Pattern) → pattern_with [] [] pattern ≡ pattern
pattern_stays pattern = λ j. record { pred = pattern.pred; terms = terms_stay pattern.terms j }

mutual
  pub with_nothing : (tree : Tree) → with_objects [] [] tree ≡ tree
  with_nothing (atom positive pattern) = ap (atom positive) (pattern_stays pattern)
  with_nothing (equality positive left right) = λ j. equality positive (term_stays left j) (term_stays right j)
  with_nothing (negation tree) = ap negation (with_nothing tree)
  with_nothing (conjunction parts) = ap conjunction (parts_stay parts)
  with_nothing (disjunction parts) = ap disjunction (parts_stay parts)
  with_nothing (implication premise conclusion) = λ j. implication (with_nothing premise j) (with_nothing conclusion j)
  with_nothing (exists groups body) = ap (exists groups) (with_nothing body)
  with_nothing (for_all groups body) = ap (for_all groups) (with_nothing body)

  parts_stay : (parts : Parts) → all_with_objects [] [] parts ≡ parts
  parts_stay no_parts = refl
  parts_stay (part tree parts) = λ j. part (with_nothing tree j) (parts_stay parts j)

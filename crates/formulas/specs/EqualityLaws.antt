-- The tests for equality pass what is the same, and nothing else. The laws of `==` and of hashes follow from that.

use Rattle.std.proofs.Common.{◌≡◌, ℕ, Bool, true, false, ◌&&◌, nat_eq, List, refl, ap, sym, subst, true≢false, Decides}
use Rattle.std.proofs.lemmas.Bool.{eqb-true, eq-eqb}
use Rattle.std.specs.Bool.{beq}
use Rattle.std.specs.Cmp.{IsEquivalence, decided, first_so, second_so, booleans_Decides}
use Rattle.std.specs.Cmp.Lexicographic.{pointwise, pointwise_decides, bytes_decides}
use Rattle.formulas.specs.declared.terms.Term.{Term}
use Rattle.formulas.specs.declared.terms.Term.TheVariants.{Param, Bound, Object}
use Rattle.formulas.specs.declared.terms.Pattern.{Pattern}
use Rattle.formulas.specs.declared.variables.VariableGroup.{VariableGroup}
use Rattle.formulas.specs.Tree.{Tree, atom, equality, negation, conjunction, disjunction, implication, exists, for_all, Parts, no_parts, part}
use Rattle.formulas.specs.Equality.{term_eq, pattern_eq, group_eq, tree_eq, parts_eq}

-- a test decides whether things are the same if it only passes the same ones, and passes everything with itself
by_itself : {X : Type 0} (test : X → X → Bool) → ((x y : X) → test x y ≡ true → x ≡ y) → ((x : X) → test x x ≡ true) → (x y : X) → Decides (test x y) (x ≡ y)
by_itself test passes itself x y = (passes x y, λ e. subst (λ z. test x z ≡ true) e (itself x))

both : (a b : Bool) → a ≡ true → b ≡ true → (a && b) ≡ true
both true b first second = second
both false b first second = first

term_passes : (term other : Term) → term_eq term other ≡ true → term ≡ other
term_passes (Param index) (Param other) h = ap Param (eqb-true index other h)
term_passes (Bound level) (Bound other) h = ap Bound (eqb-true level other h)
term_passes (Object object) (Object other) h = ap Object (eqb-true object other h)
term_passes term other h = absurd (true≢false (sym h))

term_itself : (term : Term) → term_eq term term ≡ true
term_itself (Param index) = eq-eqb index index refl
term_itself (Bound level) = eq-eqb level level refl
term_itself (Object object) = eq-eqb object object refl

-- the test of two terms decides whether they are the same
pub term_decides : (term other : Term) → Decides (term_eq term other) (term ≡ other)
term_decides = by_itself term_eq term_passes term_itself

terms_decide : (terms others : List Term) → Decides (pointwise term_eq terms others) (terms ≡ others)
terms_decide = pointwise_decides term_decides

pattern_passes : (pattern other : Pattern) → pattern_eq pattern other ≡ true → pattern ≡ other
pattern_passes pattern other h =
    let preds : pattern.pred ≡ other.pred = eqb-true pattern.pred other.pred (first_so (nat_eq pattern.pred other.pred) (pointwise term_eq pattern.terms other.terms) h) in
    let terms : ◌≡◌ {A = List Term} pattern.terms other.terms =
    (terms_decide pattern.terms other.terms).0 (second_so (nat_eq pattern.pred other.pred) (pointwise term_eq pattern.terms other.terms) h)
    in
    λ j. record { pred = preds j; terms = terms j }

pattern_itself : (pattern : Pattern) → pattern_eq pattern pattern ≡ true
pattern_itself pattern =
    both (nat_eq pattern.pred pattern.pred) (pointwise term_eq pattern.terms pattern.terms) (eq-eqb pattern.pred pattern.pred refl) ((terms_decide pattern.terms pattern.terms).1 refl)

-- the test of two patterns decides whether they are the same
pub pattern_decides : (pattern other : Pattern) → Decides (pattern_eq pattern other) (pattern ≡ other)
pattern_decides = by_itself pattern_eq pattern_passes pattern_itself

names_decide : (names others : List (List ℕ)) → Decides (pointwise (pointwise nat_eq) names others) (names ≡ others)
names_decide = pointwise_decides bytes_decides

group_passes : (group other : VariableGroup) → group_eq group other ≡ true → group ≡ other
group_passes group other h =
    let names : ◌≡◌ {A = List (List ℕ)} group.names other.names =
    (names_decide group.names other.names).0 (first_so (pointwise (pointwise nat_eq) group.names other.names) (pointwise nat_eq group.types other.types) h)
    in
    let types : ◌≡◌ {A = List ℕ} group.types other.types =
    (bytes_decides group.types other.types).0 (second_so (pointwise (pointwise nat_eq) group.names other.names) (pointwise nat_eq group.types other.types) h)
    in
    λ j. record { names = names j; types = types j }

group_itself : (group : VariableGroup) → group_eq group group ≡ true
group_itself group =
    both (pointwise (pointwise nat_eq) group.names group.names) (pointwise nat_eq group.types group.types) ((names_decide group.names group.names).1 refl) ((bytes_decides group.types group.types).1 refl)

-- the test of two groups of variables decides whether they are the same
pub group_decides : (group other : VariableGroup) → Decides (group_eq group other) (group ≡ other)
group_decides = by_itself group_eq group_passes group_itself

groups_decide : (groups others : List VariableGroup) → Decides (pointwise group_eq groups others) (groups ≡ others)
groups_decide = pointwise_decides group_decides

mutual
  tree_passes : (tree other : Tree) → tree_eq tree other ≡ true → tree ≡ other
  tree_passes (atom positive pattern) (atom sign other) h =
      let signs : positive ≡ sign = (booleans_Decides positive sign).0 (first_so (beq positive sign) (pattern_eq pattern other) h) in
      let patterns : pattern ≡ other = pattern_passes pattern other (second_so (beq positive sign) (pattern_eq pattern other) h) in
      λ j. atom (signs j) (patterns j)
  tree_passes (equality positive left right) (equality sign other_left other_right) h =
      let terms = second_so (beq positive sign) (term_eq left other_left && term_eq right other_right) h in
      let signs : positive ≡ sign = (booleans_Decides positive sign).0 (first_so (beq positive sign) (term_eq left other_left && term_eq right other_right) h) in
      let lefts : left ≡ other_left = term_passes left other_left (first_so (term_eq left other_left) (term_eq right other_right) terms) in
      let rights : right ≡ other_right = term_passes right other_right (second_so (term_eq left other_left) (term_eq right other_right) terms) in
      λ j. equality (signs j) (lefts j) (rights j)
  tree_passes (negation tree) (negation other) h = ap negation (tree_passes tree other h)
  tree_passes (conjunction parts) (conjunction others) h = ap conjunction (parts_pass parts others h)
  tree_passes (disjunction parts) (disjunction others) h = ap disjunction (parts_pass parts others h)
  tree_passes (implication premise conclusion) (implication other_premise other_conclusion) h =
      let premises = tree_passes premise other_premise (first_so (tree_eq premise other_premise) (tree_eq conclusion other_conclusion) h) in
      let conclusions = tree_passes conclusion other_conclusion (second_so (tree_eq premise other_premise) (tree_eq conclusion other_conclusion) h) in
      λ j. implication (premises j) (conclusions j)
  tree_passes (exists groups body) (exists others other) h =
      let lists : ◌≡◌ {A = List VariableGroup} groups others = (groups_decide groups others).0 (first_so (pointwise group_eq groups others) (tree_eq body other) h) in
      let bodies = tree_passes body other (second_so (pointwise group_eq groups others) (tree_eq body other) h) in
      λ j. exists (lists j) (bodies j)
  tree_passes (for_all groups body) (for_all others other) h =
      let lists : ◌≡◌ {A = List VariableGroup} groups others = (groups_decide groups others).0 (first_so (pointwise group_eq groups others) (tree_eq body other) h) in
      let bodies = tree_passes body other (second_so (pointwise group_eq groups others) (tree_eq body other) h) in
      λ j. for_all (lists j) (bodies j)
  tree_passes tree other h = absurd (true≢false (sym h))

  parts_pass : (parts others : Parts) → parts_eq parts others ≡ true → parts ≡ others
  parts_pass no_parts no_parts h = refl
  parts_pass (part tree parts) (part other others) h =
      let trees = tree_passes tree other (first_so (tree_eq tree other) (parts_eq parts others) h) in
      let lists = parts_pass parts others (second_so (tree_eq tree other) (parts_eq parts others) h) in
      λ j. part (trees j) (lists j)
  parts_pass parts others h = absurd (true≢false (sym h))

mutual
  tree_itself : (tree : Tree) → tree_eq tree tree ≡ true
  tree_itself (atom positive pattern) = both (beq positive positive) (pattern_eq pattern pattern) ((booleans_Decides positive positive).1 refl) (pattern_itself pattern)
  tree_itself (equality positive left right) =
      both (beq positive positive) (term_eq left left && term_eq right right) ((booleans_Decides positive positive).1 refl)
      (both (term_eq left left) (term_eq right right) (term_itself left) (term_itself right))
  tree_itself (negation tree) = tree_itself tree
  tree_itself (conjunction parts) = parts_itself parts
  tree_itself (disjunction parts) = parts_itself parts
  tree_itself (implication premise conclusion) = both (tree_eq premise premise) (tree_eq conclusion conclusion) (tree_itself premise) (tree_itself conclusion)
  tree_itself (exists groups body) = both (pointwise group_eq groups groups) (tree_eq body body) ((groups_decide groups groups).1 refl) (tree_itself body)
  tree_itself (for_all groups body) = both (pointwise group_eq groups groups) (tree_eq body body) ((groups_decide groups groups).1 refl) (tree_itself body)

  parts_itself : (parts : Parts) → parts_eq parts parts ≡ true
  parts_itself no_parts = refl
  parts_itself (part tree parts) = both (tree_eq tree tree) (parts_eq parts parts) (tree_itself tree) (parts_itself parts)

-- the test of two formulas decides whether they are the same
pub tree_decides : (tree other : Tree) → Decides (tree_eq tree other) (tree ≡ other)
tree_decides = by_itself tree_eq tree_passes tree_itself

-- the test of terms is an equality
pub term_equivalence : IsEquivalence term_eq
term_equivalence = decided term_eq term_decides

-- the test of patterns is one
pub pattern_equivalence : IsEquivalence pattern_eq
pattern_equivalence = decided pattern_eq pattern_decides

-- the test of groups of variables is one
pub group_equivalence : IsEquivalence group_eq
group_equivalence = decided group_eq group_decides

-- the test of formulas is one
pub tree_equivalence : IsEquivalence tree_eq
tree_equivalence = decided tree_eq tree_decides

-- The texts of lists: of the parts of a formula, and of the variables of a quantifier, one after the other.

use Rattle.std.proofs.Common.{◌≡◌, ℕ, suc, ◌+◌, ◌<◌, Bool, true, false, nat_eq, List, [], ◌∷◌, ◌++◌, length, map, drop, get_or, refl, sym, ap, ◌∙◌, arith, append-nil, append_assoc, length-drop, drop-cons, add-one}
use Rattle.std.proofs.lemmas.Bool.Decides.{nat_tests}
use Rattle.std.proofs.lemmas.Grind.{flat_map-append}
use Rattle.formulas.specs.declared.variables.VariableGroup.{VariableGroup}
use Rattle.formulas.specs.Tree.{Tree, parts_of}
use Rattle.strips_task.specs.declared.tasks.TaskParts.{TaskParts}
use Rattle.report_text.specs.declared.notation.Notation.{Notation}
use Rattle.report_text.specs.Notation.{separator, separated, continued}
use Rattle.report_text.specs.Conditions.{variable_words, group_words, groups_words, formula_text, parts_texts}

pub printed_parts : (notation : Notation) (task : TaskParts) (names : List (List ℕ)) (trees : List Tree) → parts_texts notation task names (parts_of trees) ≡ map (formula_text notation task names) trees
printed_parts notation task names [] = refl
printed_parts notation task names (tree ∷ trees) = ap (λ others. formula_text notation task names tree ∷ others) (printed_parts notation task names trees)

-- whether there are no groups
abbrev none : List VariableGroup → Bool
none [] = true
none (group ∷ groups) = false

module _ (notation : Notation) (task : TaskParts) where
  -- parts behind others
  behind : (begun : Bool) (front : List (List ℕ)) (part : List ℕ) (back more : List (List ℕ))
      → continued notation begun ((front ++ part ∷ back) ++ more) ≡ continued notation begun (front ++ part ∷ back) ++ separated notation more
  behind true front part back more = flat_map-append (λ p. separator notation ++ p) (front ++ part ∷ back) more
  behind false [] part back more = ap (λ l. part ++ l) (flat_map-append (λ p. separator notation ++ p) back more) ∙ sym (append_assoc part (separated notation back) (separated notation more))
  behind false (first ∷ front) part back more =
      ap (λ l. first ++ l) (flat_map-append (λ p. separator notation ++ p) (front ++ part ∷ back) more)
      ∙ sym (append_assoc first (separated notation (front ++ part ∷ back)) (separated notation more))

  -- a group before others, which is the last if there are none
  group_before : (begun : Bool) (group : VariableGroup) (groups : List VariableGroup)
      → continued notation begun (groups_words notation task (group ∷ groups))
      ≡ continued notation begun (group_words notation task (none groups) group) ++ continued notation true (groups_words notation task groups)
  group_before begun group [] = sym (append-nil (continued notation begun (group_words notation task true group)))
  group_before begun group (next ∷ groups) = behind begun (variable_words notation group.names) _ _ (groups_words notation task (next ∷ groups))

  is_last : (rest : List VariableGroup) (i count : ℕ) → length rest + suc i ≡ count → nat_eq (i + 1) count ≡ none rest
  is_last [] i count is = grind (arith, nat_tests)
  is_last (group ∷ rest) i count is = grind (arith, nat_tests)

  -- the group with an index, and those behind it
  pub group_more : (begun : Bool) (groups : List VariableGroup) (i : ℕ) (group : VariableGroup) → i < length groups → group ≡ get_or groups i group
      → continued notation begun (groups_words notation task (drop i groups))
      ≡ continued notation begun (group_words notation task (nat_eq (i + 1) (length groups)) group) ++ continued notation true (groups_words notation task (drop (i + 1) groups))
  group_more begun groups i group within is =
      let rest = drop (suc i) groups in
      let cons : drop i groups ≡ group ∷ rest = drop-cons groups i group within ∙ ap (λ g. g ∷ rest) (sym is) in
      let size : length rest + suc i ≡ length groups = omega (arith, length-drop (suc i) groups) in
      let last = is_last rest i (length groups) size in
      ap (λ l. continued notation begun (groups_words notation task l)) cons
      ∙ group_before begun group rest
      ∙ (λ j. continued notation begun (group_words notation task (sym last j) group) ++ continued notation true (groups_words notation task (drop (sym (add-one i) j) groups)))

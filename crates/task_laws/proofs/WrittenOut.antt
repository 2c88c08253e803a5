-- Formulas with their quantifiers written out.

use Rattle.std.proofs.Common.{◌≡◌, ℕ, Bool, not, ◌&&◌, ◌||◌, nat_eq, List, [], ◌∷◌, map, refl, ap, ◌∙◌}
use Rattle.std.proofs.Math.Path.{fun_ext}
use Rattle.std.proofs.lemmas.List.Folds.{list_all-map}
use Rattle.std.proofs.lemmas.Simd.{map-map}
use Rattle.std.specs.List.{list_all, list_any}
use Rattle.formulas.specs.declared.atoms.Atom.{Atom}
use Rattle.formulas.specs.declared.variables.VariableGroup.{VariableGroup}
use Rattle.formulas.specs.Grounding.{with_objects, all_with_objects}
use Rattle.formulas.specs.Meaning.{signed, holds, all_hold, some_holds}
use Rattle.formulas.specs.Tree.{Tree, atom, equality, negation, conjunction, disjunction, implication, exists, for_all, Parts, no_parts, part, parts_of}
use Rattle.formulas.specs.Variables.{variable_types, extensions}
use Rattle.formulas.proofs.Parts.{grounded_parts, all_parts, some_part}
use Rattle.task_laws.specs.WrittenOut.{written_out, all_written_out, IsQuantifierFree, AreQuantifierFree}
use Rattle.task_laws.proofs.ListLemmas.{list_any-map}
use Rattle.task_laws.proofs.Terms.{term_means, atom_means, term_grounded, pattern_grounded}

-- none of the bodies that a quantifier is written out as has a quantifier
none_in_choices : (f : List ℕ → Tree) → ((extended : List ℕ) → IsQuantifierFree (f extended)) → (choices : List (List ℕ)) → AreQuantifierFree (parts_of (map f choices))
none_in_choices f none [] = tt
none_in_choices f none (extended ∷ choices) = (none extended, none_in_choices f none choices)

module _ (objects_of : List ℕ → List ℕ) where
  -- the choices of objects for the variables of a quantifier
  abbrev pub choices : List VariableGroup → List ℕ → List (List ℕ)
  choices groups bound = extensions objects_of (variable_types groups) bound

  -- a formula that is written out holds where it held
  module _ (state : Atom → Bool) (arguments : List ℕ) where
    abbrev holds_written_out : Tree → List ℕ → Bool
    holds_written_out tree bound = holds objects_of state arguments (written_out objects_of tree bound) []

    mutual
      pub tree_means : (tree : Tree) (bound : List ℕ) → holds_written_out tree bound ≡ holds objects_of state arguments tree bound
      tree_means (atom positive pattern) bound = ap (λ asked. signed positive (state asked)) (atom_means bound arguments pattern)
      tree_means (equality positive left right) bound = λ j. signed positive (nat_eq (term_means bound arguments left j) (term_means bound arguments right j))
      tree_means (negation tree) bound = ap not (tree_means tree bound)
      tree_means (conjunction parts) bound = all_mean parts bound
      tree_means (disjunction parts) bound = some_mean parts bound
      tree_means (implication premise conclusion) bound = λ j. not (tree_means premise bound j) || tree_means conclusion bound j
      tree_means (exists groups body) bound =
          some_part objects_of state arguments [] (map (λ extended. written_out objects_of body extended) (choices groups bound))
          ∙ list_any-map (λ tree. holds objects_of state arguments tree []) (λ extended. written_out objects_of body extended) (choices groups bound)
          ∙ ap (λ f. list_any f (choices groups bound)) (fun_ext (tree_means body))
      tree_means (for_all groups body) bound =
          all_parts objects_of state arguments [] (map (λ extended. written_out objects_of body extended) (choices groups bound))
          ∙ list_all-map (λ tree. holds objects_of state arguments tree []) (λ extended. written_out objects_of body extended) (choices groups bound)
          ∙ ap (λ f. list_all f (choices groups bound)) (fun_ext (tree_means body))

      all_mean : (parts : Parts) (bound : List ℕ) → all_hold objects_of state arguments (all_written_out objects_of parts bound) [] ≡ all_hold objects_of state arguments parts bound
      all_mean no_parts bound = refl
      all_mean (part tree parts) bound = λ j. tree_means tree bound j && all_mean parts bound j

      some_mean : (parts : Parts) (bound : List ℕ) → some_holds objects_of state arguments (all_written_out objects_of parts bound) [] ≡ some_holds objects_of state arguments parts bound
      some_mean no_parts bound = refl
      some_mean (part tree parts) bound = λ j. tree_means tree bound j || some_mean parts bound j

  -- objects may be put in for parameters before or after a formula is written out
  module _ (objects : List ℕ) where
    -- the bodies that a quantifier is written out as
    choices_grounded : (body : Tree) → ((bound : List ℕ) → with_objects objects [] (written_out objects_of body bound) ≡ written_out objects_of (with_objects objects [] body) bound)
        → (choices : List (List ℕ)) → all_with_objects objects [] (parts_of (map (λ extended. written_out objects_of body extended) choices))
        ≡ parts_of (map (λ extended. written_out objects_of (with_objects objects [] body) extended) choices)
    choices_grounded body grounded choices =
        grounded_parts objects [] (map (λ extended. written_out objects_of body extended) choices)
        ∙ ap parts_of (map-map (with_objects objects []) (λ extended. written_out objects_of body extended) choices ∙ ap (λ f. map f choices) (fun_ext grounded))

    mutual
      pub tree_grounded : (tree : Tree) (bound : List ℕ) → with_objects objects [] (written_out objects_of tree bound) ≡ written_out objects_of (with_objects objects [] tree) bound
      tree_grounded (atom positive pattern) bound = ap (atom positive) (pattern_grounded bound objects pattern)
      tree_grounded (equality positive left right) bound = λ j. equality positive (term_grounded bound objects left j) (term_grounded bound objects right j)
      tree_grounded (negation tree) bound = ap negation (tree_grounded tree bound)
      tree_grounded (conjunction parts) bound = ap conjunction (parts_grounded parts bound)
      tree_grounded (disjunction parts) bound = ap disjunction (parts_grounded parts bound)
      tree_grounded (implication premise conclusion) bound = λ j. implication (tree_grounded premise bound j) (tree_grounded conclusion bound j)
      tree_grounded (exists groups body) bound = ap disjunction (choices_grounded body (tree_grounded body) (choices groups bound))
      tree_grounded (for_all groups body) bound = ap conjunction (choices_grounded body (tree_grounded body) (choices groups bound))

      parts_grounded : (parts : Parts) (bound : List ℕ) → all_with_objects objects [] (all_written_out objects_of parts bound) ≡ all_written_out objects_of (all_with_objects objects [] parts) bound
      parts_grounded no_parts bound = refl
      parts_grounded (part tree parts) bound = λ j. part (tree_grounded tree bound j) (parts_grounded parts bound j)

  mutual
    pub no_quantifier : (tree : Tree) (bound : List ℕ) → IsQuantifierFree (written_out objects_of tree bound)
    no_quantifier (atom positive pattern) bound = tt
    no_quantifier (equality positive left right) bound = tt
    no_quantifier (negation tree) bound = no_quantifier tree bound
    no_quantifier (conjunction parts) bound = no_quantifiers parts bound
    no_quantifier (disjunction parts) bound = no_quantifiers parts bound
    no_quantifier (implication premise conclusion) bound = (no_quantifier premise bound, no_quantifier conclusion bound)
    no_quantifier (exists groups body) bound = none_in_choices (λ extended. written_out objects_of body extended) (no_quantifier body) (choices groups bound)
    no_quantifier (for_all groups body) bound = none_in_choices (λ extended. written_out objects_of body extended) (no_quantifier body) (choices groups bound)

    no_quantifiers : (parts : Parts) (bound : List ℕ) → AreQuantifierFree (all_written_out objects_of parts bound)
    no_quantifiers no_parts bound = tt
    no_quantifiers (part tree parts) bound = (no_quantifier tree bound, no_quantifiers parts bound)

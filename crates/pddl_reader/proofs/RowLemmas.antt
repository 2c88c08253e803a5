-- Rows of names: the numbers of one word more, and the atoms that rows stand for.

use Rattle.std.proofs.Common.{◌≡◌, ℕ, suc, true, false, List, [], ◌∷◌, ◌++◌, Some, length, map, refl, ap, sym, ◌∙◌, arith}
use Rattle.std.proofs.lemmas.Bool.{eq-eqb}
use Rattle.std.proofs.lemmas.List.{map-append}
use Rattle.std.specs.List.{list_all, slice_get, zip}
use Rattle.std.specs.Map.{values_of}
use Rattle.pddl_words.specs.SpacedWords.{words_of}
use Rattle.pddl_words.specs.Words.{folded}
use Rattle.formulas.specs.declared.terms.Term.TheVariants.{Object}
use Rattle.strips_task.specs.Names.{number_named}
use Rattle.strips_task.specs.WellFormed.{is_fitting, term_types}
use Rattle.strips_task.proofs.AtomEquality.{both_hold}
use Rattle.strips_task.proofs.NamedRows.{none_yet}
use Rattle.pddl_syntax.specs.Optional.{guard, followed_by}
use Rattle.pddl_syntax.specs.Rows.{atom_of_words, atom_spelled}
use Rattle.pddl_reader.specs.Declarations.{Known, fitted_all, fitted_arguments, fitting_object, ground_by, ground_of, object_number, predicate_number, predicate_taking, takes_terms}
use Rattle.pddl_reader.specs.Rows.{row_number, row_numbers}
use Rattle.pddl_reader.proofs.TermLemmas.{object_fit}

module _ (known : Known) where
  -- one word more has one number more
  pub numbers_more : (words : List (List ℕ)) (numbers : List ℕ) (word : List ℕ) (number : ℕ) → row_numbers known words ≡ map Some numbers →
      row_number known (none_yet numbers) word ≡ Some number → row_numbers known (words ++ word ∷ []) ≡ map Some (numbers ++ number ∷ [])
  numbers_more [] [] word number so_far is = ap (λ o. o ∷ []) is
  numbers_more [] (first ∷ numbers) word number so_far is = cc
  numbers_more (predicate ∷ words) [] word number so_far is = cc
  numbers_more (predicate ∷ words) (first ∷ numbers) word number so_far is =
      let head : row_number known true predicate ≡ Some first = cc in
      let rest : map (row_number known false) words ≡ map Some numbers = cc in
      let words_more : map (row_number known false) (words ++ word ∷ []) ≡ map (row_number known false) words ++ row_number known false word ∷ [] =
      map-append (row_number known false) words (word ∷ []) in
      let numbers_more : map Some (numbers ++ number ∷ []) ≡ map Some numbers ++ Some number ∷ [] = map-append Some numbers (number ∷ []) in
      (λ j. head j ∷ (words_more ∙ (λ i. rest i ++ is i ∷ []) ∙ sym numbers_more) j)

  -- objects that fit their arguments are those of the words with their numbers
  fitted : (argument_types : List (List ℕ)) (words : List (List ℕ)) (objects : List ℕ) → map (row_number known false) words ≡ map Some objects →
      length objects ≡ length argument_types →
      list_all (λ p. is_fitting known.parents (term_types known.objects [] [] (Object p.0)) p.1) (zip objects argument_types) ≡ true →
      fitted_all (fitting_object known) argument_types words ≡ Some objects
  unfolding fitted_all followed_by object_number
  fitted [] [] [] named count fits = refl
  fitted [] [] (o ∷ os) named count fits = cc
  fitted [] (w ∷ ws) [] named count fits = cc
  fitted [] (w ∷ ws) (o ∷ os) named count fits = cc
  fitted (t ∷ ts) [] [] named count fits = cc
  fitted (t ∷ ts) [] (o ∷ os) named count fits = cc
  fitted (t ∷ ts) (w ∷ ws) [] named count fits = cc
  fitted (t ∷ ts) (w ∷ ws) (o ∷ os) named count fits =
      let head : number_named known.objects (folded w) ≡ Some o = cc in
      let rest : map (row_number known false) ws ≡ map Some os = cc in
      let both = both_hold (is_fitting known.parents (term_types known.objects [] [] (Object o)) t)
      (list_all (λ p. is_fitting known.parents (term_types known.objects [] [] (Object p.0)) p.1) (zip os ts)) fits in
      rw (object_fit known t w o head both.0, fitted ts ws os rest (omega (arith, count)) both.1) refl

  as_many : (words : List (List ℕ)) (objects : List ℕ) → map (row_number known false) words ≡ map Some objects → length words ≡ length objects
  as_many [] [] e = refl
  as_many [] (o ∷ os) e = cc
  as_many (w ∷ ws) [] e = cc
  as_many (w ∷ ws) (o ∷ os) e = let rest : map (row_number known false) ws ≡ map Some os = cc in ap suc (as_many ws os rest)

  -- a predicate that takes as many terms as there are words
  predicate : (w : List ℕ) (ws : List (List ℕ)) (pred : ℕ) (argument_types : List (List ℕ)) → number_named known.predicates (folded w) ≡ Some pred →
      slice_get (values_of known.predicates) pred ≡ Some argument_types → length argument_types ≡ length ws →
      predicate_number known.predicates (atom_of_words (w ∷ ws)) ≡ Some pred
  unfolding predicate_number predicate_taking takes_terms guard
  predicate w ws pred argument_types named at many = rw (named, at, eq-eqb (length argument_types) (length ws) many) refl

  -- words with these numbers stand for their atom, if the objects fit
  words_ground : (words : List (List ℕ)) (pred : ℕ) (objects : List ℕ) (argument_types : List (List ℕ)) →
      row_numbers known words ≡ map Some (pred ∷ objects) → slice_get (values_of known.predicates) pred ≡ Some argument_types →
      length objects ≡ length argument_types →
      list_all (λ p. is_fitting known.parents (term_types known.objects [] [] (Object p.0)) p.1) (zip objects argument_types) ≡ true →
      ground_of known (atom_of_words words) ≡ Some (record { pred = pred; args = objects })
  unfolding ground_of ground_by fitted_arguments
  words_ground [] pred objects argument_types e at count fits = cc
  words_ground (w ∷ ws) pred objects argument_types e at count fits =
      let head : number_named known.predicates (folded w) ≡ Some pred = cc in
      let rest : map (row_number known false) ws ≡ map Some objects = cc in
      let many : length argument_types ≡ length ws = sym (as_many ws objects rest ∙ count) in
      rw (predicate w ws pred argument_types head at many, at, fitted argument_types ws objects rest count fits) refl

  -- a row with these numbers stands for their atom, if the objects fit
  pub row_ground : (row : List ℕ) (pred : ℕ) (objects : List ℕ) (argument_types : List (List ℕ)) →
      row_numbers known (words_of row) ≡ map Some (pred ∷ objects) → slice_get (values_of known.predicates) pred ≡ Some argument_types →
      length objects ≡ length argument_types →
      list_all (λ p. is_fitting known.parents (term_types known.objects [] [] (Object p.0)) p.1) (zip objects argument_types) ≡ true →
      ground_of known (atom_spelled row) ≡ Some (record { pred = pred; args = objects })
  unfolding atom_spelled
  row_ground row pred objects argument_types = words_ground (words_of row) pred objects argument_types

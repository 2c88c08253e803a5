use Rattle.std.proofs.Common.{◌≡◌, ℕ, true, eqb, List, [], ◌∷◌, ◌++◌, length, Option, Some, IfSome, map, ap, sym, subst, ◌∙◌}
use Rattle.std.specs.List.{list_all}
use Rattle.std.proofs.lemmas.List.{append_assoc, append-nil}
use Rattle.pddl_words.specs.Words.{is_name}
use Rattle.pddl_reader.specs.Resolved.{known_form}
use Rattle.pddl_reader.specs.Rows.{row_number, row_numbers}
use Rattle.strips_task.proofs.NamedRows.{none_yet, none_yet-length, names_more}
use Rattle.pddl_reader.proofs.RowLemmas.{numbers_more}
use Rattle.pddl_reader.proofs.resolution.rows.find_numbers.Goals as goal

pub words-preserved : goal.words-preserved
words-preserved c =
    let known = known_form c.args.known.now in
    let passed = c.words.invariant.passed in
    let word = c.in-Some.word.now in
    let items = c.words.numbers.items in
    let empty : c.is_empty.result ≡ none_yet items = c.is_empty.ensures ∙ ap (λ (ns : List ℕ). eqb (length ns) 0) c.as_slice.ensures.value ∙ none_yet-length items in
    let found = subst (λ (o : Option ℕ). IfSome o (λ number. (is_name word ≡ true) × (row_number known c.is_empty.result word ≡ Some number))) c.in-Some-number_as_written.is c.number_as_written.ensures in
    let named : row_number known (none_yet items) word ≡ Some c.in-Some-number_as_written.number = ap (λ b. row_number known b word) (sym empty) ∙ found.1 in
    record {
      passed = passed ++ word ∷ [];
      words = c.words.invariant.words ∙ ap (λ ws. passed ++ ws) c.in-Some.ensures ∙ sym (append_assoc passed (word ∷ []) c.next.new.self);
      names = names_more passed word c.words.invariant.names found.0;
      numbered = numbers_more known passed items word c.in-Some-number_as_written.number c.words.invariant.numbered named
          ∙ ap (map Some) (sym c.in_ok-push-in-Some-number_as_written.ensures.items);
    }

pub returns-clause-names : goal.returns-clause-names
returns-clause-names c = λ some.
    let passed = c.words.invariant.passed in
    ap (list_all is_name) (c.words.invariant.words ∙ ap (λ ws. passed ++ ws) c.in_default.ensures ∙ append-nil passed) ∙ c.words.invariant.names

pub returns-clause-numbers : goal.returns-clause-numbers
returns-clause-numbers c = λ some.
    let passed = c.words.invariant.passed in
    ap (row_numbers (known_form c.args.known.now)) (c.words.invariant.words ∙ ap (λ ws. passed ++ ws) c.in_default.ensures ∙ append-nil passed) ∙ c.words.invariant.numbered

use Rattle.std.proofs.Common.{◌≡◌, ℕ, true, false, [], ◌∷◌, ◌++◌, Option, Some, IfSome, eqb, map, length, ap, sym, subst, ◌∙◌, rules, tests, arith}
use Rattle.std.specs.List.{list_all}
use Rattle.std.specs.Vec.{vec_len}
use Rattle.std.proofs.lemmas.List.{append_assoc, append-nil}
use Rattle.pddl_words.specs.SpacedWords.{words_of}
use Rattle.pddl_words.specs.Words.{is_name, folded}
use Rattle.strips_judge.specs.StepNumbers.{number_by, numbers_named}
use Rattle.strips_task.proofs.NamedRows.{none_yet, none_yet-length, names_more}
use Rattle.strips_judge.proofs.NumberedSteps.{numbered_more, numbered_within, spelled_numbered}
use Rattle.text_judge.proofs.names.number_names.Goals as goal

pub words-preserved : goal.words-preserved
words-preserved c =
    let parts = c.args.task.now in
    let passed = c.words.invariant.passed in
    let word = c.in-Some.word.now in
    let items = c.words.numbers.items in
    let len : vec_len c.words.numbers ≡ length items = search rules in
    let empty : c.is_empty.result ≡ none_yet items = c.is_empty.ensures ∙ ap (λ n. eqb n 0) len ∙ none_yet-length items in
    let found = subst (λ (o : Option ℕ). IfSome o (λ number. (is_name word ≡ true) × (number_by parts c.is_empty.result (folded word) ≡ Some number))) c.in-Some-2.is c.in_ok-number.ensures in
    let named : number_by parts (none_yet items) (folded word) ≡ Some c.in-Some-2.number = ap (λ e. number_by parts e (folded word)) (sym empty) ∙ found.1 in
    record {
      passed = passed ++ word ∷ [];
      words = c.words.invariant.words ∙ ap (λ ws. passed ++ ws) c.in-Some.ensures ∙ sym (append_assoc passed (word ∷ []) c.next.new.self);
      names = names_more passed word c.words.invariant.names found.0;
      numbered = numbered_more parts passed items word c.in-Some-2.number c.words.invariant.numbered named ∙ ap (map Some) (sym c.in_ok-push-in-Some-2.ensures.items);
    }

pub returns-clause-spelled : goal.returns-clause-spelled
returns-clause-spelled c = λ some.
    let passed = c.words.invariant.passed in
    ap (list_all is_name) (c.words.invariant.words ∙ ap (λ ws. passed ++ ws) c.in_default.ensures ∙ append-nil passed) ∙ c.words.invariant.names

pub returns-clause-numbered : goal.returns-clause-numbered
returns-clause-numbered c = λ some.
    let parts = c.args.task.now in
    let passed = c.words.invariant.passed in
    let items = c.words.numbers.items in
    let whole : words_of c.args.row.now ≡ passed = c.words.invariant.words ∙ ap (λ ws. passed ++ ws) c.in_default.ensures ∙ append-nil passed in
    let len : vec_len c.words.numbers ≡ length items = search rules in
    let empty : c.is_empty-2.result ≡ none_yet items = c.is_empty-2.ensures ∙ ap (λ n. eqb n 0) len ∙ none_yet-length items in
    let not_empty : none_yet items ≡ false = sym empty ∙ grind (arith, tests, some) in
    spelled_numbered parts (words_of c.args.row.now) items (ap (λ l. numbers_named parts (map folded l)) whole ∙ c.words.invariant.numbered) not_empty

pub returns-clause-within : goal.returns-clause-within
returns-clause-within c =
    numbered_within c.args.task.now (map folded c.words.invariant.passed) c.words.numbers.items c.words.invariant.numbered

pub returns-in-None-clause-within : goal.returns-in-None-clause-within
returns-in-None-clause-within c =
    numbered_within c.args.task.now (map folded c.words.invariant.passed) c.words.numbers.items c.words.invariant.numbered

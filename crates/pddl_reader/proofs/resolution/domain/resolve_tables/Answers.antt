use Rattle.std.proofs.Common.{◌≡◌, [], Some, subst}
use Rattle.std.proofs.lemmas.Result.{err_from_is_err_and}
use Rattle.std.specs.Map.{keys_of}
use Rattle.pddl_reader.specs.Domain.{actions_from, functions_from, no_actions, predicates_from}
use Rattle.pddl_reader.specs.Functions.{Vocabulary}
use Rattle.pddl_syntax.specs.Forms.{action_forms, domain_syntax_form, predicate_forms}
use Rattle.pddl_reader.specs.Parts.{part_items}
use Rattle.pddl_reader.proofs.DomainMeaning.{domain_meant, no_functions_meant}
use Rattle.pddl_reader.proofs.resolution.domain.resolve_tables.Goals as goal

pub returns-in_err-functions : goal.returns-in_err-functions
returns-in_err-functions c =
    let syntax = c.args.syntax.now in
    let types = keys_of c.args.head.now.types in
    let p = err_from_is_err_and c.from_residual-in_err-functions.result c.from_residual-in_err-functions.ensures.1 in
    let e = c.in_err-functions.ensures.given in
    rw (p.1, p.2) (
      e.0,
      λ k. no_functions_meant (domain_syntax_form syntax) c.args.head.now (predicates_from types [] (predicate_forms (part_items syntax.sections.predicates)))
          (functions_from types [] (predicate_forms (part_items syntax.sections.functions))) c.in_ok-predicates.predicates
          (rw (← c.part_items-declared.ensures) c.in_ok-predicates.ensures.given) (rw (← c.part_items-declared-2.ensures) (e.1 k)),
    )

pub returns : goal.returns
returns c =
    let head = c.args.head.now in
    let syntax = c.args.syntax.now in
    let types = keys_of head.types in
    let P : Vocabulary → Type 0 = λ v. actions_from types v no_actions (action_forms syntax.sections.actions.items) ≡ Some c.in_ok-actions.actions in
    domain_meant syntax head (predicates_from types [] (predicate_forms (part_items syntax.sections.predicates)))
    (functions_from types [] (predicate_forms (part_items syntax.sections.functions))) c.in_ok-predicates.predicates c.in_ok-functions.functions
    c.in_ok-actions.actions
    (rw (← c.part_items-declared.ensures) c.in_ok-predicates.ensures.given)
    (rw (← c.part_items-declared-2.ensures) c.in_ok-functions.ensures.given)
    (subst P c.new-vocabulary.ensures (rw (← c.as_slice.ensures.value) c.in_ok-actions.ensures))

use Rattle.std.proofs.Common.{[], refl, ◌∙◌}
use Rattle.std.proofs.lemmas.Result.{err_from_is_err_and}
use Rattle.std.specs.Map.{keys_of}
use Rattle.pddl_reader.specs.Domain.{functions_from, predicates_from}
use Rattle.pddl_syntax.specs.Forms.{domain_syntax_form, predicate_forms}
use Rattle.pddl_reader.specs.Parts.{part_items}
use Rattle.pddl_reader.proofs.DomainMeaning.{functions_given, predicates_given, with_head}
use Rattle.pddl_reader.proofs.WellFormedDomains.{domain_well_formed, head_types_few, head_objects_few}
use Rattle.pddl_reader.proofs.resolution.domain.resolve_domain.Goals as goal

pub resolve_tables-requires-clause-types : goal.resolve_tables-requires-clause-types
resolve_tables-requires-clause-types c = head_types_few c.args.dialect (domain_syntax_form c.args.syntax.now) c.in_ok-head.head c.in_ok-head.ensures

pub resolve_tables-requires-clause-objects : goal.resolve_tables-requires-clause-objects
resolve_tables-requires-clause-objects c = head_objects_few c.args.dialect (domain_syntax_form c.args.syntax.now) c.in_ok-head.head c.in_ok-head.ensures

pub assemble-requires : goal.assemble-requires
assemble-requires c =
    let syntax = c.args.syntax.now in
    let types = keys_of c.in_ok-head.head.types in
    domain_well_formed c.args.dialect (domain_syntax_form syntax) c.in_ok-head.head (predicates_from types [] (predicate_forms (part_items syntax.sections.predicates)))
    (functions_from types [] (predicate_forms (part_items syntax.sections.functions))) _
    c.in_ok-head.ensures (rw (predicates_given syntax) refl) (rw (functions_given syntax) refl) c.in_ok-tables.ensures

pub returns : goal.returns
returns c = rw (with_head c.args.dialect c.args.syntax.now c.in_ok-head.head c.in_ok-head.ensures, c.assemble.ensures) c.in_ok-tables.ensures

pub returns-in_err-tables : goal.returns-in_err-tables
returns-in_err-tables c =
    let p = err_from_is_err_and c.from_residual-in_err-tables.result c.from_residual-in_err-tables.ensures.1 in
    let e = c.in_err-tables.ensures in
    rw (p.1, p.2) (e.0, λ k. with_head c.args.dialect c.args.syntax.now c.in_ok-head.head c.in_ok-head.ensures ∙ e.1 k)

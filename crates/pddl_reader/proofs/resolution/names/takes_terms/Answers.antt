use Rattle.std.proofs.Common.{nat_eq, sym, ◌∙◌, ap}
use Rattle.pddl_reader.proofs.TableLemmas.{argument_types_counted}
use Rattle.pddl_reader.proofs.resolution.names.takes_terms.Goals as goal

pub returns : goal.returns
returns c =
    let entry = c.get.result in
    ap (λ n. nat_eq n c.args.count) c.len.ensures
    ∙ sym (argument_types_counted c.args.predicates.now c.args.number c.args.count entry.0.now entry.1.now c.get.ensures)

use Rattle.std.proofs.lemmas.Result.{err_from_is_err_and}
use Rattle.pddl_syntax.specs.Forms.{name_groups}
use Rattle.pddl_reader.proofs.TypeLemmas.{types_ordered, types_unordered}
use Rattle.pddl_reader.proofs.resolution.types.types.Goals as goal

pub returns-in_err-parents-clause-given : goal.returns-in_err-parents-clause-given
returns-in_err-parents-clause-given c =
    let p = err_from_is_err_and c.from_residual-in_err-parents.result c.from_residual-in_err-parents.ensures.1 in
    let e = c.in_err-parents.ensures in
    rw (p.1, p.2) (e.0, λ k. types_unordered c.args.dialect (name_groups c.args.groups.now) c.in_ok-tables.tables c.in_ok-tables.ensures.given (e.1 k))

pub returns-clause-given : goal.returns-clause-given
returns-clause-given c =
    types_ordered c.args.dialect (name_groups c.args.groups.now) c.in_ok-tables.tables c.in_ok-parents.parents c.in_ok-tables.ensures.given c.in_ok-parents.ensures

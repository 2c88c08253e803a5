use Rattle.std.proofs.lemmas.Result.{err_from_is_err_and}
use Rattle.pddl_reader.specs.Resolved.{known_form}
use Rattle.pddl_reader.proofs.AtomLemmas.{pattern_unfit, pattern_fit}
use Rattle.pddl_reader.proofs.resolution.atoms.pattern.Goals as goal

pub returns-in_err-terms : goal.returns-in_err-terms
returns-in_err-terms c =
    let p = err_from_is_err_and c.from_residual-in_err-terms.result c.from_residual-in_err-terms.ensures.1 in
    let e = c.in_err-terms.ensures in
    rw (p.1, p.2) (
      e.0,
      λ k. pattern_unfit (known_form c.args.known.now) c.args.scope.now c.args.syntax.now c.in_ok-pred.pred
          c.argument_types_of-argument_types.result.now c.in_ok-pred.ensures c.argument_types_of-argument_types.ensures.argument_types (rw (← c.as_slice.ensures) (e.1 k)),
    )

pub returns : goal.returns
returns c =
    pattern_fit (known_form c.args.known.now) c.args.scope.now c.args.syntax.now c.in_ok-pred.pred c.argument_types_of-argument_types.result.now
    c.in_ok-terms.terms c.in_ok-pred.ensures c.argument_types_of-argument_types.ensures.argument_types (rw (← c.as_slice.ensures) c.in_ok-terms.ensures)

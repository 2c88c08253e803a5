use Rattle.std.proofs.lemmas.Result.{err_from_is_err_and}
use Rattle.std.specs.Map.{keys_of}
use Rattle.pddl_reader.specs.Resolved.{bound_form, variables_form}
use Rattle.pddl_reader.proofs.QuantifierMeaning.{group_complete, group_unmarked}
use Rattle.pddl_reader.proofs.resolution.quantifiers.bind_group.Goals as goal

pub returns-in_err-names : goal.returns-in_err-names
returns-in_err-names c =
    let p = err_from_is_err_and c.from_residual-in_err-names.result c.from_residual-in_err-names.ensures.1 in
    let e = c.in_err-names.ensures in
    rw (p.1, p.2) (
      e.0,
      λ k. group_unmarked (keys_of c.args.types.now) (bound_form c.args.bound.now) c.args.group.now (variables_form c.declare_group.new.declared) c.in_ok-types.types
          c.in_ok-types.ensures.variables c.in_ok-types.ensures.types (rw (← c.as_slice.ensures) (e.1 k)),
    )

pub returns : goal.returns
returns c =
    rw c.in_ok-push.ensures.ok
    (group_complete (keys_of c.args.types.now) (bound_form c.args.bound.now) c.args.group.now (variables_form c.declare_group.new.declared) c.in_ok-types.types c.in_ok-names.names
    c.in_ok-types.ensures.variables c.in_ok-types.ensures.types (rw (← c.as_slice.ensures) c.in_ok-names.ensures))

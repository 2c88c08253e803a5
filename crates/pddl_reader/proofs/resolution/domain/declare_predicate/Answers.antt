use Rattle.std.specs.Map.{keys_of}
use Rattle.pddl_syntax.specs.Forms.{predicate_form}
use Rattle.pddl_reader.proofs.DeclarationLemmas.{may_declare_length, predicate_declared}
use Rattle.pddl_reader.proofs.resolution.domain.declare_predicate.Goals as goal

pub returns-clause-within : goal.returns-clause-within
returns-clause-within c =
    let new = c.in_ok-name.ensures in
    rw (c.in_ok-push.ensures.ok, new.0) (may_declare_length 4096 c.args.table.now _ c.in_ok-argument_types.argument_types new.1)

pub returns-clause-given : goal.returns-clause-given
returns-clause-given c =
    let new = c.in_ok-name.ensures in
    rw (c.in_ok-push.ensures.ok, new.0)
    (predicate_declared (keys_of c.args.types.now) c.args.table.now (predicate_form c.args.predicate.now) c.in_ok-argument_types.argument_types new.1 c.in_ok-argument_types.ensures)

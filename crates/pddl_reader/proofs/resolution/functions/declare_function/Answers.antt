use Rattle.std.proofs.Common.{◌≡◌, Some}
use Rattle.std.specs.Map.{keys_of}
use Rattle.pddl_syntax.specs.Forms.{predicate_form}
use Rattle.pddl_syntax.specs.Optional.{guard}
use Rattle.pddl_reader.specs.Domain.{may_have}
use Rattle.pddl_reader.specs.Variables.{argument_types_of}
use Rattle.pddl_reader.proofs.DeclarationLemmas.{may_declare_length}
use Rattle.pddl_reader.proofs.FunctionLemmas.{function_declared}
use Rattle.pddl_reader.proofs.resolution.functions.declare_function.Goals as goal

pub returns-clause-within : goal.returns-clause-within
returns-clause-within c =
    let new = c.in_ok-name.ensures in
    rw (c.in_ok-push.ensures.ok, new.0) (may_declare_length 4096 c.args.table.now _ c.in_ok-argument_types.argument_types new.1)

pub returns-clause-given : goal.returns-clause-given
returns-clause-given c =
    let new = c.in_ok-name.ensures in
    let types = keys_of c.args.types.now in
    let function = predicate_form c.args.function.now in
    let given : guard (may_have c.in_ok-name.name function.variables) (argument_types_of types function.variables) ≡ Some c.in_ok-argument_types.argument_types =
    c.in_ok-argument_types.ensures in
    rw (c.in_ok-push.ensures.ok, new.0) (function_declared types c.args.table.now function c.in_ok-argument_types.argument_types new.1 (rw (← new.0) given))

use Rattle.std.proofs.Common.{◌≡◌, true}
use Rattle.std.specs.Map.{keys_of}
use Rattle.pddl_reader.specs.Domain.{may_have}
use Rattle.pddl_reader.specs.Variables.{argument_types_of}
use Rattle.pddl_reader.proofs.FunctionLemmas.{let_through}
use Rattle.pddl_reader.proofs.resolution.functions.function_types.Goals as goal

pub returns : goal.returns
returns c =
    let variables = c.args.function.now.variables in
    let had : may_have c.args.name.now variables ≡ true = rw (← c.in_ok-variables.ensures, ← c.as_slice.ensures.value) c.in_ok-check_variables.ensures in
    rw (let_through (may_have c.args.name.now variables) (argument_types_of (keys_of c.args.types.now) variables) had, ← c.in_ok-variables.ensures, ← c.as_slice-2.ensures.value)
    c.argument_types.ensures

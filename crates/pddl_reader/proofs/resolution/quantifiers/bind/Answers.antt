use Rattle.std.specs.Map.{keys_of}
use Rattle.pddl_syntax.specs.Forms.{variable_groups}
use Rattle.pddl_reader.specs.Resolved.{bound_form}
use Rattle.pddl_reader.specs.Scopes.{bound_by}
use Rattle.pddl_reader.proofs.KeptQuantifiers.{own_paired}
use Rattle.pddl_reader.proofs.QuantifierMeaning.{has_entered, left_again}
use Rattle.pddl_reader.proofs.resolution.quantifiers.bind.Goals as goal

pub enter-requires : goal.enter-requires
enter-requires c = own_paired (keys_of c.args.types.now) (variable_groups c.args.groups.now) c.in_ok-declared.field-0 c.in_ok-declared.ensures

pub returns-clause-meaning : goal.returns-clause-meaning
returns-clause-meaning c =
    has_entered c.args.scope.now c.enter.new.self (bound_form c.in_ok-declared.field-0) c.in_ok-enter.ensures
    (bound_by (keys_of c.args.types.now) (variable_groups c.args.groups.now)) c.in_ok-declared.ensures

pub returns-clause-depth : goal.returns-clause-depth
returns-clause-depth c =
    left_again c.args.scope.now c.enter.new.self (bound_form c.in_ok-declared.field-0) c.in_ok-enter.ensures c.depth-depth.result c.depth-depth.ensures.names c.depth-depth.ensures.types

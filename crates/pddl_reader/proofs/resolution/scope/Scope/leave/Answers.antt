use Rattle.pddl_reader.specs.Resolved.{variables_form}
use Rattle.pddl_reader.proofs.ScopeMeaning.{left}
use Rattle.pddl_reader.proofs.resolution.scope.Scope.leave.Goals as goal

pub returns : goal.returns
returns c =
    let inside = c.self.inside in
    left (variables_form inside.parameters) inside.names.items c.truncate.new.self.items inside.types.items c.truncate-2.new.self.items c.args.self.now c.args.depth
    c.self.view_is c.truncate.ensures.items c.truncate-2.ensures.items

use Rattle.pddl_reader.specs.Resolved.{variables_form}
use Rattle.pddl_reader.proofs.ScopeMeaning.{entered}
use Rattle.pddl_reader.proofs.resolution.scope.Scope.enter.Goals as goal

pub returns : goal.returns
returns c =
    let own = c.args.own in
    let inside = c.self.inside in
    entered (variables_form inside.parameters) inside.names.items own.names.items c.extend_from_slice.new.self.items inside.types.items own.types c.append.new.self.items
    c.args.self.now c.self.view_is (rw (← c.as_slice.ensures.value) c.in_ok-extend_from_slice.ensures.items) (rw (← c.into_vec.ensures) c.in_default.ensures.items)

use Rattle.pddl_reader.proofs.resolution.variables.listed_types.Goals as goal

pub returns : goal.returns
returns c = rw (← c.in_ok-groups.ensures, ← c.as_slice.ensures.value) c.argument_types.ensures

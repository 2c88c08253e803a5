use Rattle.std.specs.Map.{keys_of}
use Rattle.pddl_syntax.specs.Forms.{word_forms}
use Rattle.pddl_reader.specs.Resolved.{variables_form}
use Rattle.pddl_reader.proofs.VariableMeaning.{group_both}
use Rattle.pddl_reader.proofs.resolution.variables.declare_group.Goals as goal

pub returns-clause-variables : goal.returns-clause-variables
returns-clause-variables c =
    rw (c.in_ok-put_argument_types.ensures, c.as_slice-3.ensures)
    (group_both (keys_of c.args.types.now) (variables_form c.args.declared.now) c.args.group.now (word_forms c.name_variables.new.names.items)
    c.in_ok-alternatives.alternatives (rw (← c.as_slice.ensures) c.in_ok-name_variables.ensures)
    (rw (← c.as_slice-2.ensures) c.in_ok-alternatives.ensures))

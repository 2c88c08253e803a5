use Rattle.pddl_syntax.specs.Forms.{atom_form, value_form}
use Rattle.pddl_reader.specs.Resolved.{vocabulary_form}
use Rattle.pddl_reader.proofs.InitialLemmas.{atom_put, value_put}
use Rattle.pddl_reader.proofs.resolution.initial.put_initial.Goals as goal

pub returns-in-Atom : goal.returns-in-Atom
returns-in-Atom c =
    rw c.in-Atom.is
    (atom_put (vocabulary_form c.args.vocabulary.now) c.args.state.now c.in-Atom.positive (atom_form c.in-Atom.atom) c.put_atom.result c.put_atom.new.atoms c.put_atom.ensures)

pub returns-in-Value : goal.returns-in-Value
returns-in-Value c =
    rw c.in-Value.is
    (value_put (vocabulary_form c.args.vocabulary.now) c.args.state.now (value_form c.in-Value.value) c.put_value.result c.put_value.new.values c.put_value.ensures)

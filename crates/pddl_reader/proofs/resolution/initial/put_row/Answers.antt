use Rattle.pddl_syntax.specs.Rows.{atom_spelled}
use Rattle.pddl_reader.specs.Resolved.{vocabulary_form}
use Rattle.pddl_reader.proofs.InitialLemmas.{row_put}
use Rattle.pddl_reader.proofs.resolution.initial.put_row.Goals as goal

pub returns-clause-put : goal.returns-clause-put
returns-clause-put c =
    row_put (vocabulary_form c.args.vocabulary.now) c.args.state.now (atom_spelled c.args.row.now) c.push_row.result c.push_row.new.self c.push_row.ensures.added

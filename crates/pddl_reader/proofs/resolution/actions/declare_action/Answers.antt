use Rattle.std.proofs.Common.{◌≡◌, true}
use Rattle.std.specs.Map.{keys_of}
use Rattle.pddl_words.specs.Words.{folded}
use Rattle.pddl_reader.specs.Declarations.{may_declare}
use Rattle.pddl_syntax.specs.Forms.{action_syntax_form}
use Rattle.pddl_reader.specs.Resolved.{vocabulary_form}
use Rattle.pddl_syntax.specs.Syntax.{action_form}
use Rattle.pddl_reader.proofs.ActionMeaning.{action_declared}
use Rattle.pddl_reader.proofs.DeclarationLemmas.{may_declare_new}
use Rattle.pddl_reader.proofs.resolution.actions.declare_action.Goals as goal

pub put_action-requires : goal.put_action-requires
put_action-requires c =
    let new = c.in_ok-name.ensures in
    rw new.0 (may_declare_new 4096 c.args.tables.now.actions (folded c.args.syntax.now.name.text.now) new.1)

pub returns : goal.returns
unfolding action_form
returns c =
    let tables = c.args.tables.now in
    let new = c.in_ok-name.ensures in
    let allowed : may_declare 4096 tables.actions (folded c.args.syntax.now.name.text.now) ≡ true = new.1 in
    rw (c.in_ok-put_action.ensures, new.0)
    (action_declared (keys_of c.args.types.now) (vocabulary_form c.args.vocabulary.now) tables (action_syntax_form c.args.syntax.now) c.in_ok-action.action allowed c.in_ok-action.ensures)

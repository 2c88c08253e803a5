use Rattle.std.proofs.Common.{◌∙◌, sym}
use Rattle.pddl_reader.specs.Resolved.{known_form}
use Rattle.pddl_reader.proofs.TermLemmas.{constant_known}
use Rattle.pddl_reader.proofs.resolution.terms.term.Goals as goal

pub returns : goal.returns
returns c =
    constant_known (known_form c.args.known.now) c.args.scope.now c.args.word.text.now c.in_ok-object.field-0
    (sym c.is_variable.ensures ∙ c.if-is_variable.false) c.in_ok-object.ensures

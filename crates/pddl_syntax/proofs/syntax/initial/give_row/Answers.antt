use Rattle.pddl_tokens.proofs.NamesArePlain.{names_are_plain}
use Rattle.pddl_syntax.specs.Levels.{here}
use Rattle.pddl_syntax.proofs.RowLemmas.{row_given}
use Rattle.pddl_syntax.proofs.syntax.initial.give_row.Goals as goal

pub pass-requires-clause-spelled : goal.pass-requires-clause-spelled
pass-requires-clause-spelled g c = names_are_plain c.in-Some.range.key.now (c.in_ok-take_row.ensures.names c.if-not-branch.false)

pub returns-clause-given : goal.returns-clause-given
returns-clause-given g c =
    λ _. row_given g.T.InitialTaker.given c.in-Some.range.key.now (here c.args.walk.now.cursor) (here c.pass.new.self.cursor) c.args.taker.now c.take_row.new.self c.heads_atom.result
    c.pass.ensures (c.in_ok-take_row.ensures.names c.if-not-branch.false) c.heads_atom.ensures c.if-not-heads_atom.false (c.in_ok-take_row.ensures.given c.if-not-branch.false)

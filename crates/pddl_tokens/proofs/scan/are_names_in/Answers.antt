use Rattle.std.proofs.Common.{◌∙◌, arith}
use Rattle.std.proofs.lemmas.Bool.{ne_eqb}
use Rattle.pddl_tokens.proofs.NamePairs.{same_len, other_len}
use Rattle.pddl_tokens.proofs.scan.are_names_in.Goals as goal

pub returns-then-names_len-size : goal.returns-then-names_len-size
returns-then-names_len-size c =
    same_len c.args.list.now c.args.key.now c.names_len.result c.requires (omega arith) (omega arith) c.names_len.ensures c.if-names_len-size.true

pub returns-else-names_len-size : goal.returns-else-names_len-size
returns-else-names_len-size c =
    ne_eqb _ _ c.if-names_len-size.false ∙ other_len c.args.list.now c.args.key.now c.names_len.result c.requires (omega arith) c.names_len.ensures c.if-names_len-size.false

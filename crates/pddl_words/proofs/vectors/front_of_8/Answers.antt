use Rattle.std.proofs.Common.{take, eqb, w8, arith}
use Rattle.std.proofs.lemmas.List.{length-take}
use Rattle.std.proofs.lemmas.Simd.{bitmask_splat}
use Rattle.pddl_words.proofs.FirstWords.{front_run}
use Rattle.pddl_words.proofs.vectors.front_of_8.Goals as goal

pub returns-else-spaces-eq0-clause-run : goal.returns-else-spaces-eq0-clause-run
returns-else-spaces-eq0-clause-run c =
    (front_run c.args.row.now 8 _ c.requires (omega arith) (bitmask_splat w8 eqb (take 8 c.args.row.now) 8 32 (omega (arith, c.requires, length-take 8 c.args.row.now)) (omega arith)) c.if-spaces-eq0.false).0

pub returns-else-spaces-eq0-clause-within : goal.returns-else-spaces-eq0-clause-within
returns-else-spaces-eq0-clause-within c =
    (front_run c.args.row.now 8 _ c.requires (omega arith) (bitmask_splat w8 eqb (take 8 c.args.row.now) 8 32 (omega (arith, c.requires, length-take 8 c.args.row.now)) (omega arith)) c.if-spaces-eq0.false).1

use Rattle.std.proofs.Common.{arith}
use Rattle.pddl_syntax.specs.Levels.{here}
use Rattle.pddl_syntax.proofs.RowLemmas.{passes_next, less_ahead}
use Rattle.pddl_syntax.proofs.walk.Walk.pass.Goals as goal

pub invariant_of-self : goal.invariant_of-self
invariant_of-self c =
    let walk = c.args.self.now in
    let range = c.args.range in
    let passes = passes_next walk.cursor range walk.balanced c.requires.next c.requires.spelled in
    record {
      balanced = passes.0;
      short = omega (arith, walk.short, less_ahead range.key.now (here walk.cursor) (here range.rest) passes.1);
    }

pub returns : goal.returns
returns c = (passes_next c.args.self.now.cursor c.args.range c.args.self.now.balanced c.requires.next c.requires.spelled).1

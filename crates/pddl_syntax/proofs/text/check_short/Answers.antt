use Rattle.std.proofs.Common.{sym, arith}
use Rattle.pddl_tokens.specs.Tokens.{pieces}
use Rattle.pddl_syntax.proofs.Depths.{text_fault_short}
use Rattle.pddl_syntax.proofs.text.check_short.Goals as goal

pub passes-init : goal.passes-init
unfolding pieces
passes-init c = record {
  so_far = sym (text_fault_short c.args.text.now c.requires);
  depth = omega arith;
  within = omega arith;
}

use Rattle.std.proofs.Common.{sym}
use Rattle.pddl_tokens.proofs.CommentRuns.{run_to, run_through}
use Rattle.pddl_tokens.proofs.scan.comment_run.Goals as goal

pub returns-in-Some-clause-run : goal.returns-in-Some-clause-run
returns-in-Some-clause-run c = sym (run_to c.args.bytes.now c.in-Some.end c.in-Some.ensures)

pub returns-in-None-clause-run : goal.returns-in-None-clause-run
returns-in-None-clause-run c = sym (run_through c.args.bytes.now c.in-None.ensures)

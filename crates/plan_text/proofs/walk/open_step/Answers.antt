use Rattle.plan_text.proofs.WalkLemmas.{way_rests, way_starts}
use Rattle.plan_text.proofs.walk.open_step.Goals as goal

pub tokens-init : goal.tokens-init
tokens-init c = way_starts c.args.text.now c.args.expected c.args.steps c.args.cursor.now c.requires.within c.requires.rests

pub next_between-requires-clause-rests : goal.next_between-requires-clause-rests
next_between-requires-clause-rests c = way_rests c.args.text.now c.args.expected c.tokens.expected c.args.steps c.args.cursor.now c.tokens.cursor c.tokens.invariant

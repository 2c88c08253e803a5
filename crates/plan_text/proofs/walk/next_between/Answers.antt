use Rattle.std.proofs.Common.{sym, ◌∙◌}
use Rattle.plan_text.proofs.WalkLemmas.{number_read, way_at, way_opens, way_refused, way_bad, way_ends}
use Rattle.plan_text.proofs.walk.next_between.Goals as goal

pub returns-then-not-takes_name : goal.returns-then-not-takes_name
returns-then-not-takes_name c =
    let first = rw c.in-Ok-Some.field-0-is at c.in-Ok-Some.ensures in
    number_read c.args.text.now c.args.expected c.in-Some.next c.args.steps c.args.cursor.now c.next.new.self _ _ _ first c.requires.within c.requires.rests c.in-Some.ensures (sym c.takes_name.ensures ∙ c.if-not-takes_name.true)

pub returns-in-Ok-None : goal.returns-in-Ok-None
returns-in-Ok-None c =
    let (none, _) = rw c.in-Ok-None.field-0-is at c.in-Ok-None.ensures in
    rw c.ended-opening.ensures (way_ends c.args.text.now c.args.expected c.args.expected c.args.steps c.args.cursor.now _ (way_at c.args.text.now c.args.expected c.args.steps c.args.cursor.now _ c.requires.within c.requires.rests none))

pub returns-else-not-takes_name : goal.returns-else-not-takes_name
returns-else-not-takes_name c =
    let first = rw c.in-Ok-Some.field-0-is at c.in-Ok-Some.ensures in
    way_opens c.args.text.now c.args.expected c.args.expected c.in-Some.next c.args.steps c.args.cursor.now c.next.new.self _ _ _ (way_at c.args.text.now c.args.expected c.args.steps c.args.cursor.now _ c.requires.within c.requires.rests first) c.in-Some.ensures (sym c.takes_name.ensures ∙ c.if-not-takes_name.false)

pub returns-in-None : goal.returns-in-None
returns-in-None c =
    let first = rw c.in-Ok-Some.field-0-is at c.in-Ok-Some.ensures in
    way_refused c.args.text.now c.args.expected c.args.expected c.args.steps c.args.cursor.now c.next.new.self _ _ _ (way_at c.args.text.now c.args.expected c.args.steps c.args.cursor.now _ c.requires.within c.requires.rests first) c.in-None.ensures

pub returns-in-Err : goal.returns-in-Err
returns-in-Err c = way_bad c.args.text.now c.args.expected c.args.expected c.args.steps c.in-Err.byte.at c.args.cursor.now (way_at c.args.text.now c.args.expected c.args.steps c.args.cursor.now _ c.requires.within c.requires.rests c.in-Err.ensures.0)

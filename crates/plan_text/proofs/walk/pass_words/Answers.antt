use Rattle.plan_text.proofs.WalkLemmas.{step_starts, step_goes_on, step_closes, step_refused, step_bad, step_ends}
use Rattle.plan_text.proofs.walk.pass_words.Goals as goal

pub words-init : goal.words-init
words-init c = step_starts c.args.text.now c.args.cursor.now c.requires.within

pub returns-in-Ok-None : goal.returns-in-Ok-None
returns-in-Ok-None c =
    let (none, _) = rw c.in-Ok-None.field-0-is at c.in-Ok-None.ensures in
    step_ends c.args.text.now c.words.some c.args.cursor.now (rw none at c.words.invariant)

pub words-preserved : goal.words-preserved
words-preserved c =
    let first = rw c.in-Ok-Some.field-0-is at c.in-Ok-Some.ensures in
    step_goes_on c.args.text.now c.words.some c.args.cursor.now c.next.new.self _ _ _ (rw first at c.words.invariant) c.in-Name.ensures

pub returns-in-Close : goal.returns-in-Close
returns-in-Close c =
    let first = rw c.in-Ok-Some.field-0-is at c.in-Ok-Some.ensures in
    step_closes c.args.text.now c.words.some c.args.cursor.now c.next.new.self _ _ _ (rw first at c.words.invariant) c.in-Close.ensures

pub returns-in-Fault : goal.returns-in-Fault
returns-in-Fault c =
    let first = rw c.in-Ok-Some.field-0-is at c.in-Ok-Some.ensures in
    step_refused c.args.text.now c.words.some c.args.cursor.now c.next.new.self _ _ _ (rw first at c.words.invariant) c.in-Fault.ensures

pub returns-in-Err : goal.returns-in-Err
returns-in-Err c = step_bad c.args.text.now c.words.some _ c.args.cursor.now (rw c.in-Err.ensures.0 at c.words.invariant)

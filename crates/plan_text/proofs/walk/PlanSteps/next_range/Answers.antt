use Rattle.plan_text.proofs.WholeSteps.{range_comes}
use Rattle.plan_text.proofs.walk.PlanSteps.next_range.Goals as goal

pub returns-then-self-lt-MOST_STEPS : goal.returns-then-self-lt-MOST_STEPS
returns-then-self-lt-MOST_STEPS c =
    range_comes c.args.self.now c.self.inside.text.now c.self.inside.cursor c.self.inside.expected c.self.inside.count c.paren_range.result c.self.view_is c.self.invariant.1 c.self.invariant.2 c.if-self-lt-MOST_STEPS.true c.paren_range.ensures

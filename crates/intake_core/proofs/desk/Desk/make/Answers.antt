use Rattle.std.proofs.Common.{ap}
use Rattle.intake_core.proofs.Going.{begins}
use Rattle.intake_core.proofs.Making.{kept-made, state-made}
use Rattle.intake_core.proofs.desk.Desk.make.Goals as goal

pub invariant_of-result : goal.invariant_of-result
invariant_of-result c = (
  kept-made _ _ c.args.planners _ _ c.requires.slots c.in_ok-with_capacity.ensures.items (c.in_ok-vec.ensures.items_if_clones_equal (λ y e. e)),
  c.in_ok-with_capacity.ensures.capacity,
)

pub returns-clause-state : goal.returns-clause-state
returns-clause-state c = state-made _ _ c.args.slots c.args.planners _ _ c.of.ensures c.in_ok-with_capacity.ensures.items (c.in_ok-vec.ensures.items_if_clones_equal (λ y e. e))

pub returns-clause-history : goal.returns-clause-history
returns-clause-history c = begins c.args.planners _ (ap (λ desk. desk.intake) (returns-clause-state c))

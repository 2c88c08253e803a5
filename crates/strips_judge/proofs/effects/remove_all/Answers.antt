use Rattle.strips_judge.specs.Grounding.{ground}
use Rattle.strips_judge.specs.NumberedState.{state_of}
use Rattle.strips_judge.proofs.Growth.{grows_twice}
use Rattle.strips_judge.proofs.StepLaws.{mapped_more, without-more}
use Rattle.strips_judge.proofs.effects.remove_all.Goals as goal

pub loop-pattern-preserved : goal.loop-pattern-preserved
loop-pattern-preserved c = (
  without-more (state_of c.args.state.now) (state_of c.loop-pattern.state) _ _ _ (ground c.args.objects.now c.pattern-item.result)
      (mapped_more (ground c.args.objects.now) c.args.patterns.now c.loop-pattern.pattern-index c.pattern-item.result c.loop-pattern-test.true c.pattern-item.is)
      c.loop-pattern.invariant.0
      c.in_ok-remove.ensures.state,
  grows_twice c.args.state.now c.loop-pattern.state c.remove.new.self c.loop-pattern.invariant.1 c.remove.ensures.grows,
)

pub returns-in_err-remove-clause-grows : goal.returns-in_err-remove-clause-grows
returns-in_err-remove-clause-grows c = grows_twice c.args.state.now c.loop-pattern.state c.remove.new.self c.loop-pattern.invariant.1 c.remove.ensures.grows

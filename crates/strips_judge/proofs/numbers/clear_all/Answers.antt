use Rattle.std.proofs.Common.{Some, ap, ◌∙◌}
use Rattle.strips_task.specs.AtomNumbers.{number_in}
use Rattle.strips_judge.specs.NumberedState.{state_of}
use Rattle.strips_judge.specs.State.{without}
use Rattle.strips_judge.proofs.AtomNumbers.{clear_more, take_beside}
use Rattle.strips_judge.proofs.numbers.clear_all.Goals as goal

pub loop-number-preserved : goal.loop-number-preserved
loop-number-preserved c = (
  c.clear.ensures.atoms ∙ c.loop-number.invariant.0,
  c.clear.ensures.initial ∙ c.loop-number.invariant.1,
  λ ground same. clear_more c.args.state.now.atoms ground c.args.numbers.now c.loop-number.number-index same c.loop-number-test.true
      (state_of c.args.state.now) (state_of c.loop-number.state) (state_of c.clear.new.self) (c.loop-number.invariant.2 ground same)
      (λ a is. c.clear.ensures.state a (ap (λ l. number_in l a) c.loop-number.invariant.0 ∙ is)),
)

pub returns-clause-state : goal.returns-clause-state
returns-clause-state c = λ ground same.
    c.loop-number.invariant.2 ground same
    ∙ ap (without (state_of c.args.state.now)) (take_beside (number_in c.args.state.now.atoms) Some ground c.args.numbers.now c.loop-number.number-index same c.loop-number-test.false)

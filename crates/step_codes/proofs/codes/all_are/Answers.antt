use Rattle.std.proofs.Common.{◌≡◌, subst, All, Some, arith, tests}
use Rattle.strips_task.specs.AtomNumbers.{number_in}
use Rattle.strips_judge.specs.NumberedState.{state_of}
use Rattle.strips_judge.proofs.AtomNumbers.{are_more, take_beside}
use Rattle.step_codes.proofs.codes.all_are.Goals as goal

pub loop-number-preserved : goal.loop-number-preserved
loop-number-preserved c = λ ground same.
    let fits : c.has.result ≡ c.args.truth = grind (arith, tests, c.if-has-truth.false) in
    are_more c.args.state.now.atoms ground c.args.numbers.now c.loop-number.number-index same c.loop-number-test.true
    (state_of c.args.state.now) c.args.truth c.has.result c.has.ensures.truth fits (c.loop-number.invariant ground same)

pub returns : goal.returns
returns c = λ t ground same.
    subst (All (λ atom. state_of c.args.state.now atom ≡ c.args.truth))
    (take_beside (number_in c.args.state.now.atoms) Some ground c.args.numbers.now c.loop-number.number-index same c.loop-number-test.false)
    (c.loop-number.invariant ground same)

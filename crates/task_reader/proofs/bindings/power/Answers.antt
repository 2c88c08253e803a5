use Rattle.std.proofs.Common.{◌≡◌, ◌+◌, ◌-◌, ◌*◌, min, ◌∙◌, sym, ap, arith}
use Rattle.task_reader.specs.Bindings.{times}
use Rattle.task_reader.specs.Capped.{capped, repeated}
use Rattle.task_reader.proofs.Capping.{capped_small, power_next}
use Rattle.task_reader.proofs.bindings.power.Goals as goal

pub loop-preserved : goal.loop-preserved
unfolding capped
loop-preserved c =
    let is : c.min-power.result ≡ capped (c.loop.power * c.args.count) = c.min-power.ensures ∙ ap (λ n. min (c.loop.power * n) 16777217) c.from.ensures in
    record {
      rest = ap (λ p. capped (times p (repeated (c.args.variables - (c.loop.counter + 1)) c.args.count))) is
          ∙ power_next c.loop.power c.args.count c.args.variables c.loop.counter _ (omega arith) c.loop.invariant.rest;
      bound = omega (arith, c.min-power.ensures);
    }

pub returns-clause-product : goal.returns-clause-product
returns-clause-product c =
    sym (capped_small c.loop.power c.loop.invariant.bound)
    ∙ ap (λ n. capped (times c.loop.power (repeated n c.args.count))) (let e : 0 ≡ c.args.variables - c.loop.counter = omega arith in e)
    ∙ c.loop.invariant.rest

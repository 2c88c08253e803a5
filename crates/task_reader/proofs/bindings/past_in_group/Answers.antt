use Rattle.std.proofs.Common.{◌≡◌, ◌+◌, ◌-◌, ◌*◌, ◌≤◌, ◌^◌, min, ◌∙◌, ap, arith}
use Rattle.std.specs.Option.{option_map}
use Rattle.task_reader.specs.Capped.{capped, past_in_group}
use Rattle.task_reader.proofs.Capping.{group_on}
use Rattle.task_reader.proofs.bindings.past_in_group.Goals as goal

pub loop-index-preserved : goal.loop-index-preserved
unfolding capped
loop-index-preserved c =
    let is : c.min-power.result ≡ capped (c.loop-index.power * c.args.count) = c.min-power.ensures ∙ ap (λ n. min (c.loop-index.power * n) 16777217) c.from.ensures in
    let small : min (c.args.counted + capped (c.loop-index.power * c.args.count)) (2 ^ 64 - 1) ≤ 16777216 =
    omega (arith, is, c.saturating_add.ensures, c.if-saturating_add-gt-MOST_BINDINGS.false) in
    record {
      rest = ap (λ p. option_map (λ more. c.loop-index.index + 1 + more) (past_in_group c.args.counted p c.args.count (c.args.variables - (c.loop-index.index + 1)))) is
          ∙ group_on c.args.counted c.loop-index.power c.args.count c.args.variables c.loop-index.index _ c.loop-index.invariant.rest (omega arith) small;
      bound = omega (arith, c.min-power.ensures);
    }

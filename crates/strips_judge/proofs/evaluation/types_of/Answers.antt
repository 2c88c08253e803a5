use Rattle.std.proofs.Common.{◌+◌, ◌<◌, ◌≤◌, ◌-◌, drop, length, slice_get, Some, sym, ap, ◌∙◌, arith}
use Rattle.formulas.specs.Variables.{variable_types}
use Rattle.strips_judge.proofs.VariableTypes.{in_group, in_later_group}
use Rattle.strips_judge.proofs.evaluation.types_of.Goals as goal

pub returns-then-left-len-clause-some : goal.returns-then-left-len-clause-some
returns-then-left-len-clause-some c =
    let within : c.loop-group.left < length c.group-item.result.names = omega (arith, c.if-left-len.true, c.len.ensures) in
    c.loop-group.invariant
    ∙ in_group c.args.groups.now c.loop-group.group-index c.group-item.result c.loop-group-test.true c.group-item.is c.loop-group.left within
    ∙ ap Some (sym c.as_slice.ensures)

pub loop-group-preserved : goal.loop-group-preserved
loop-group-preserved c =
    let beyond : length c.group-item.result.names ≤ c.loop-group.left = omega (arith, c.if-left-len.false, c.len.ensures) in
    c.loop-group.invariant
    ∙ in_later_group c.args.groups.now c.loop-group.group-index c.group-item.result c.loop-group-test.true c.group-item.is c.loop-group.left beyond
    ∙ ap (λ n. slice_get (variable_types (drop (c.loop-group.group-index + 1) c.args.groups.now)) (c.loop-group.left - n)) (sym c.len-left.ensures)

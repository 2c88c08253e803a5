use Rattle.std.proofs.Common.{◌≡◌, ◌+◌, ◌∙◌, sym, ap, arith, drop, length}
use Rattle.std.proofs.lemmas.List.{drop_all}
use Rattle.formulas.specs.Variables.{variable_types}
use Rattle.task_reader.specs.Bindings.{in_64_bits}
use Rattle.task_reader.proofs.Capping.{fits_64}
use Rattle.task_reader.proofs.Lists.{variables_next}
use Rattle.task_reader.proofs.bindings.variables_with.Goals as goal

pub loop-group-preserved : goal.loop-group-preserved
unfolding in_64_bits
loop-group-preserved c =
    let i = c.loop-group.group-index in
    record {
      rest = omega (
        arith,
        c.saturating_add-variables.ensures,
        c.len.ensures,
        c.loop-group.invariant.rest,
        variables_next c.args.groups.now i c.group-item.result c.loop-group-test.true c.group-item.is,
      );
      bound = omega (arith, c.saturating_add-variables.ensures);
    }

pub returns : goal.returns
returns c =
    let e : c.loop-group.variables ≡ c.loop-group.variables + length (variable_types (drop c.loop-group.group-index c.args.groups.now)) =
    omega (arith, ap (λ groups. length (variable_types groups)) (drop_all c.loop-group.group-index c.args.groups.now (omega arith))) in
    sym (fits_64 c.loop-group.variables c.loop-group.invariant.bound) ∙ ap in_64_bits e ∙ c.loop-group.invariant.rest

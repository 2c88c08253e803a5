use Rattle.std.proofs.Common.{◌≡◌, ◌+◌, ◌∙◌, sym, ap, arith, drop, length, None, Some}
use Rattle.std.proofs.lemmas.List.{drop_all}
use Rattle.task_reader.specs.Bindings.{choices_for, first_past, in_64_bits, times}
use Rattle.task_reader.specs.Capped.{capped, past_in_group, repeated}
use Rattle.task_reader.specs.Objects.{object_count}
use Rattle.task_reader.proofs.Capping.{choices_next, fits_64, first_none, group_after, group_past, not_some}
use Rattle.task_reader.proofs.bindings.variable_past.Goals as goal

pub returns-in-Some : goal.returns-in-Some
unfolding in_64_bits
returns-in-Some c =
    let task = c.args.counts.now.tally.task.now in
    let i = c.loop-group.group-index in
    let group = c.group-item.result in
    let counted = c.args.counted in
    let product = c.loop-group.product in
    let count = object_count task group.types in
    let others = choices_for task (drop (i + 1) c.args.groups.now) in
    let same : c.of-count.result ≡ count = c.of-count.ensures ∙ ap (object_count task) c.as_slice.ensures in
    let found : past_in_group counted product count (length group.names) ≡ Some c.in-Some.before =
    (λ j. past_in_group counted product (sym same j) (sym c.len-variables.ensures j)) ∙ sym c.past_in_group.ensures ∙ c.in-Some.is in
    let here : first_past counted product (choices_for task (drop i c.args.groups.now)) ≡ c.in-Some.before =
    ap (first_past counted product) (choices_next task c.args.groups.now i group c.loop-group-test.true c.group-item.is)
    ∙ group_past counted count (length group.names) product c.in-Some.before others found in
    omega (arith, c.saturating_add.ensures, here, c.loop-group.invariant.rest)

pub loop-group-preserved : goal.loop-group-preserved
unfolding in_64_bits
loop-group-preserved c =
    let task = c.args.counts.now.tally.task.now in
    let i = c.loop-group.group-index in
    let group = c.group-item.result in
    let counted = c.args.counted in
    let product = c.loop-group.product in
    let count = object_count task group.types in
    let others = choices_for task (drop (i + 1) c.args.groups.now) in
    let same : c.of-count.result ≡ count = c.of-count.ensures ∙ ap (object_count task) c.as_slice.ensures in
    let none : past_in_group counted product count (length group.names) ≡ None =
    (λ j. past_in_group counted product (sym same j) (sym c.len-variables.ensures j)) ∙ sym c.past_in_group.ensures ∙ not_some c.past_in_group.result c.in_default.not-Some in
    let power : c.power-product.result ≡ capped (times product (repeated (length group.names) count)) =
    c.power-product.ensures.product ∙ (λ j. capped (times product (repeated (c.len-variables.ensures j) (same j)))) in
    let after : first_past counted product (choices_for task (drop i c.args.groups.now)) ≡ length group.names + first_past counted c.power-product.result others =
    ap (first_past counted product) (choices_next task c.args.groups.now i group c.loop-group-test.true c.group-item.is)
    ∙ group_after counted count (length group.names) product others none
    ∙ ap (λ p. length group.names + first_past counted p others) (sym power) in
    record {
      rest = omega (arith, c.saturating_add-index.ensures, c.len-variables.ensures, after, c.loop-group.invariant.rest);
      fits = omega (arith, c.saturating_add-index.ensures);
      bound = c.power-product.ensures.bound;
    }

pub returns : goal.returns
returns c =
    let task = c.args.counts.now.tally.task.now in
    let e : c.loop-group.index ≡ c.loop-group.index + first_past c.args.counted c.loop-group.product (choices_for task (drop c.loop-group.group-index c.args.groups.now)) =
    omega (
      arith,
      first_none c.args.counted c.loop-group.product,
      ap (λ groups. first_past c.args.counted c.loop-group.product (choices_for task groups)) (drop_all c.loop-group.group-index c.args.groups.now (omega arith)),
    ) in
    sym (fits_64 c.loop-group.index c.loop-group.invariant.fits) ∙ ap in_64_bits e ∙ c.loop-group.invariant.rest

use Rattle.std.proofs.Common.{◌≡◌, ◌+◌, ◌∙◌, sym, ap, arith, drop, length}
use Rattle.std.proofs.lemmas.List.{drop_all}
use Rattle.task_reader.specs.Bindings.{choices_for, times}
use Rattle.task_reader.specs.Capped.{capped, repeated}
use Rattle.task_reader.specs.Objects.{object_count}
use Rattle.task_reader.proofs.Capping.{capped_small, choices_next, inside_next}
use Rattle.task_reader.proofs.bindings.inside.Goals as goal

pub loop-group-preserved : goal.loop-group-preserved
loop-group-preserved c =
    let task = c.args.counts.now.tally.task.now in
    let i = c.loop-group.group-index in
    let group = c.group-item.result in
    let count : c.of-count.result ≡ object_count task group.types = c.of-count.ensures ∙ ap (object_count task) c.as_slice.ensures in
    let power : c.power-product.result ≡ capped (times c.loop-group.product (repeated (length group.names) (object_count task group.types))) =
    c.power-product.ensures.product ∙ (λ j. capped (times c.loop-group.product (repeated (c.len.ensures j) (count j)))) in
    record {
      rest = ap (λ p. capped (times p (choices_for task (drop (i + 1) c.args.groups.now)))) power
          ∙ inside_next c.loop-group.product (object_count task group.types) (length group.names) _ _ _ (choices_next task c.args.groups.now i group c.loop-group-test.true c.group-item.is)
          c.loop-group.invariant.rest;
      bound = c.power-product.ensures.bound;
    }

pub returns-clause-product : goal.returns-clause-product
returns-clause-product c =
    let task = c.args.counts.now.tally.task.now in
    sym (capped_small c.loop-group.product c.loop-group.invariant.bound)
    ∙ ap (λ groups. capped (times c.loop-group.product (choices_for task groups))) (sym (drop_all c.loop-group.group-index c.args.groups.now (omega arith)))
    ∙ c.loop-group.invariant.rest

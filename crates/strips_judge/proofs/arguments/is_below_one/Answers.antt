use Rattle.std.proofs.Common.{slice_index, ap, sym, ◌∙◌}
use Rattle.std.proofs.lemmas.Grind.{get_or_default_zero}
use Rattle.std.proofs.lemmas.List.{drop_all}
use Rattle.std.specs.List.{list_any}
use Rattle.strips_task.specs.Types.{is_below}
use Rattle.strips_judge.proofs.Searches.{any_here, any_later}
use Rattle.strips_judge.proofs.arguments.is_below_one.Goals as goal

pub returns-then-is_subtype : goal.returns-then-is_subtype
returns-then-is_subtype c =
    let other = slice_index c.args.others.now c.loop-other.other-index in
    sym (c.loop-other.invariant
    ∙ any_here (is_below c.args.task.now.parents c.args.number) c.args.others.now c.loop-other.other-index
    other c.loop-other-test.true (sym (get_or_default_zero _ _ other c.loop-other-test.true)) (sym c.if-is_subtype.ensures.test))

pub loop-other-preserved : goal.loop-other-preserved
loop-other-preserved c =
    let other = slice_index c.args.others.now c.loop-other.other-index in
    c.loop-other.invariant
    ∙ any_later (is_below c.args.task.now.parents c.args.number) c.args.others.now c.loop-other.other-index
    other c.loop-other-test.true (sym (get_or_default_zero _ _ other c.loop-other-test.true)) (sym c.if-is_subtype.ensures.test)

pub returns : goal.returns
returns c = sym (c.loop-other.invariant ∙ ap (list_any (is_below c.args.task.now.parents c.args.number)) (drop_all c.loop-other.other-index c.args.others.now c.loop-other-test.false))

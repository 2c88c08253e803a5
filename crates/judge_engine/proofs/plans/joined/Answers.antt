use Rattle.std.proofs.Common.{◌<◌, None, Some, length, arith, ap, subst, sym, ◌∙◌}
use Rattle.std.proofs.lemmas.List.{length-map}
use Rattle.plan_text.specs.Bundle.{parts}
use Rattle.judge_engine.specs.Plans.{AreCutsOfFile, bytes_of, plan_of_cut, plan_of_part}
use Rattle.judge_engine.proofs.Fronts.{all_of_them, one_added, too_many}
use Rattle.judge_engine.proofs.plans.joined.Goals as goal

pub returns-in_default : goal.returns-in_default
returns-in_default c =
    let bundles = c.args.bundles.now in
    let i = c.loop-planner.planner in
    let lt : i < length bundles = omega (arith, c.loop-planner-test.true) in
    let past : AreCutsOfFile bundles i None =
    subst (AreCutsOfFile bundles i) (sym c.index-files-planner.is ∙ c.in_default.is) (c.requires.each i c.index-files-planner.result lt) in
    too_many bundles i c.loop-planner.cuts.items c.loop-planner.invariant lt (omega (arith, past))

pub returns-then-len : goal.returns-then-len
returns-then-len c =
    let bundles = c.args.bundles.now in
    let i = c.loop-planner.planner in
    let lt : i < length bundles = omega (arith, c.loop-planner-test.true) in
    let file : AreCutsOfFile bundles i (Some c.in-Some.more) =
    subst (AreCutsOfFile bundles i) (sym c.index-files-planner.is ∙ c.in-Some.is) (c.requires.each i c.index-files-planner.result lt) in
    too_many bundles i c.loop-planner.cuts.items c.loop-planner.invariant lt
    (omega (
      arith,
      c.if-len.true,
      c.len.ensures,
      c.len-in-loop-planner.ensures,
      c.loop-planner.invariant.few,
      ap length file.1,
      length-map c.in-Some.more.items (plan_of_cut bundles),
      length-map (parts (bytes_of bundles i)) (plan_of_part i),
    ))

pub loop-planner-preserved : goal.loop-planner-preserved
loop-planner-preserved c =
    let bundles = c.args.bundles.now in
    let i = c.loop-planner.planner in
    let lt : i < length bundles = omega (arith, c.loop-planner-test.true) in
    let file : AreCutsOfFile bundles i (Some c.in-Some.more) =
    subst (AreCutsOfFile bundles i) (sym c.index-files-planner.is ∙ c.in-Some.is) (c.requires.each i c.index-files-planner.result lt) in
    rw (c.in_ok-extend_from_slice.ensures.items, c.as_slice.ensures.value)
    (one_added bundles i c.loop-planner.cuts.items c.loop-planner.invariant c.in-Some.more.items lt file.0 file.1
    (omega (arith, c.if-len.false, c.len.ensures, c.len-in-loop-planner.ensures, c.loop-planner.invariant.few)))

pub returns : goal.returns
returns c = all_of_them c.args.bundles.now c.loop-planner.planner c.loop-planner.cuts.items c.loop-planner.invariant (omega (arith, c.loop-planner-test.false))

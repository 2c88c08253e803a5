use Rattle.std.proofs.Common.{◌+◌, List, ◌∙◌, ◌&&◌, drop, ap, sym, arith}
use Rattle.std.proofs.lemmas.Option.{get_or_from_slice_get}
use Rattle.std.specs.Cmp.Lexicographic.{pointwise}
use Rattle.strips_task.specs.declared.steps.StepText.{StepText}
use Rattle.strips_task.specs.StepView.{step_shown}
use Rattle.strips_task.specs.Steps.{step_eq}
use Rattle.strips_task.proofs.PairTests.{pairs_here}
use Rattle.strips_task.proofs.equality.have_same_steps.Goals as goal

pub returns-then-not-are_same : goal.returns-then-not-are_same
returns-then-not-are_same c =
    let index = c.loop-index.index in
    let xs : List StepText = c.args.first.now in
    let ys : List StepText = c.args.second.now in
    let x = step_shown c.get.result in
    let y = step_shown c.get-in-loop-index.result in
    let here = pairs_here step_eq xs ys index x y (omega arith) (omega arith)
    (get_or_from_slice_get xs index x x c.get.ensures) (get_or_from_slice_get ys index y y c.get-in-loop-index.ensures) in
    sym (c.loop-index.invariant ∙ here
    ∙ ap (λ b. b && pointwise step_eq (drop (index + 1) xs) (drop (index + 1) ys)) (sym c.are_same.ensures ∙ c.if-not-are_same.true))

pub loop-index-preserved : goal.loop-index-preserved
loop-index-preserved c =
    let index = c.loop-index.index in
    let xs : List StepText = c.args.first.now in
    let ys : List StepText = c.args.second.now in
    let x = step_shown c.get.result in
    let y = step_shown c.get-in-loop-index.result in
    let here = pairs_here step_eq xs ys index x y (omega arith) (omega arith)
    (get_or_from_slice_get xs index x x c.get.ensures) (get_or_from_slice_get ys index y y c.get-in-loop-index.ensures) in
    c.loop-index.invariant ∙ here
    ∙ ap (λ b. b && pointwise step_eq (drop (index + 1) xs) (drop (index + 1) ys)) (sym c.are_same.ensures ∙ c.if-not-are_same.false)

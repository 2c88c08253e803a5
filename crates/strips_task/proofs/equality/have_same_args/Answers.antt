use Rattle.std.proofs.Common.{ℕ, List, ◌+◌, ◌∙◌, ◌&&◌, drop, ap, sym, arith}
use Rattle.std.proofs.lemmas.Option.{get_or_from_slice_get}
use Rattle.std.specs.Cmp.Lexicographic.{pointwise}
use Rattle.std.specs.Str.{bytes_eq}
use Rattle.strips_task.specs.StepView.{step_shown}
use Rattle.strips_task.proofs.PairTests.{pairs_here, unequal, equal}
use Rattle.strips_task.proofs.equality.have_same_args.Goals as goal

pub returns-then-ne : goal.returns-then-ne
returns-then-ne c =
    let index = c.loop-index.index in
    let xs : List (List ℕ) = (step_shown c.args.first).args in
    let ys : List (List ℕ) = (step_shown c.args.second).args in
    let x : List ℕ = c.arg.result.now in
    let y : List ℕ = c.arg-in-loop-index.result.now in
    let here = pairs_here bytes_eq xs ys index x y (omega arith) (omega arith)
    (get_or_from_slice_get xs index x x c.arg.ensures) (get_or_from_slice_get ys index y y c.arg-in-loop-index.ensures) in
    sym (c.loop-index.invariant ∙ here
    ∙ ap (λ b. b && pointwise bytes_eq (drop (index + 1) xs) (drop (index + 1) ys)) (unequal (bytes_eq x y) c.ne.result c.ne.ensures c.if-ne.true))

pub loop-index-preserved : goal.loop-index-preserved
loop-index-preserved c =
    let index = c.loop-index.index in
    let xs : List (List ℕ) = (step_shown c.args.first).args in
    let ys : List (List ℕ) = (step_shown c.args.second).args in
    let x : List ℕ = c.arg.result.now in
    let y : List ℕ = c.arg-in-loop-index.result.now in
    let here = pairs_here bytes_eq xs ys index x y (omega arith) (omega arith)
    (get_or_from_slice_get xs index x x c.arg.ensures) (get_or_from_slice_get ys index y y c.arg-in-loop-index.ensures) in
    c.loop-index.invariant ∙ here
    ∙ ap (λ b. b && pointwise bytes_eq (drop (index + 1) xs) (drop (index + 1) ys)) (equal (bytes_eq x y) c.ne.result c.ne.ensures c.if-ne.false)

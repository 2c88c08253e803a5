use Rattle.std.proofs.Common.{◌≤◌, ◌∙◌, List, ℕ, length, ap, subst, sym}
use Rattle.std.specs.Prelude.{slice_range}
use Rattle.plan_text.specs.PlanReading.{plan_of}
use Rattle.judge_engine.proofs.Cutting.{bytes_are}
use Rattle.judge_engine.proofs.Outcomes.{if_ok_more}
use Rattle.judge_engine.proofs.plans.Cut.plan.Goals as goal

pub plan-requires-clause-within : goal.plan-requires-clause-within
plan-requires-clause-within c =
    let cut = c.args.self in
    let bundle = c.index-bundles-self in
    subst (λ (bs : List ℕ). cut.end ≤ length bs) (bytes_are c.args.bundles.now cut.planner bundle.result c.requires.0 bundle.is) c.requires.2

pub returns : goal.returns
returns c =
    let cut = c.args.self in
    let bundle = c.index-bundles-self in
    let bytes = bytes_are c.args.bundles.now cut.planner bundle.result c.requires.0 bundle.is in
    if_ok_more c.plan.result (λ plan is. is ∙ ap (λ (bs : List ℕ). plan_of (slice_range bs cut.start cut.end)) (sym bytes)) c.plan.ensures

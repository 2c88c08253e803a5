use Rattle.std.proofs.Common.{◌<◌, ◌+◌, ◌∷◌, get_or, drop, length, arith, sym, ap, ◌∙◌}
use Rattle.std.proofs.lemmas.List.{drop_all, get_or_default}
use Rattle.strips_judge.proofs.Searches.{left}
use Rattle.strips_task.specs.declared.plans.Plan.{Plan}
use Rattle.judge_engine.specs.Plans.{handed_in}
use Rattle.judge_engine.specs.declared.plans.Cut.{Cut}
use Rattle.judge_engine.proofs.plans.CutPlansIntake.next.Goals as goal

pub returns-then-self : goal.returns-then-self
returns-then-self c =
    let none = sym c.self.view_is ∙ ap (handed_in c.self.inside.bundles.now) (drop_all c.self.inside.next c.self.inside.cuts.now (omega (arith, c.if-self.true))) in
    (none, none)

pub plan-requires : goal.plan-requires
plan-requires c =
    let lt : c.self.inside.next < length c.self.inside.cuts.now = omega (arith, c.self.invariant.0, c.if-self.false) in
    c.self.invariant.1 c.self.inside.next (record { planner = 0; start = 0; end = 0 }) lt

pub invariant_of-self : goal.invariant_of-self
invariant_of-self c = (omega (arith, c.self.invariant.0, c.if-self.false), c.self.invariant.1)

pub returns : goal.returns
returns c =
    let bundles = c.self.inside.bundles.now in
    let cuts = c.self.inside.cuts.now in
    let next = c.self.inside.next in
    let empty : Cut = record { planner = 0; start = 0; end = 0 } in
    let cut : Cut = get_or cuts next empty in
    let lt : next < length cuts = omega (arith, c.self.invariant.0, c.if-self.false) in
    sym c.self.view_is
    ∙ ap (handed_in bundles) (left cuts next cut lt (get_or_default cuts next empty cut lt))
    ∙ ap (λ (p : Plan). record { planner = 0; plan = p } ∷ handed_in bundles (drop (next + 1) cuts)) (sym c.in_ok-plan.ensures)

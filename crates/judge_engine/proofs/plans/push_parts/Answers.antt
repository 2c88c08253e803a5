use Rattle.std.proofs.Common.{◌≡◌, ◌≤◌, ◌∷◌, arith, subst, sym, ◌∙◌, length, List, ℕ}
use Rattle.std.specs.Prelude.{slice_range}
use Rattle.std.proofs.lemmas.List.{length-map}
use Rattle.std.proofs.lemmas.List.Elements.{All-push}
use Rattle.plan_text.specs.Bundle.{parts_from, parts_behind}
use Rattle.judge_engine.specs.Plans.{AreCutsOf, IsCutOf, bytes_of, plan_of_cut, plans_of_cuts}
use Rattle.judge_engine.proofs.Cutting.{bytes_are, parts_past}
use Rattle.judge_engine.proofs.plans.push_parts.Goals as goal

pub returns-then-len-eq-MOST_PLANS-clause-plans : goal.returns-then-len-eq-MOST_PLANS-clause-plans
returns-then-len-eq-MOST_PLANS-clause-plans c =
    let bundles = c.args.bundles.now in
    let index = c.part_from-end.result in
    let bytes : c.bytes-bytes.result.now ≡ bytes_of bundles c.args.planner =
    c.bytes-bytes.ensures ∙ sym (bytes_are bundles c.args.planner c.index-bundles-planner.result c.requires.known c.index-bundles-planner.is) in
    let first : parts_from (bytes_of bundles c.args.planner) c.parts.start ≡ slice_range (bytes_of bundles c.args.planner) c.parts.start index.end ∷ parts_behind (bytes_of bundles c.args.planner) index.next =
    subst (λ (bs : List ℕ). parts_from bs c.parts.start ≡ slice_range bs c.parts.start index.end ∷ parts_behind bs index.next) bytes c.part_from-end.ensures.first in
    omega (
      arith,
      parts_past c.args.planner (bytes_of bundles c.args.planner) c.parts.start index.end index.next (plans_of_cuts bundles c.args.cuts.now.items) (plans_of_cuts bundles c.parts.cuts.items) c.parts.invariant.same first,
      length-map c.args.cuts.now.items (plan_of_cut bundles),
      length-map c.parts.cuts.items (plan_of_cut bundles),
      c.if-len-eq-MOST_PLANS.true,
      c.len.ensures,
      c.parts.cuts.ok.0,
    )

pub returns-in-None-clause-within : goal.returns-in-None-clause-within
returns-in-None-clause-within c =
    let bundles = c.args.bundles.now in
    let index = c.part_from-end.result in
    let bytes : c.bytes-bytes.result.now ≡ bytes_of bundles c.args.planner =
    c.bytes-bytes.ensures ∙ sym (bytes_are bundles c.args.planner c.index-bundles-planner.result c.requires.known c.index-bundles-planner.is) in
    let within = subst (λ (bs : List ℕ). index.end ≤ length bs) bytes c.part_from-end.ensures.within in
    subst (AreCutsOf bundles) (sym c.in_ok-push_cut.ensures)
    (All-push (IsCutOf bundles) c.parts.cuts.items (record { planner = c.args.planner; start = c.parts.start; end = index.end }) c.parts.invariant.within
    (c.requires.known, c.part_from-end.ensures.ordered, within))

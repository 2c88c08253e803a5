use Rattle.std.proofs.Common.{◌++◌, ◌∙◌, get_or, length, refl, ap, sym, arith}
use Rattle.std.proofs.lemmas.List.{drop_all, get_or_default}
use Rattle.judge_engine.specs.Plans.{plan_of_cut, plans_of_cuts}
use Rattle.judge_engine.specs.declared.plans.Cut.{Cut}
use Rattle.judge_engine.specs.Answer.{judged_plan}
use Rattle.judge_engine.specs.ReportPosition.{next_text, rest_text, position_with}
use Rattle.judge_engine.proofs.ReportPosition.{later_well, one_cut_more, start_well}
use Rattle.judge_engine.proofs.alone.push_each.Goals as goal

pub loop-cut-init : goal.loop-cut-init
loop-cut-init c = record {
  text = ap (λ s. c.args.text.now ++ rest_text c.args.format c.args.judge.now c.args.bundles.now s (plans_of_cuts c.args.bundles.now c.args.cuts.now)) c.start_of-position.ensures;
  position = start_well (length c.args.bundles.now) c.start_of-position.result c.requires.some c.start_of-position.ensures;
  task = refl;
}

pub push_judged-requires-clause-cut : goal.push_judged-requires-clause-cut
push_judged-requires-clause-cut c = c.requires.within c.loop-cut.cut-index (record { planner = 0; start = 0; end = 0 }) c.loop-cut-test.true

pub push_judged-requires-clause-position : goal.push_judged-requires-clause-position
push_judged-requires-clause-position c =
    let position = c.loop-cut.invariant.position in
    record { known = position.known; few = omega (arith, position.few, c.requires.few, c.loop-cut-test.true); some = position.some }

pub loop-cut-preserved : goal.loop-cut-preserved
loop-cut-preserved c =
    let task = c.args.judge.now in
    let bundles = c.args.bundles.now in
    let cuts = c.args.cuts.now in
    let number = c.loop-cut.cut-index in
    let empty : Cut = record { planner = 0; start = 0; end = 0 } in
    let cut : Cut = get_or cuts number empty in
    let is = get_or_default cuts number empty cut c.loop-cut-test.true in
    let plan = judged_plan task (plan_of_cut bundles cut).plan in
    let within = (c.requires.within number empty c.loop-cut-test.true).0 in
    let position = c.loop-cut.position in
    let added = c.in_ok-position.ensures.text ∙ (λ j. let t = c.loop-cut.invariant.task j in c.loop-cut.text ++ next_text c.args.format t bundles position cut.planner (judged_plan t (plan_of_cut bundles cut).plan)) in
    let stands = c.in_ok-position.ensures.position ∙ (λ j. position_with position cut.planner (judged_plan (c.loop-cut.invariant.task j) (plan_of_cut bundles cut).plan)) in
    record {
      text = one_cut_more c.args.format task bundles cuts number cut position c.in_ok-position.position plan c.loop-cut.text c.push_judged.new.text
          c.loop-cut-test.true is refl added stands
          ∙ c.loop-cut.invariant.text;
      position = later_well (length bundles) number cut.planner position c.in_ok-position.position plan within c.loop-cut.invariant.position stands;
      task = c.push_judged.ensures.task ∙ c.loop-cut.invariant.task;
    }

pub returns-clause-text : goal.returns-clause-text
returns-clause-text c =
    ap (λ l. c.loop-cut.text ++ rest_text c.args.format c.args.judge.now c.args.bundles.now c.loop-cut.position (plans_of_cuts c.args.bundles.now l))
    (sym (drop_all c.loop-cut.cut-index c.args.cuts.now c.loop-cut-test.false))
    ∙ c.loop-cut.invariant.text

pub returns-clause-known : goal.returns-clause-known
returns-clause-known c = c.loop-cut.invariant.position.known

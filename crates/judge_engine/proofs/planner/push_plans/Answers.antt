use Rattle.std.proofs.Common.{◌++◌, [], get_or, length, ap, sym, ◌∙◌, arith}
use Rattle.std.specs.Prelude.{slice_get, slice_index_or}
use Rattle.std.proofs.lemmas.List.{drop_all, get_or_default}
use Rattle.intake_rules.specs.declared.finding.Finding.{Finding}
use Rattle.report_text.specs.Report.{as_judged}
use Rattle.judge_engine.specs.Plans.{handed_in, plans_of_cuts}
use Rattle.judge_engine.specs.declared.plans.Cut.{Cut}
use Rattle.judge_engine.specs.ReportPosition.{rest_text}
use Rattle.judge_engine.proofs.Submitted.{count_found, found_at, list_of_all, one_list}
use Rattle.judge_engine.proofs.ReportPosition.{later_well, one_cut_more, start_well}
use Rattle.judge_engine.proofs.planner.push_plans.Goals as goal

pub loop-index-init : goal.loop-index-init
loop-index-init c = record {
  text = ap (λ s. c.args.text.now ++ rest_text c.args.format c.args.task.now c.args.bundles.now s (plans_of_cuts c.args.bundles.now c.args.cuts.now)) c.start_of-position.ensures;
  position = start_well (length c.args.bundles.now) c.start_of-position.result c.requires.some c.start_of-position.ensures;
}

pub get-finding-requires-clause-planner : goal.get-finding-requires-clause-planner
get-finding-requires-clause-planner c =
    omega (arith, ap length c.requires.findings, one_list c.args.task.now c.args.bundles.now (handed_in c.args.bundles.now c.args.cuts.now))

pub get-finding-requires-clause-plan : goal.get-finding-requires-clause-plan
get-finding-requires-clause-plan c =
    let list = ap (λ l. slice_index_or l 0 []) c.requires.findings ∙ list_of_all c.args.task.now c.args.bundles.now c.args.cuts.now in
    omega (arith, ap length list, count_found c.args.task.now c.args.bundles.now 0 c.args.cuts.now, c.loop-index-test.true)

pub push_next-requires-clause-planner : goal.push_next-requires-clause-planner
push_next-requires-clause-planner c =
    (c.requires.within c.loop-index.index (record { planner = 0; start = 0; end = 0 }) c.loop-index-test.true).0

pub push_next-requires-clause-position : goal.push_next-requires-clause-position
push_next-requires-clause-position c =
    let position = c.loop-index.invariant.position in
    record { known = position.known; few = omega (arith, position.few, c.requires.few, c.loop-index-test.true); some = position.some }

pub loop-index-preserved : goal.loop-index-preserved
loop-index-preserved c =
    let task = c.args.task.now in
    let bundles = c.args.bundles.now in
    let cuts = c.args.cuts.now in
    let index = c.loop-index.index in
    let empty : Cut = record { planner = 0; start = 0; end = 0 } in
    let cut : Cut = get_or cuts index empty in
    let is = get_or_default cuts index empty cut c.loop-index-test.true in
    let finding : Finding = c.get-finding.result.now in
    let list = ap (λ l. slice_index_or l 0 []) c.requires.findings ∙ list_of_all task bundles cuts in
    let judged = found_at task bundles 0 cuts index finding cut (sym (ap (λ l. slice_get l index) list) ∙ c.get-finding.ensures) c.loop-index-test.true is in
    let within = (c.requires.within index empty c.loop-index-test.true).0 in
    record {
      text = one_cut_more c.args.format task bundles cuts index cut c.loop-index.position c.in_ok-position.position (as_judged finding) c.loop-index.text c.push_next.new.text
          c.loop-index-test.true is judged c.in_ok-position.ensures.text c.in_ok-position.ensures.position
          ∙ c.loop-index.invariant.text;
      position = later_well (length bundles) index cut.planner c.loop-index.position c.in_ok-position.position (as_judged finding) within c.loop-index.invariant.position
          c.in_ok-position.ensures.position;
    }

pub returns-clause-text : goal.returns-clause-text
returns-clause-text c =
    ap (λ l. c.loop-index.text ++ rest_text c.args.format c.args.task.now c.args.bundles.now c.loop-index.position (plans_of_cuts c.args.bundles.now l))
    (sym (drop_all c.loop-index.index c.args.cuts.now c.loop-index-test.false))
    ∙ c.loop-index.invariant.text

pub returns-clause-known : goal.returns-clause-known
returns-clause-known c = c.loop-index.invariant.position.known

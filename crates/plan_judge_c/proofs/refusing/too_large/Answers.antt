use Rattle.std.proofs.Common.{◌∙◌, [], sym}
use Rattle.judge_engine.proofs.KeptTasks.{empty_fits}
use Rattle.judge_engine.proofs.TooLarge.{too_large_domain, too_large_problem, too_large_bundles}
use Rattle.plan_judge_c.specs.Inputs.{bundles_of}
use Rattle.plan_judge_c.proofs.refusing.too_large.Goals as goal

pub returns-then-texts-gt-FILE_LIMIT : goal.returns-then-texts-gt-FILE_LIMIT
returns-then-texts-gt-FILE_LIMIT c =
    let texts = c.args.texts.now in
    sym (too_large_domain texts.domain.bytes.now texts.problem.bytes.now (bundles_of texts.plans.now) c.if-texts-gt-FILE_LIMIT.true)

pub returns-then-texts-gt-FILE_LIMIT-2 : goal.returns-then-texts-gt-FILE_LIMIT-2
returns-then-texts-gt-FILE_LIMIT-2 c =
    let texts = c.args.texts.now in
    sym (too_large_problem texts.domain.bytes.now texts.problem.bytes.now (bundles_of texts.plans.now) c.if-texts-gt-FILE_LIMIT.false c.if-texts-gt-FILE_LIMIT-2.true)

pub returns : goal.returns
returns c =
    let texts = c.args.texts.now in
    c.too_large_plans.ensures ∙ too_large_bundles [] [] (bundles_of texts.plans.now) empty_fits empty_fits
    ∙ sym (too_large_bundles texts.domain.bytes.now texts.problem.bytes.now (bundles_of texts.plans.now) c.if-texts-gt-FILE_LIMIT.false c.if-texts-gt-FILE_LIMIT-2.false)

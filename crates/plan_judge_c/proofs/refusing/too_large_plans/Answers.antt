use Rattle.std.proofs.Common.{◌∙◌, [], sym}
use Rattle.judge_engine.proofs.KeptTasks.{empty_fits}
use Rattle.judge_engine.proofs.TooLarge.{too_large_bundles}
use Rattle.plan_judge_c.specs.Inputs.{bundles_of}
use Rattle.plan_judge_c.proofs.Answering.{large_file, small_file}
use Rattle.plan_judge_c.proofs.refusing.too_large_plans.Goals as goal

pub loop-number-init : goal.loop-number-init
loop-number-init c = too_large_bundles [] [] (bundles_of c.args.plans.now) empty_fits empty_fits

pub returns-then-file-gt-FILE_LIMIT : goal.returns-then-file-gt-FILE_LIMIT
returns-then-file-gt-FILE_LIMIT c =
    sym (c.loop-number.invariant ∙ large_file c.args.plans.now c.loop-number.number _ c.loop-number-test.true c.if-file-gt-FILE_LIMIT.true)

pub loop-number-preserved : goal.loop-number-preserved
loop-number-preserved c =
    c.loop-number.invariant ∙ small_file c.args.plans.now c.loop-number.number _ c.loop-number-test.true c.if-file-gt-FILE_LIMIT.false

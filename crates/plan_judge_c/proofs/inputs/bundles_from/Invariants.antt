use Rattle.std.proofs.Common.{◌≡◌, map, take}
use Rattle.plan_judge_c.specs.Inputs.{bundle_of}
use Rattle.plan_judge_c.proofs.inputs.bundles_from.Given as goal

-- The files so far are there.
abbrev pub invariant-loop-file : goal.invariant-loop-file
invariant-loop-file l = l.bundles.items ≡ map bundle_of (take l.file-index l.files)

use Rattle.std.proofs.Common.{◌≡◌, map, take}
use Rattle.plan_judge_c.specs.Inputs.{source_of}
use Rattle.plan_judge_c.proofs.inputs.sources_from.Given as goal

-- The files so far are there.
abbrev pub invariant-loop-file : goal.invariant-loop-file
invariant-loop-file l = l.sources.items ≡ map source_of (take l.file-index l.files)

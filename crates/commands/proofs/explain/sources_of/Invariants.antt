use Rattle.std.proofs.Common.{◌≡◌, map, take}
use Rattle.commands.proofs.explain.sources_of.Given as goal

-- The files so far are there.
abbrev pub invariant-loop-plan : goal.invariant-loop-plan
invariant-loop-plan l = map (λ file. file.bytes.now) l.sources.items ≡ map (λ plan. plan.bytes.items) (take l.plan-index l.plans)

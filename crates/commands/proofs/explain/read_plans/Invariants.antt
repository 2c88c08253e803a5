use Rattle.std.proofs.Common.{map, take}
use Rattle.commands.specs.Run.{AreTexts}
use Rattle.commands.proofs.explain.read_plans.Given as goal

-- The files so far were read.
abbrev pub invariant-loop-name : goal.invariant-loop-name
invariant-loop-name g l = AreTexts (g.S.Sources.may_hold l.sources) (map (λ name. name.now) (take l.name-index l.names)) (map (λ plan. plan.bytes.items) l.plans.items)

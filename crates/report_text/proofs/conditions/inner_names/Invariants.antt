use Rattle.std.proofs.Common.{◌≡◌, ◌++◌, map, take}
use Rattle.std.specs.Map.Iter.{deref}
use Rattle.report_text.specs.Conditions.{names_of}
use Rattle.report_text.proofs.conditions.inner_names.Given as goal

-- The names of the groups so far are behind those that are bound outside.
abbrev pub invariant-loop-group : goal.invariant-loop-group
invariant-loop-group l = map deref l.inner.items ≡ map deref l.names ++ names_of (take l.group-index l.groups)

use Rattle.std.proofs.Common.{◌≡◌, ◌++◌, map, take}
use Rattle.std.specs.Map.Iter.{deref}
use Rattle.report_text.proofs.conditions.extend_names.Given as goal

-- The names so far are behind those that were there.
abbrev pub invariant-loop-name : goal.invariant-loop-name
invariant-loop-name l = map deref l.inner.items ≡ map deref l.fn.inner.items ++ take l.name-index l.names

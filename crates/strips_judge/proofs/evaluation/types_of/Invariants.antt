use Rattle.std.proofs.Common.{◌≡◌, drop, slice_get}
use Rattle.formulas.specs.Variables.{variable_types}
use Rattle.strips_judge.proofs.evaluation.types_of.Given as goal

abbrev pub invariant-loop-group : goal.invariant-loop-group
invariant-loop-group l = slice_get (variable_types l.groups) l.fn.index ≡ slice_get (variable_types (drop l.group-index l.groups)) l.left

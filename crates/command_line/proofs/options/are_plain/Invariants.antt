use Rattle.std.proofs.Common.{◌≡◌, true, map, take}
use Rattle.std.specs.List.{list_all}
use Rattle.command_line.specs.Options.{is_plain}
use Rattle.command_line.proofs.options.are_plain.Given as goal

-- The names so far are plain.
abbrev pub invariant-loop-name : goal.invariant-loop-name
invariant-loop-name l = list_all is_plain (map (λ name. name.now) (take l.name-index l.names)) ≡ true

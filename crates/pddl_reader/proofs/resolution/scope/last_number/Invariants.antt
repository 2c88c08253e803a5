use Rattle.std.proofs.Common.{◌≡◌, None, drop}
use Rattle.pddl_syntax.specs.Forms.{word_forms}
use Rattle.pddl_reader.specs.Scopes.{last_number}
use Rattle.pddl_reader.proofs.resolution.scope.last_number.Given as goal

abbrev pub invariant-names : goal.invariant-names
invariant-names l = last_number l.word l.number l.last (word_forms (drop l.number l.names)) ≡ last_number l.word 0 None (word_forms l.names)

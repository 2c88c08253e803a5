use Rattle.std.proofs.Common.{map, ap, sym, ◌∙◌}
use Rattle.std.specs.String.{string_bytes}
use Rattle.command_line.specs.Words.{has_help}
use Rattle.command_line.proofs.HelpLemmas.{help_in_none}
use Rattle.std.proofs.lemmas.List.{nil_from_length}
use Rattle.command_line.proofs.words.has_help.Goals as goal

pub returns : goal.returns
returns c =
    let empty = nil_from_length c.words.rest.now c.in_default.ensures.cases in
    sym help_in_none ∙ ap (λ rest. has_help (map string_bytes rest)) (sym empty) ∙ c.words.invariant

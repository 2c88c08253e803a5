use Rattle.std.proofs.Common.{map, ap, sym, ◌∙◌}
use Rattle.std.specs.String.{string_bytes}
use Rattle.command_line.specs.Words.{value_of}
use Rattle.command_line.proofs.ValueLemmas.{value_in_none}
use Rattle.std.proofs.lemmas.List.{nil_from_length}
use Rattle.command_line.proofs.words.value_of.Goals as goal

pub returns : goal.returns
returns c =
    let empty = nil_from_length c.words.rest.now c.in_default.ensures.cases in
    sym (value_in_none c.args.option.now) ∙ ap (λ rest. value_of c.args.option.now (map string_bytes rest)) (sym empty) ∙ c.words.invariant

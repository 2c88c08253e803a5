use Rattle.std.proofs.Common.{ap, ◌∙◌, sym}
use Rattle.std.proofs.lemmas.Iterator.Adapters.{position_from-zero}
use Rattle.std.specs.List.{position_from}
use Rattle.std.specs.Map.{keys_of}
use Rattle.std.specs.Str.{bytes_eq}
use Rattle.strips_task.specs.Names.{number_named}
use Rattle.strips_task.proofs.NamedEntries.{word_stored}
use Rattle.strips_task.proofs.table.NameTable.number_among_all.Goals as goal

pub returns-in-Some-clause-number : goal.returns-in-Some-clause-number
unfolding number_named
returns-in-Some-clause-number g c =
    c.in-Some.ensures.index
    ∙ position_from-zero (bytes_eq c.args.word.now) (keys_of c.self.inside.entries.entries)
    ∙ ap (λ es. position_from (bytes_eq c.args.word.now) 0 (keys_of es)) c.self.view_is

pub returns-in-Some-clause-named : goal.returns-in-Some-clause-named
returns-in-Some-clause-named g c =
    word_stored c.args.self.now c.args.word.now c.get.result.0.now c.in-Some.number c.get.result.1.now (sym (returns-in-Some-clause-number g c)) c.get.ensures
    c.as_bytes-name.ensures.in_lower_case c.as_bytes-name.ensures.named

pub returns-in-None-clause-number : goal.returns-in-None-clause-number
unfolding number_named
returns-in-None-clause-number g c =
    c.in-None.ensures.index
    ∙ position_from-zero (bytes_eq c.args.word.now) (keys_of c.self.inside.entries.entries)
    ∙ ap (λ es. position_from (bytes_eq c.args.word.now) 0 (keys_of es)) c.self.view_is

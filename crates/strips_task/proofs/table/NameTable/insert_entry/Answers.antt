use Rattle.std.proofs.Common.{◌≡◌, None, ap, sym, ◌∙◌, slice_get}
use Rattle.strips_task.specs.Names.{number_named}
use Rattle.strips_task.proofs.NamedEntries.{inserted_new, none_looked_up, value_looked_up, table_again, table_more, name_numbered}
use Rattle.strips_task.proofs.table.NameTable.insert_entry.Goals as goal

pub invariant_of-self-in-Some : goal.invariant_of-self-in-Some
invariant_of-self-in-Some g c =
    table_again c.self.inside.entries.entries c.insert.new.self.entries c.args.name c.args.value c.in-Some.before c.self.inside.short_names
    c.in_ok-before.ensures.entries (sym c.in_ok-before.ensures.old ∙ c.in-Some.is) c.self.invariant

pub returns-in-Some-clause-present : goal.returns-in-Some-clause-present
returns-in-Some-clause-present g c =
    let found = value_looked_up c.self.inside.entries.entries c.args.name c.in-Some.before (sym c.in_ok-before.ensures.old ∙ c.in-Some.is) in
    (found.0, ap (λ es. number_named es c.args.name) (sym c.self.view_is) ∙ found.1, ap (λ es. slice_get es found.0) (sym c.self.view_is) ∙ found.2)

pub invariant_of-self-in-Some-short : goal.invariant_of-self-in-Some-short
invariant_of-self-in-Some-short g c =
    let old = c.self.inside.entries.entries in
    let new : number_named old c.args.name ≡ None = none_looked_up old c.args.name (sym c.in_ok-before.ensures.old ∙ c.in_default.is) in
    let is = c.in_ok-before.ensures.entries ∙ inserted_new old c.args.name c.args.value new in
    let table = table_more old c.insert.new.self.entries c.args.name c.args.value c.self.inside.short_names is new c.self.invariant in
    record {
      distinct = table.distinct;
      numbered = c.keep.ensures (number_named c.insert.new.self.entries)
          (name_numbered old c.insert.new.self.entries c.args.name c.as_bytes.result.now c.args.value c.in-Some-short.short c.len-number.result is new
          c.len-number.ensures.len (record { in_lower_case = c.as_bytes.ensures.in_lower_case; named = c.as_bytes.ensures.named }) c.as_bytes.ensures.bytes
          c.in-Some-short.ensures.word)
          table.numbered;
    }

pub invariant_of-self-in_default-short : goal.invariant_of-self-in_default-short
invariant_of-self-in_default-short g c =
    let old = c.self.inside.entries.entries in
    let new : number_named old c.args.name ≡ None = none_looked_up old c.args.name (sym c.in_ok-before.ensures.old ∙ c.in_default.is) in
    table_more old c.insert.new.self.entries c.args.name c.args.value c.self.inside.short_names
    (c.in_ok-before.ensures.entries ∙ inserted_new old c.args.name c.args.value new) new c.self.invariant

pub returns-clause-absent : goal.returns-clause-absent
returns-clause-absent g c =
    ap (λ es. number_named es c.args.name) (sym c.self.view_is)
    ∙ none_looked_up c.self.inside.entries.entries c.args.name (sym c.in_ok-before.ensures.old ∙ c.in_default.is)

use Rattle.std.proofs.Common.{◌∙◌, sym, ap, slice_range}
use Rattle.std.proofs.lemmas.Option.{get_or_from_slice_get}
use Rattle.text_judge.specs.declared.memo.Entry.{Entry}
use Rattle.text_judge.proofs.memo.find_entry.Goals as goal

pub returns-then-are_same-clause-key : goal.returns-then-are_same-clause-key
returns-then-are_same-clause-key c = λ entry at.
    ap (λ (e : Entry). slice_range c.args.bytes.now e.key_start e.key_end) (sym (get_or_from_slice_get c.args.entries.now c.in_ok-number.field-0.now entry _ at))
    ∙ sym c.key_of.ensures
    ∙ c.are_same.ensures.0 c.if-are_same.true

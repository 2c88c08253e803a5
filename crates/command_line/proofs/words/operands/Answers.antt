use Rattle.std.proofs.Common.{◌≡◌, [], ◌∷◌, map, ap, sym, ◌∙◌, ◌++◌, append-nil}
use Rattle.std.specs.String.{string_bytes}
use Rattle.command_line.specs.Words.{operands_from}
use Rattle.std.proofs.lemmas.List.{map-append, nil_from_length}
use Rattle.command_line.proofs.OperandLemmas.{operands_in_none, one_more}
use Rattle.command_line.proofs.words.operands.Goals as goal

pub words-preserved-in-Continue-branch-2 : goal.words-preserved-in-Continue-branch-2
words-preserved-in-Continue-branch-2 c =
    let found = map (λ word. word.now) c.words.operands.items in
    let same : c.as_str-word.result.now ≡ string_bytes c.in-Some.word.now = c.as_str-word.ensures.value in
    let pushed = ap (map (λ word. word.now)) c.in_ok-push.ensures.items ∙ map-append (λ word. word.now) c.words.operands.items (c.as_str-word.result ∷ []) in
    let so_far = rw (c.in-Some.ensures.cases.0, c.if-is_value.false, ← same) at c.words.invariant in
    rw c.if-is_value.false (one_more found _ c.as_str-word.result.now (map string_bytes c.in-Some.behind.now) _ pushed
    (sym c.eq.ensures ∙ c.if-eq.false) (sym c.takes_a_value.ensures ∙ c.if-takes_a_value.false) (sym c.is_option.ensures ∙ c.if-not-is_option.true) so_far)

pub returns : goal.returns
returns c =
    let empty = nil_from_length c.words.rest.now c.in_default.ensures.cases in
    let words = map (λ word. word.now) c.words.operands.items in
    sym (append-nil words) ∙ ap (λ others. words ++ others) (sym (operands_in_none c.words.is_value))
    ∙ ap (λ rest. words ++ operands_from c.words.is_value (map string_bytes rest)) (sym empty) ∙ c.words.invariant

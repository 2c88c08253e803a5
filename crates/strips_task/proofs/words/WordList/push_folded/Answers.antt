use Rattle.std.proofs.Common.{◌++◌, ◌∷◌, [], ap, ◌∙◌, arith, length, length-append}
use Rattle.pddl_words.specs.Words.{folded}
use Rattle.strips_task.specs.Parts.{parts_from}
use Rattle.strips_task.proofs.PartLemmas.{ends_push, parts_push}
use Rattle.strips_task.proofs.words.WordList.push_folded.Goals as goal

pub invariant_of-self-2 : goal.invariant_of-self-2
invariant_of-self-2 c =
    let total = ap length c.in_ok-append_folded.ensures.ok ∙ length-append c.self.inside.bytes.items (folded c.args.word.now) in
    rw (c.in_ok-push.ensures.items, c.as_slice-end.ensures.value, c.reserve.ensures.items)
    (ends_push 0 c.self.inside.ends.items (length c.self.inside.bytes.items) (length c.append_folded.new.bytes.items) c.self.invariant (omega (arith, total)))

pub returns-clause-ok : goal.returns-clause-ok
returns-clause-ok c =
    let total = ap length c.in_ok-append_folded.ensures.ok ∙ length-append c.self.inside.bytes.items (folded c.args.word.now) in
    let ends = c.in_ok-push.ensures.items ∙ (λ k. c.reserve.ensures.items k ++ length (c.as_slice-end.ensures.value k) ∷ []) in
    (λ j. parts_from (c.in_ok-append_folded.ensures.ok j) 0 (ends j))
    ∙ parts_push c.self.inside.bytes.items (folded c.args.word.now) 0 c.self.inside.ends.items (length c.append_folded.new.bytes.items) c.self.invariant total
    ∙ ap (λ l. l ++ folded c.args.word.now ∷ []) c.self.view_is

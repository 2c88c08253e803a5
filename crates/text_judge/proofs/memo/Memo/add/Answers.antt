use Rattle.std.proofs.Common.{◌≡◌, ◌∷◌, ◌++◌, [], ℕ, ◌∙◌, length, subst, ap, arith}
use Rattle.step_codes.specs.Codes.{code_shown}
use Rattle.text_judge.specs.Known.{IsEntryFor}
use Rattle.text_judge.proofs.KnownLaws.{known_added, within_added}
use Rattle.text_judge.proofs.memo.Memo.add.Goals as goal

pub invariant_of-self-2 : goal.invariant_of-self-2
invariant_of-self-2 c =
    let bytes = c.self.inside.bytes.items in
    let numbers = c.self.inside.numbers.items in
    let instructions = c.self.inside.instructions.items in
    let entries = c.self.inside.entries.items in
    let code = code_shown c.args.code in
    let many_bytes : c.len.result ≡ length bytes = omega (arith, c.len.ensures) in
    let many_numbers : c.len-2.result ≡ length numbers = omega (arith, c.len-2.ensures) in
    let many_instructions : c.len-3.result ≡ length instructions = omega (arith, c.len-3.ensures) in
    let is = subst (λ (n : ℕ). IsEntryFor c.in-Some.entry n (length numbers) (length instructions) c.args.key.now code c.args.amount) many_bytes
    (subst (λ (n : ℕ). IsEntryFor c.in-Some.entry c.len.result n (length instructions) c.args.key.now code c.args.amount) many_numbers
    (subst (λ (n : ℕ). IsEntryFor c.in-Some.entry c.len.result c.len-2.result n c.args.key.now code c.args.amount) many_instructions c.in-Some.ensures)) in
    within_added bytes numbers c.args.key.now instructions code c.args.amount entries c.in-Some.entry c.append.new.list.items c.append_code.new.numbers.items c.append-2.new.list.items c.push_reserved.new.self.items
    c.self.invariant is
    (c.append.ensures.items ∙ ap (λ l. l ++ c.args.key.now) c.reserve.ensures.items)
    (c.append_code.ensures ∙ ap (λ l. (((l ++ code.needed) ++ code.forbidden) ++ code.deleted) ++ code.added) c.reserve-2.ensures.items)
    (c.append-2.ensures.items ∙ ap (λ l. l ++ code.program) c.reserve-3.ensures.items)
    (c.push_reserved.ensures.items ∙ ap (λ l. l ++ c.in-Some.entry ∷ []) c.reserve-4.ensures.items)

pub returns-clause-added : goal.returns-clause-added
returns-clause-added c = λ t.
    let bytes = c.self.inside.bytes.items in
    let numbers = c.self.inside.numbers.items in
    let instructions = c.self.inside.instructions.items in
    let entries = c.self.inside.entries.items in
    let code = code_shown c.args.code in
    let many_bytes : c.len.result ≡ length bytes = omega (arith, c.len.ensures) in
    let many_numbers : c.len-2.result ≡ length numbers = omega (arith, c.len-2.ensures) in
    let many_instructions : c.len-3.result ≡ length instructions = omega (arith, c.len-3.ensures) in
    let is = subst (λ (n : ℕ). IsEntryFor c.in-Some.entry n (length numbers) (length instructions) c.args.key.now code c.args.amount) many_bytes
    (subst (λ (n : ℕ). IsEntryFor c.in-Some.entry c.len.result n (length instructions) c.args.key.now code c.args.amount) many_numbers
    (subst (λ (n : ℕ). IsEntryFor c.in-Some.entry c.len.result c.len-2.result n c.args.key.now code c.args.amount) many_instructions c.in-Some.ensures)) in
    known_added bytes numbers c.args.key.now instructions code c.args.amount entries c.in-Some.entry c.append.new.list.items c.append_code.new.numbers.items c.append-2.new.list.items c.push_reserved.new.self.items
    c.self.invariant is
    (c.append.ensures.items ∙ ap (λ l. l ++ c.args.key.now) c.reserve.ensures.items)
    (c.append_code.ensures ∙ ap (λ l. (((l ++ code.needed) ++ code.forbidden) ++ code.deleted) ++ code.added) c.reserve-2.ensures.items)
    (c.append-2.ensures.items ∙ ap (λ l. l ++ code.program) c.reserve-3.ensures.items)
    (c.push_reserved.ensures.items ∙ ap (λ l. l ++ c.in-Some.entry ∷ []) c.reserve-4.ensures.items)
    ∙ ap (λ l. l ++ record { key = c.args.key.now; code = code; amount = c.args.amount } ∷ []) c.self.view_is

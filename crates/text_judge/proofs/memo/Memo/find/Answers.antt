use Rattle.std.proofs.Common.{◌≡◌, ◌<◌, ◌∙◌, Some, option_map, length, slice_get, slice_range, sym, ap, arith}
use Rattle.std.proofs.lemmas.Option.{slice_get-get_or, slice_get-map}
use Rattle.step_codes.specs.Codes.{code_shown}
use Rattle.text_judge.specs.Known.{known_at}
use Rattle.text_judge.proofs.memo.Memo.find.Goals as goal

pub returns-in-Some : goal.returns-in-Some
returns-in-Some c =
    let bytes = c.self.inside.bytes.items in
    let numbers = c.self.inside.numbers.items in
    let instructions = c.self.inside.instructions.items in
    let entries = c.self.inside.entries.items in
    let number = c.in-Some.number in
    let entry = c.index.result.now in
    let lt : number < length entries = omega (arith, c.in-Some.ensures.within, ap length c.deref-2.ensures.value) in
    let at : slice_get entries number ≡ Some entry = slice_get-get_or entries number entry lt ∙ ap Some (sym c.index.ensures) in
    let key : slice_range bytes entry.key_start entry.key_end ≡ c.args.key.now =
    ap (λ l. slice_range l entry.key_start entry.key_end) (sym c.deref-3.ensures.value)
    ∙ c.in-Some.ensures.key entry (ap (λ l. slice_get l number) c.deref-2.ensures.value ∙ at) in
    let code = c.known_step.ensures.code bytes ∙ (λ j. (known_at bytes (c.deref-in-Some.ensures.value j) (c.deref-in-Some-2.ensures.value j) entry).code) in
    let known : known_at bytes numbers instructions entry ≡ record { key = c.args.key.now; code = code_shown c.known_step.result.code; amount = c.known_step.result.amount } =
    (λ j. record { key = key j; code = sym code j; amount = sym c.known_step.ensures.amount j }) in (
      number,
      ap (λ l. slice_get l number) (sym c.self.view_is)
          ∙ slice_get-map (known_at bytes numbers instructions) entries number
          ∙ ap (option_map (known_at bytes numbers instructions)) at
          ∙ ap Some known,
    )

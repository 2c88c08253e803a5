use Rattle.std.proofs.Common.{◌<◌, ◌+◌, length, sym, ◌∙◌, arith}
use Rattle.pddl_tokens.specs.Tokens.{span}
use Rattle.pddl_tokens.proofs.PlainRows.{class_by}
use Rattle.pddl_tokens.proofs.Lemmas.{word_step}
use Rattle.pddl_tokens.proofs.scan.Cursor.word.Goals as goal

pub returns : goal.returns
returns c =
    let start = c.skip_blanks-start.result in
    let within : start < length c.self.inside.text.now = omega arith in
    let class = class_by _ (sym c.is_word_byte.ensures ∙ c.if-not-is_word_byte.false) in (
      span start (start + c.word_len.result),
      sym c.self.view_is ∙ sym c.skip_blanks-start.ensures.same
          ∙ word_step _ start c.word_len.result within class c.word_len.ensures.run,
    )

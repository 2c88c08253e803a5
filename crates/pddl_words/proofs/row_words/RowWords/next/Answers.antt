use Rattle.std.proofs.Common.{◌+◌, ◌∷◌, [], take, drop, sym, ap, ◌∙◌, arith}
use Rattle.std.specs.Prelude.{if◌then◌else◌}
use Rattle.pddl_words.specs.SpacedWords.{words_of}
use Rattle.pddl_words.proofs.FirstWords.{last_word, more_words, rest_whole}
use Rattle.pddl_words.proofs.row_words.RowWords.next.Goals as goal

pub returns-then-len-row : goal.returns-then-len-row
returns-then-len-row c =
    let row = c.self.inside.rest.now in
    sym c.self.view_is
    ∙ ap (λ over. if over then [] else words_of row) c.if-self.false
    ∙ last_word row (sym c.first_word_len-len.ensures.run ∙ c.if-len-row.true)

pub returns : goal.returns
returns c =
    let row = c.self.inside.rest.now in
    let len = c.first_word_len-len.result in
    sym c.self.view_is
    ∙ ap (λ over. if over then [] else words_of row) c.if-self.false
    ∙ more_words row (omega (arith, c.first_word_len-len.ensures.run, c.first_word_len-len.ensures.within, c.if-len-row.false))
    ∙ ap (λ n. take n row ∷ words_of (drop (n + 1) row)) (sym c.first_word_len-len.ensures.run)
    ∙ ap (λ over. take len row ∷ (if over then [] else words_of (drop (len + 1) row))) (sym c.if-self.false)
    ∙ ap (λ behind. take len row ∷ (if c.self.inside.is_over then [] else words_of behind)) (sym (rest_whole row (len + 1)))

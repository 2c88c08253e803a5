use Rattle.std.proofs.Common.{◌+◌, ap, sym, ◌∙◌}
use Rattle.std.specs.List.{prefix_len}
use Rattle.pddl_words.specs.SpacedWords.{is_in_word}
use Rattle.pddl_words.proofs.FirstWords.{rest_whole, run_goes_on}
use Rattle.pddl_words.proofs.row_words.first_word_len.Goals as goal

pub returns-clause-run : goal.returns-clause-run
returns-clause-run c =
    let front = c.front_len-front.result in
    ap (λ n. front + n) (c.word_len.ensures.run ∙ ap (prefix_len is_in_word) (rest_whole c.args.row.now front))
    ∙ sym (run_goes_on is_in_word c.args.row.now front c.front_len-front.ensures.run)

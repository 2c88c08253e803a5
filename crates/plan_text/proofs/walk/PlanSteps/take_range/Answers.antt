use Rattle.std.proofs.Common.{◌≡◌, ◌++◌, ap, ◌∙◌}
use Rattle.pddl_words.specs.SpacedWords.{words_of}
use Rattle.pddl_tokens.specs.ParenRanges.{range_pieces}
use Rattle.pddl_tokens.proofs.NamesArePlain.{names_are_plain}
use Rattle.plan_text.proofs.WholeSteps.{row_in_range, takes_range}
use Rattle.plan_text.proofs.walk.PlanSteps.take_range.Goals as goal

pub returns : goal.returns
returns c =
    let range = c.args.range in
    let key = range.key.now in
    let first : c.self.inside.cursor ≡ range_pieces range.start key ++ range.rest = ap (λ w. w.rest) c.self.view_is ∙ c.requires.next.first (names_are_plain key c.requires.spelled) in
    let words : c.words_inside-words.result ≡ words_of key = c.words_inside-words.ensures _ _ _ first ∙ row_in_range range.start key range.rest in
    takes_range c.args.self.now c.skip.new.self key c.words_inside-words.result words c.requires.spelled c.skip.ensures

use Rattle.std.proofs.Common.{sym, ◌∙◌}
use Rattle.steps_text.specs.Words.{is_space}
use Rattle.steps_text.proofs.Positions.{none_passes}
use Rattle.steps_text.proofs.words.word_len.Goals as goal

pub returns-in-None-clause-length : goal.returns-in-None-clause-length
returns-in-None-clause-length c = none_passes is_space c.args.words.now (sym c.first_space.ensures.at ∙ c.in-None.is)

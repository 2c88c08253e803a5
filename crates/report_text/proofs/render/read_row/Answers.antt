use Rattle.report_text.proofs.RowTexts.{some_read}
use Rattle.report_text.proofs.render.read_row.Goals as goal

pub close_step-requires-clause-has_action : goal.close_step-requires-clause-has_action
close_step-requires-clause-has_action c = some_read c.args.row.now c.words.step.words c.words.words c.in_default.ensures c.words.invariant.words

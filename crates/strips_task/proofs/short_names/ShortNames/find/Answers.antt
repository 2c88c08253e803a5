use Rattle.strips_task.proofs.Found.{follows}
use Rattle.strips_task.proofs.short_names.ShortNames.find.Goals as goal

pub returns : goal.returns
returns c = follows c.find_short.result _ _ (λ number found number_of numbered. found number_of numbered c.args.word.now c.in_ok-asked.ensures.word) c.find_short.ensures

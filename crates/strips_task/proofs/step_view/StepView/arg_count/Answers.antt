use Rattle.strips_task.proofs.StepWords.{args_count}
use Rattle.strips_task.proofs.step_view.StepView.arg_count.Goals as goal

pub returns : goal.returns
returns c = args_count c.args.self.now.words.now c.args.self.now.first c.args.self.now.end c.args.self.now.not_empty c.args.self.now.within

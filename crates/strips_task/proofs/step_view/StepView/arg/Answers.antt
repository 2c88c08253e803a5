use Rattle.std.proofs.Common.{◌≡◌, ◌+◌, ◌-◌, ap, ◌∙◌, arith, slice_get}
use Rattle.strips_task.proofs.StepWords.{args_count, arg_at}
use Rattle.strips_task.proofs.step_view.StepView.arg.Goals as goal

pub overflow_sub-self : goal.overflow_sub-self
overflow_sub-self c =
    omega (arith, args_count c.args.self.now.words.now c.args.self.now.first c.args.self.now.end c.args.self.now.not_empty c.args.self.now.within, c.arg_count.ensures)

pub get-requires : goal.get-requires
get-requires c =
    omega (arith, args_count c.args.self.now.words.now c.args.self.now.first c.args.self.now.end c.args.self.now.not_empty c.args.self.now.within, c.arg_count.ensures)

pub returns : goal.returns
returns c =
    let index : c.args.self.now.first + 1 + c.args.index ≡ c.args.self.now.end - (c.arg_count.result - c.args.index) =
    omega (arith, args_count c.args.self.now.words.now c.args.self.now.first c.args.self.now.end c.args.self.now.not_empty c.args.self.now.within, c.arg_count.ensures) in
    arg_at c.args.self.now.words.now c.args.self.now.first c.args.self.now.end c.args.index c.args.self.now.not_empty c.args.self.now.within c.requires
    ∙ ap (slice_get c.args.self.now.words.now) index
    ∙ c.get.ensures

use Rattle.std.proofs.Common.{Option, subst, sym}
use Rattle.strips_task.specs.declared.costs.CostedTask.{CostedTask}
use Rattle.text_judge.specs.declared.pass.Passed.{Passed}
use Rattle.text_judge.specs.Passes.{GoOnOrEnd}
use Rattle.text_judge.specs.Watches.{AreWatched, IsWatched}
use Rattle.text_judge.proofs.Histories.{ends_watch}
use Rattle.text_judge.proofs.Pairs.{zip_length}
use Rattle.text_judge.proofs.history.watch_steps.Goals as goal

pub returns-in-Some-clause-passed : goal.returns-in-Some-clause-passed
returns-in-Some-clause-passed c =
    let together = c.steps.invariant.together in
    let atoms = c.args.atoms.now in
    let end = subst (λ (o : Option Passed). GoOnOrEnd o c.advance.new.walk c.advance.new.judge together.steps) c.in-Some.is
    (c.in_ok-passed.ensures.next together.steps together.passed together.taken) in
    ends_watch c.in-Some.passed c.advance.new.walk c.advance.new.judge together.steps atoms c.steps.watches end
    (subst (λ (t : CostedTask). AreWatched t.task together.steps atoms c.steps.watches) (sym c.in_ok-passed.ensures.task) together.watched)

pub note-requires : goal.note-requires
note-requires c =
    let together = c.steps.invariant.together in
    zip_length (IsWatched c.steps.judge.task.task together.steps) c.args.atoms.now c.steps.watches together.watched

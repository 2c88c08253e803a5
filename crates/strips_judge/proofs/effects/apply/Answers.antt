use Rattle.std.proofs.Common.{◌≡◌, ap, ◌∙◌, map, arith, tests, IsTrue, []}
use Rattle.strips_judge.specs.Grounding.{ground}
use Rattle.strips_judge.specs.NumberedState.{state_of}
use Rattle.strips_judge.specs.State.{with_all, without}
use Rattle.strips_judge.proofs.ActionEffects.{after_plain}
use Rattle.strips_judge.proofs.Gathering.{ok_as}
use Rattle.strips_judge.proofs.Growth.{grows_twice}
use Rattle.strips_judge.proofs.effects.apply.Goals as goal

pub returns-clause-grows : goal.returns-clause-grows
returns-clause-grows c = grows_twice c.args.state.now c.remove_all.new.state c.insert_all.new.state c.remove_all.ensures.grows c.insert_all.ensures.grows

pub returns-clause-state : goal.returns-clause-state
returns-clause-state c =
    let objects = c.args.arguments.objects.now in
    let none : c.args.action.now.effects ≡ [] = let empty : IsTrue c.is_empty.result = grind (arith, tests, c.if-not-is_empty.false) in c.is_empty.ensures.0 empty in
    ok_as c.insert_all.result
    (λ is. after_plain c.args.arguments.task.now objects (state_of c.args.state.now) c.args.action.now none (state_of c.remove_all.new.state) (state_of c.insert_all.new.state)
    (c.in_ok-remove_all.ensures.state ∙ ap (λ l. without (state_of c.args.state.now) (map (ground objects) l)) c.as_slice.ensures)
    (is ∙ ap (λ l. with_all (state_of c.remove_all.new.state) (map (ground objects) l)) c.as_slice-2.ensures))
    c.insert_all.ensures.state
